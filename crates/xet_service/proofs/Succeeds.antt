-- A valid read's steps all succeed.
use Rattle.std.proofs.Common.{◌≡◌, ◌∙◌, ℕ, zero, suc, ◌+◌, ◌⊎◌, true, false, Bool, cond, List, [], ◌∷◌, length, map, set, Option, Some, None, Result, Ok, Err, refl, sym, ap, subst, arith, inl, inr}
use Rattle.std.specs.Prelude.{slice_get, is_none}
use Rattle.std.specs.Ordering.{is_eq}
use Rattle.std.specs.Cmp.{tied_itself}
use Rattle.std.proofs.lemmas.Cmp.{nat_cmp_total}
use Rattle.std.specs.FinMap.{get, insert, get-insert}
use Rattle.std.proofs.lemmas.List.Sums.{sum_by-cons}
use Rattle.xet_types.specs.declared.error.Refusal.{Refusal}
use Rattle.xet_plan.specs.FileBytes.{Content}
use Rattle.xet_store.specs.StoreModel.{Chunks, stored}
use Rattle.xet_service.specs.Links.{LinkModel}
use Rattle.xet_service.specs.declared.reply.Reply.TheVariants.{Fetched, Finished}
use Rattle.xet_service.specs.declared.read.OpenRead.{OpenRead}
use Rattle.xet_service.specs.declared.reader.link.ReadLink.{ReadLink}
use Rattle.xet_service.specs.Reading.{Reading, left_link, left_one, count_left, with_got, take_link, BringsTo, Accepts, bytes_read}
use Rattle.xet_service.specs.World.{State, Reads}
use Rattle.xet_service.specs.Steps.{ReadsOutcome, no_note, fetch_done, fetch_taken, with_reader, asked_bytes, FetchesBody, FetchesSent, FetchesIf, FetchesLink, FetchesRead, Fetches}
use Rattle.xet_store.specs.TermData.{is_expired}
use Rattle.xet_service.specs.Bodies.{Body, type_text, SendsStored}
use Rattle.xet_service.specs.Runs.{Event, outcome_of}
use Rattle.xet_service.specs.Validity.{AgreesWith, IsFetched, Answered, count_true}
use Rattle.xet_service.proofs.Keeping.{reply_is}
use Rattle.xet_service.proofs.Goods.{GoodLink, IsGoodAt, GoodAt, Goods}
use Rattle.xet_service.proofs.Taken.{some_is, left_good}
use Rattle.xet_service.proofs.Served.{never_past, never_refused}

-- ---- which links are left

abbrev pub is_open : ReadLink → Bool
is_open l = is_none l.got

abbrev pub hash_of : ReadLink → List ℕ
hash_of l = l.hash

abbrev pub link_hash : LinkModel → List ℕ
link_hash l = l.hash

pub mask_take : (ls : List ReadLink) (n : ℕ) (got : List Chunks) → map is_open (with_got ls n (slice_get ls n) got) ≡ set (map is_open ls) n false
mask_take [] n got = refl
mask_take (x ∷ ls) zero got = refl
mask_take (x ∷ ls) (suc n) got = of (slice_get ls n) (mask_take ls n got)
  where
    of : (o : Option ReadLink) → map is_open (with_got ls n o got) ≡ set (map is_open ls) n false → map is_open (with_got (x ∷ ls) (suc n) o got) ≡ is_open x ∷ set (map is_open ls) n false
    of None e = ap (λ (bs : List Bool). is_open x ∷ bs) e
    of (Some y) e = ap (λ (bs : List Bool). is_open x ∷ bs) e

pub take_hashes : (ls : List ReadLink) (n : ℕ) (got : List Chunks) → map hash_of (with_got ls n (slice_get ls n) got) ≡ map hash_of ls
take_hashes [] n got = refl
take_hashes (x ∷ ls) zero got = refl
take_hashes (x ∷ ls) (suc n) got = of (slice_get ls n) (take_hashes ls n got)
  where
    of : (o : Option ReadLink) → map hash_of (with_got ls n o got) ≡ map hash_of ls → map hash_of (with_got (x ∷ ls) (suc n) o got) ≡ x.hash ∷ map hash_of ls
    of None e = refl
    of (Some y) e = ap (λ (hs : List (List ℕ)). x.hash ∷ hs) e

-- the link of a place that is left
pub record MaskedLink (ls : List ReadLink) (n : ℕ) : Type 0 where
  pub link : ReadLink
  pub left : left_link ls n ≡ Some link
  pub is : slice_get ls n ≡ Some link

pub mask_link : (ls : List ReadLink) (left : List Bool) (n : ℕ) → map is_open ls ≡ left → slice_get left n ≡ Some true → MaskedLink ls n
mask_link ls left n is found = of ls n (subst (λ (bs : List Bool). slice_get bs n ≡ Some true) (sym is) found)
  where
    of : (ls : List ReadLink) (n : ℕ) → slice_get (map is_open ls) n ≡ Some true → MaskedLink ls n
    of [] n e = absurd cc
    of (x ∷ ls) zero e = record { link = x; left = ap (λ (b : Bool). cond b (Some x) None) (some_is (is_open x) true e); is = refl }
    of (x ∷ ls) (suc n) e = let k = of ls n e in record { link = k.link; left = k.left; is = k.is }

get_map : {X : Type 0} (f : X → List ℕ) (xs : List X) (n : ℕ) (x : X) → slice_get xs n ≡ Some x → slice_get (map f xs) n ≡ Some (f x)
get_map f [] n x e = absurd cc
get_map f (y ∷ xs) zero x e = ap (λ (z : _). Some (f z)) (some_is y x e)
get_map f (y ∷ xs) (suc n) x e = get_map f xs n x e

pub same_hash_at : (ls : List ReadLink) (ps : List LinkModel) (n : ℕ) (l : ReadLink) (p : LinkModel) → map hash_of ls ≡ map link_hash ps → slice_get ls n ≡ Some l → slice_get ps n ≡ Some p → l.hash ≡ p.hash
same_hash_at ls ps n l p is a b = some_is l.hash p.hash (sym (get_map hash_of ls n l a) ∙ ap (λ (hs : List (List ℕ)). slice_get hs n) is ∙ get_map link_hash ps n p b)

pub mask_count : (ls : List ReadLink) → count_left ls ≡ count_true (map is_open ls)
mask_count [] = refl
mask_count (x ∷ ls) = let sums = sum_by-cons left_one x ls in of (is_open x) (mask_count ls) sums
  where
    of : (b : Bool) → count_left ls ≡ count_true (map is_open ls) → count_left (x ∷ ls) ≡ cond b 1 0 + count_left ls → count_left (x ∷ ls) ≡ count_true (b ∷ map is_open ls)
    of true e s = omega (arith, e, s)
    of false e s = omega (arith, e, s)

-- ---- a read that is followed

-- the read is open, and these links are left
pub record IsOpen (s : State) (n stamp : ℕ) (links : List LinkModel) (left : List Bool) : Type 0 where
  pub read : OpenRead
  pub found : get s.reads n ≡ Some read
  pub stamped : read.stamp ≡ stamp
  pub mask : map is_open read.reader.links ≡ left
  pub hashes : map hash_of read.reader.links ≡ map link_hash links

-- it is open, or none is left
abbrev pub Follows : State → ℕ → ℕ → List LinkModel → List Bool → Type 0
Follows s n stamp links left = IsOpen s n stamp links left ⊎ (count_true left ≡ 0)

pub put_here : (reads : Reads) (n : ℕ) (x : OpenRead) → get (insert reads n x) n ≡ Some x
put_here reads n x = get-insert nat_cmp_total reads n x n ∙ ap (λ (b : Bool). cond b (Some x) (get reads n)) (ap is_eq (tied_itself nat_cmp_total n))

-- what a fetch of a left link comes to
pub record FetchGoes (e : Event) (n stamp : ℕ) (links : List LinkModel) (left : List Bool) (link : ℕ) : Type 0 where
  pub answered : Answered n link (count_true (set left link false)) e.reply
  pub follows : Follows e.after.state n stamp links (set left link false)

module _ (m : Content) (e : Event) (n stamp : ℕ) (links : List LinkModel) (left : List Bool) (link : ℕ) (agree : AgreesWith m e.before.state.store) (good : Goods m e.before) (valid : IsFetched e stamp links left link) (o : IsOpen e.before.state n stamp links left) where
  abbrev r : OpenRead
  r = o.read

  at_link : MaskedLink r.reader.links link
  at_link = mask_link r.reader.links left link o.mask valid.left_it

  here : IsGoodAt m e.before n r
  here = subst (GoodAt m e.before n) o.found (good n)

  g : GoodLink m at_link.link
  g = left_good m r.reader.links link at_link.link here.read.links at_link.left

  there : stored e.before.state.store at_link.link.hash ≡ Some valid.chunks
  there = ap (stored e.before.state.store) (same_hash_at r.reader.links links link at_link.link valid.planned o.hashes at_link.is valid.is) ∙ valid.there

  done_goes : (got : List Chunks) (wire k : ℕ) → count_left (take_link r.reader link got).links ≡ k
      → fetch_done e.before.state.reads n link wire (with_reader r (take_link r.reader link got)) k ≡ (outcome_of e.reply, e.after.state.reads) → FetchGoes e n stamp links left link
  done_goes got wire zero count h =
      let masked : map is_open (take_link r.reader link got).links ≡ set left link false = mask_take r.reader.links link got ∙ ap (λ (bs : List Bool). set bs link false) o.mask in
      let none : count_true (set left link false) ≡ 0 = sym (mask_count (take_link r.reader link got).links ∙ ap count_true masked) ∙ count in
      record {
        answered = subst (λ (k : ℕ). Answered n link k e.reply) (sym none) (record { bytes = bytes_read (take_link r.reader link got); wire = wire; is = reply_is e.reply (Finished n (bytes_read (take_link r.reader link got)) wire no_note) (sym (ap (λ (p : ReadsOutcome). p.0) h)) });
        follows = inr none;
      }
  done_goes got wire (suc k) count h =
      let masked : map is_open (take_link r.reader link got).links ≡ set left link false = mask_take r.reader.links link got ∙ ap (λ (bs : List Bool). set bs link false) o.mask in
      let some : count_true (set left link false) ≡ suc k = sym (mask_count (take_link r.reader link got).links ∙ ap count_true masked) ∙ count in
      record {
        answered = subst (λ (j : ℕ). Answered n link j e.reply) (sym some) (record { wire = wire; is = reply_is e.reply (Fetched n link (suc k) wire no_note) (sym (ap (λ (p : ReadsOutcome). p.0) h)) });
        follows = inl (record {
          read = with_reader r (take_link r.reader link got);
          found = ap (λ (rs : Reads). get rs n) (sym (ap (λ (p : ReadsOutcome). p.1) h)) ∙ put_here e.before.state.reads n (with_reader r (take_link r.reader link got));
          stamped = o.stamped;
          mask = masked;
          hashes = take_hashes r.reader.links link got ∙ o.hashes;
        });
      }

  taken_goes : (body : Body) (answer : Result (Unit {0}) Refusal) (after : Reading) → SendsStored e.before.state.store at_link.link.hash (asked_bytes at_link.link.ranges) (Ok body) → Accepts r.reader link (type_text body.content_type) body.bytes answer after
      → fetch_taken e.before.state.reads n link (length body.bytes) r answer after ≡ (outcome_of e.reply, e.after.state.reads) → FetchGoes e n stamp links left link
  taken_goes body (Err why) after sent a h =
      absurd (never_refused m e.before.state.store at_link.link g valid.chunks agree there body sent why (subst (λ (l : Option ReadLink). BringsTo l (type_text body.content_type) body.bytes (Err why)) at_link.left a.0))
  taken_goes body (Ok u) after sent a h =
      done_goes a.0 (length body.bytes) (count_left (take_link r.reader link a.0).links) refl
      (subst (λ (x : Reading). fetch_done e.before.state.reads n link (length body.bytes) (with_reader r x) (count_left x.links) ≡ (outcome_of e.reply, e.after.state.reads)) a.1.1 h)

  sent_goes : (body : Result Body Refusal) → SendsStored e.before.state.store at_link.link.hash (asked_bytes at_link.link.ranges) body → FetchesBody e.before.state.reads n link r body (outcome_of e.reply) e.after.state.reads → FetchGoes e n stamp links left link
  sent_goes (Err why) sent h = absurd (never_past m e.before.state.store at_link.link g valid.chunks agree there why sent)
  sent_goes (Ok body) sent h = taken_goes body h.answer h.after sent h.accepts h.step

  -- a valid fetch of an open read succeeds
  pub fetch_goes : Fetches e.before.state n link e.step.at (outcome_of e.reply) e.after.state → FetchGoes e n stamp links left link
  fetch_goes h =
      let s = e.before.state in
      let linked = subst (λ (q : Option OpenRead). FetchesRead s.store s.reads n link e.step.at q (outcome_of e.reply) e.after.state.reads) o.found h.reads in
      let aged = subst (λ (q : Option ReadLink). FetchesLink s.store s.reads n link e.step.at r q (outcome_of e.reply) e.after.state.reads) at_link.left linked in
      let fresh : is_expired e.step.at r.stamp s.store.expiration ≡ false = ap (λ (k : ℕ). is_expired e.step.at k s.store.expiration) o.stamped ∙ valid.fresh in
      let sent : FetchesSent s.store s.reads n link r at_link.link (outcome_of e.reply) e.after.state.reads = subst (λ (b : Bool). FetchesIf s.store s.reads n link r at_link.link b (outcome_of e.reply) e.after.state.reads) fresh aged in
      sent_goes sent.body sent.sent sent.brings
