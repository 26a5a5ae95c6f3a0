-- Reads of readable files go through while the store stays as it is.
use Rattle.std.proofs.Common.{◌≡◌, ◌∙◌, ℕ, zero, suc, ◌<◌, ◌⊎◌, inl, inr, true, false, Bool, cond, ◌&&◌, eqb, leb, min, List, [], ◌∷◌, length, map, set, Option, Some, None, Result, Ok, Err, refl, sym, ap, subst, arith}
use Rattle.std.proofs.lemmas.Bool.{eqb-true, eq-eqb, lt-leb}
use Rattle.std.specs.Prelude.{slice_get}
use Rattle.std.specs.FinMap.{FinMap, get}
use Rattle.xet_types.specs.Names.{hash_cmp}
use Rattle.xet_types.specs.declared.error.Refusal.{Refusal}
use Rattle.xet_types.specs.declared.error.Refusal.TheVariants.{IOError}
use Rattle.xet_types.specs.declared.range.Range.{Range}
use Rattle.xet_types.specs.declared.range._F.{_F}
use Rattle.xet_shard.specs.declared.listing.Segment.{Segment}
use Rattle.xet_shard.specs.Values.{size_of}
use Rattle.xet_plan.specs.Places.{Interval, interval, reach}
use Rattle.xet_plan.specs.declared.place.Reach.{Reach}
use Rattle.xet_plan.specs.declared.place.Reach.TheVariants.{Past, Reversed, Within}
use Rattle.xet_plan.specs.FileBytes.{Content, file_bytes as bytes_within}
use Rattle.xet_store.specs.StoreModel.{StoreModel, Chunks, stored, listing, content_of}
use Rattle.xet_store.specs.Plans.{bytes_listed, bytes_reached, bytes_clipped}
use Rattle.xet_store.specs.Checks.{checked, readable, HaveSameSets}
use Rattle.xet_store.specs.TermData.{is_expired}
use Rattle.xet_store.proofs.ReadableLaws.{readable_faultless}
use Rattle.xet_store.proofs.ServingLaws.{same_readable, check_holds}
use Rattle.xet_service.specs.declared.step.Act.{Act}
use Rattle.xet_service.specs.declared.step.Act.TheVariants.{Plan, Fetch, Abandon, CheckReadable}
use Rattle.xet_service.specs.declared.step.PlanVersion.{PlanVersion}
use Rattle.xet_service.specs.declared.reply.Reply.{Reply}
use Rattle.xet_service.specs.declared.reply.Reply.TheVariants.{Done, Fetched, Finished, Refused}
use Rattle.xet_service.specs.declared.read.OpenRead.{OpenRead}
use Rattle.xet_service.specs.declared.reader.link.ReadLink.{ReadLink}
use Rattle.xet_service.specs.Bodies.{Body, type_text, SendsStored}
use Rattle.xet_service.specs.Reading.{Reading, left_link, count_left, take_link, BringsTo, Accepts, bytes_read}
use Rattle.xet_service.specs.World.{State, Reads, IsInOrder}
use Rattle.xet_service.specs.Steps.{Outcome, ReadsOutcome, no_note, fetch_done, fetch_taken, with_reader, asked_bytes, FetchesBody, FetchesSent, FetchesIf, FetchesLink, FetchesRead, Fetches, Acts, asks, was_done, map_ok}
use Rattle.xet_service.specs.Runs.{World, Event, IsStep, Chain, outcome_of}
use Rattle.xet_service.specs.Validity.{AgreesWith, IsServed, left_after, count_true, all_left}
use Rattle.xet_service.specs.Readable.{BeginsInside, PlansInside, FetchesInTime, AsksAt, AsksRest, Brings, BringsAt, BringsRest, IsReadThrough, ServesIn, ReadableServe}
use Rattle.xet_service.proofs.Facts.{plan_facts}
use Rattle.xet_service.proofs.Following.{NotNames, stays}
use Rattle.xet_service.proofs.Goods.{GoodRead, GoodLink, all_chunks}
use Rattle.xet_service.proofs.Keeping.{reply_is, keeps_step}
use Rattle.xet_service.proofs.Served.{never_past, never_refused}
use Rattle.xet_service.proofs.Serviced.{Opened, served_opens}
use Rattle.xet_service.proofs.Succeeds.{is_open, MaskedLink, mask_link, mask_take, mask_count, put_here}
use Rattle.xet_service.proofs.Taken.{left_good, got_is, fetched_good, fetched_last}

-- ---- ranges that begin inside

-- what such a range reaches
record Reaches (size : ℕ) (range : Option (Range ℕ _F)) : Type 0 where
  clip : Interval
  some : 0 < size
  reached : reach size range ≡ Within clip.start clip.end

no_zero : (n : ℕ) → 0 < n → eqb n 0 ≡ false
no_zero n some = of (eqb n 0) refl
  where
    of : (b : Bool) → eqb n 0 ≡ b → b ≡ false
    of true e = let is = eqb-true n 0 e in absurd (omega (arith, is, some))
    of false e = refl

begins_reaches : (size : ℕ) (range : Option (Range ℕ _F)) → BeginsInside size range → Reaches size range
begins_reaches size None some = record { clip = interval 0 size; some = some; reached = refl }
begins_reaches size (Some r) inside =
    let some : 0 < size = omega (arith, inside.1) in
    let within : Reach = Within r.start (min r.end size) in
    record {
      clip = interval r.start (min r.end size);
      some = some;
      reached =
          ap (λ b. cond (b && eqb r.start 0) (Within 0 0) (cond (leb size r.start) Past (cond (leb r.end r.start) Reversed within))) (no_zero size some)
          ∙ ap (λ b. cond b Past (cond (leb r.end r.start) Reversed within)) (lt-leb size r.start inside.1)
          ∙ ap (λ b. cond b Reversed within) (lt-leb r.end r.start inside.0);
    }

-- ---- the chunks of a store that stays as it is

-- the chunk lists of a store
abbrev chunks_of : StoreModel → Content
chunks_of m hash = stored m hash

same_chunks : (m n : StoreModel) → HaveSameSets m n → (hash : List ℕ) → stored n hash ≡ stored m hash
same_chunks m n same hash = ap (λ (x : FinMap hash_cmp Chunks). get x hash) same.xorbs

agrees : (m n : StoreModel) → HaveSameSets m n → AgreesWith (chunks_of m) n
agrees m n same hash chunks e = sym (same_chunks m n same hash) ∙ e

-- ---- a read that is followed

-- the read is open and good, and these links are left
record IsFollowed (m : Content) (bytes : List ℕ) (s : State) (n stamp : ℕ) (left : List Bool) : Type 0 where
  read : OpenRead
  found : get s.reads n ≡ Some read
  stamped : read.stamp ≡ stamp
  mask : map is_open read.reader.links ≡ left
  good : GoodRead m bytes read.reader

-- it is open, or none is left
abbrev Follows : Content → List ℕ → State → ℕ → ℕ → List Bool → Type 0
Follows m bytes s n stamp left = IsFollowed m bytes s n stamp left ⊎ (count_true left ≡ 0)

none_left : (bs : List Bool) (n : ℕ) → count_true bs ≡ 0 → slice_get bs n ≡ Some true → ⊥
none_left [] n e h = absurd cc
none_left (true ∷ bs) n e h = absurd (omega (arith, e))
none_left (false ∷ bs) zero e h = absurd cc
none_left (false ∷ bs) (suc n) e h = none_left bs n e h

-- what a fetch of a link that is left comes to
record Goes (m : Content) (bytes : List ℕ) (e : Event) (n stamp : ℕ) (left : List Bool) (link : ℕ) : Type 0 where
  brings : Brings n bytes link (count_true (set left link false)) e.reply
  follows : Follows m bytes e.after.state n stamp (set left link false)

module _ (planned : StoreModel) (bytes : List ℕ) (e : Event) (n stamp : ℕ) (left : List Bool) (link : ℕ) (valid : FetchesInTime planned e stamp left link) (o : IsFollowed (chunks_of planned) bytes e.before.state n stamp left) where
  abbrev m : Content
  m = chunks_of planned

  abbrev r : OpenRead
  r = o.read

  agree : AgreesWith m e.before.state.store
  agree = agrees planned e.before.state.store valid.same

  at_link : MaskedLink r.reader.links link
  at_link = mask_link r.reader.links left link o.mask valid.left_it

  g : GoodLink m at_link.link
  g = left_good m r.reader.links link at_link.link o.good.links at_link.left

  there : stored e.before.state.store at_link.link.hash ≡ Some g.all
  there = same_chunks planned e.before.state.store valid.same at_link.link.hash ∙ g.is

  done_goes : (got : List Chunks) → ((k : GoodLink m at_link.link) → got ≡ all_chunks k.all at_link.link.ranges) → (wire k : ℕ) → count_left (take_link r.reader link got).links ≡ k
      → fetch_done e.before.state.reads n link wire (with_reader r (take_link r.reader link got)) k ≡ (outcome_of e.reply, e.after.state.reads) → Goes m bytes e n stamp left link
  done_goes got is wire zero count h =
      let after : Reading = take_link r.reader link got in
      let masked : map is_open after.links ≡ set left link false = mask_take r.reader.links link got ∙ ap (λ (bs : List Bool). set bs link false) o.mask in
      let none : count_true (set left link false) ≡ 0 = sym (mask_count after.links ∙ ap count_true masked) ∙ count in
      let finished : Reply = Finished n (bytes_read after) wire no_note in
      let ends : bytes_read after ≡ bytes = fetched_last m bytes r.reader link at_link.link got o.good at_link.left is count in
      record {
        brings = subst (λ (k : ℕ). Brings n bytes link k e.reply) (sym none) (record { wire = wire; is = reply_is e.reply finished (sym (ap (λ (p : ReadsOutcome). p.0) h)) ∙ ap (λ (b : List ℕ). Finished n b wire no_note) ends });
        follows = inr none;
      }
  done_goes got is wire (suc k) count h =
      let after : Reading = take_link r.reader link got in
      let masked : map is_open after.links ≡ set left link false = mask_take r.reader.links link got ∙ ap (λ (bs : List Bool). set bs link false) o.mask in
      let some : count_true (set left link false) ≡ suc k = sym (mask_count after.links ∙ ap count_true masked) ∙ count in
      record {
        brings = subst (λ (j : ℕ). Brings n bytes link j e.reply) (sym some) (record { wire = wire; is = reply_is e.reply (Fetched n link (suc k) wire no_note) (sym (ap (λ (p : ReadsOutcome). p.0) h)) });
        follows = inl (record {
          read = with_reader r after;
          found = ap (λ (rs : Reads). get rs n) (sym (ap (λ (p : ReadsOutcome). p.1) h)) ∙ put_here e.before.state.reads n (with_reader r after);
          stamped = o.stamped;
          mask = masked;
          good = fetched_good m bytes r.reader link at_link.link got o.good at_link.left is (omega (arith, count));
        });
      }

  taken_goes : (body : Body) (answer : Result (Unit {0}) Refusal) (after : Reading) → SendsStored e.before.state.store at_link.link.hash (asked_bytes at_link.link.ranges) (Ok body) → Accepts r.reader link (type_text body.content_type) body.bytes answer after
      → fetch_taken e.before.state.reads n link (length body.bytes) r answer after ≡ (outcome_of e.reply, e.after.state.reads) → Goes m bytes e n stamp left link
  taken_goes body (Err why) after sent a h =
      absurd (never_refused m e.before.state.store at_link.link g g.all agree there body sent why (subst (λ (l : Option ReadLink). BringsTo l (type_text body.content_type) body.bytes (Err why)) at_link.left a.0))
  taken_goes body (Ok u) after sent a h =
      done_goes a.0 (λ k. got_is m e.before.state.store at_link.link k body a.0 agree sent (subst (λ (l : Option ReadLink). BringsTo l (type_text body.content_type) body.bytes (Ok a.0)) at_link.left a.1.0))
      (length body.bytes) (count_left (take_link r.reader link a.0).links) refl
      (subst (λ (x : Reading). fetch_done e.before.state.reads n link (length body.bytes) (with_reader r x) (count_left x.links) ≡ (outcome_of e.reply, e.after.state.reads)) a.1.1 h)

  sent_goes : (body : Result Body Refusal) → SendsStored e.before.state.store at_link.link.hash (asked_bytes at_link.link.ranges) body → FetchesBody e.before.state.reads n link r body (outcome_of e.reply) e.after.state.reads → Goes m bytes e n stamp left link
  sent_goes (Err why) sent h = absurd (never_past m e.before.state.store at_link.link g g.all agree there why sent)
  sent_goes (Ok body) sent h = taken_goes body h.answer h.after sent h.accepts h.step

  fetch_goes : Fetches e.before.state n link e.step.at (outcome_of e.reply) e.after.state → Goes m bytes e n stamp left link
  fetch_goes h =
      let s = e.before.state in
      let linked = subst (λ (q : Option OpenRead). FetchesRead s.store s.reads n link e.step.at q (outcome_of e.reply) e.after.state.reads) o.found h.reads in
      let aged = subst (λ (q : Option ReadLink). FetchesLink s.store s.reads n link e.step.at r q (outcome_of e.reply) e.after.state.reads) at_link.left linked in
      let fresh : is_expired e.step.at r.stamp s.store.expiration ≡ false = ap (λ (k : ℕ). is_expired e.step.at k s.store.expiration) o.stamped ∙ valid.fresh in
      let sent : FetchesSent s.store s.reads n link r at_link.link (outcome_of e.reply) e.after.state.reads = subst (λ (b : Bool). FetchesIf s.store s.reads n link r at_link.link b (outcome_of e.reply) e.after.state.reads) fresh aged in
      sent_goes sent.body sent.sent sent.brings

module _ (planned : StoreModel) (bytes : List ℕ) (e : Event) (n stamp : ℕ) (left : List Bool) (is : IsStep e) (in_order : IsInOrder e.before.state) (follows : Follows (chunks_of planned) bytes e.before.state n stamp left) where
  -- a step that doesn't name the read leaves it
  other_goes : (act : Act) → e.step.act ≡ act → NotNames n act → Follows (chunks_of planned) bytes e.after.state n stamp left
  other_goes act act_is other = elim follows as (λ _. Follows (chunks_of planned) bytes e.after.state n stamp left) [
    | inl o ↦ inl (record {
      read = o.read;
      found = (elim is.steps.does as (λ _. get e.after.state.reads n ≡ Some o.read) [
        | inl d ↦ stays e.before.state e.step.at (outcome_of e.reply) e.after.state n o.read (in_order.numbered n o.read o.found) o.found act other (subst (λ (a : Act). Acts e.before.state e.step.at a (outcome_of e.reply) e.after.state) act_is d)
        | inr f ↦ subst (λ (s : State). get s.reads n ≡ Some o.read) (sym f.same) o.found
      ]);
      stamped = o.stamped;
      mask = o.mask;
      good = o.good;
    })
    | inr none ↦ inr none
  ]

  abbrev GoesBy : Act → Type 0
  GoesBy act = BringsAt n bytes left e.reply act × Follows (chunks_of planned) bytes e.after.state n stamp (left_after n left act)

  fetch_by_name : (read link : ℕ) → e.step.act ≡ Fetch read link → (b : Bool) → eqb read n ≡ b → AsksAt planned n stamp left e (Fetch read link)
      → (read ≡ n → Brings n bytes link (count_true (set left link false)) e.reply) × Follows (chunks_of planned) bytes e.after.state n stamp (cond b (set left link false) left)
  fetch_by_name read link act_is true t valid =
      let same = eqb-true read n t in
      let v : FetchesInTime planned e stamp left link = valid same in
      elim follows as (λ _. (read ≡ n → Brings n bytes link (count_true (set left link false)) e.reply) × Follows (chunks_of planned) bytes e.after.state n stamp (set left link false)) [
        | inl o ↦ (elim is.steps.does as (λ _. (read ≡ n → Brings n bytes link (count_true (set left link false)) e.reply) × Follows (chunks_of planned) bytes e.after.state n stamp (set left link false)) [
          | inl d ↦
              (let k = fetch_goes planned bytes e n stamp left link v o (subst (λ (a : Act). Acts e.before.state e.step.at a (outcome_of e.reply) e.after.state) (act_is ∙ ap (λ (i : ℕ). Fetch i link) same) d) in
              (λ _. k.brings, k.follows))
          | inr f ↦ absurd (v.quiet f.rose)
        ])
        | inr none ↦ absurd (none_left left link none v.left_it)
      ]
  fetch_by_name read link act_is false t valid =
      let apart : read ≡ n → ⊥ = λ same. let clash : true ≡ false = sym (eq-eqb read n same) ∙ t in absurd cc in
      (λ same. absurd (apart same), other_goes (Fetch read link) act_is apart)

  goes_by : (act : Act) → e.step.act ≡ act → AsksAt planned n stamp left e act → GoesBy act
  goes_by (Fetch read link) act_is valid = fetch_by_name read link act_is (eqb read n) refl valid
  goes_by (Abandon read) act_is valid = (tt, other_goes (Abandon read) act_is valid)
  goes_by act act_is valid = (tt, other_goes act act_is tt)

-- the steps of a followed read go through
rest_goes : (planned : StoreModel) (bytes : List ℕ) (n stamp : ℕ) (left : List Bool) (w : World) (es : List Event) (end : World) → Chain w es end → IsInOrder w.state → Follows (chunks_of planned) bytes w.state n stamp left
    → AsksRest planned n stamp left es → BringsRest n bytes left es
rest_goes planned bytes n stamp left w [] end chain in_order follows valid = tt
rest_goes planned bytes n stamp left w (e ∷ es) end chain in_order follows valid =
    let before : IsInOrder e.before.state = subst (λ (u : World). IsInOrder u.state) (sym chain.0) in_order in
    let before_follows = subst (λ (u : World). Follows (chunks_of planned) bytes u.state n stamp left) (sym chain.0) follows in
    let g = goes_by planned bytes e n stamp left chain.1 before before_follows e.step.act refl valid.0 in
    (g.0, rest_goes planned bytes n stamp (left_after n left e.step.act) e.after es end chain.2 (keeps_step plan_facts e chain.1 before).1 g.1 valid.1)

-- ---- plans

module _ (m : StoreModel) (holds : readable m ≡ true) (e : Event) (file : List ℕ) (range : Option (Range ℕ _F)) (asked : PlansInside m e file range) where
  abbrev at_plan : StoreModel
  at_plan = e.before.state.store

  reaches : Reaches (size_of asked.segments) range
  reaches = begins_reaches (size_of asked.segments) range asked.inside

  served : IsServed e file range
  served = record {
    segments = asked.segments;
    clip = reaches.clip;
    live = asked.live;
    some = reaches.some;
    reached = reaches.reached;
    agree = readable_faultless at_plan file asked.segments reaches.clip (same_readable m at_plan asked.same ∙ holds) asked.live;
    numbered = asked.numbered;
    quiet = asked.quiet;
  }

  plan_goes : (version : PlanVersion) (es : List Event) (end : World) → IsStep e → e.step.act ≡ Plan version file range → Chain e.after es end → IsInOrder e.before.state → IsReadThrough m version file range e es
  unfolding served
  plan_goes version es end is act_is chain in_order =
      let o : Opened version e file range served = served_opens e version file range served is act_is in
      let clip = reaches.clip in
      let bytes : List ℕ = bytes_within (content_of at_plan) clip asked.segments in
      record {
        offset = o.offset;
        terms = o.terms;
        links = o.links;
        reply = o.reply;
        some = o.some;
        bytes = bytes;
        of_file = ap (bytes_listed at_plan range) asked.live ∙ ap (bytes_reached at_plan asked.segments) reaches.reached ∙ ap (bytes_clipped at_plan asked.segments clip) served.agree;
        rest = rest_goes m bytes e.before.state.next e.step.at (all_left o.links) e.after es end chain (keeps_step plan_facts e is in_order).1
            (inl (record { read = o.open_it.read; found = o.open_it.found; stamped = o.open_it.stamped; mask = o.open_it.mask; good = o.good (chunks_of m) (agrees m at_plan asked.same) }));
      }

serves_in : (m : StoreModel) → readable m ≡ true → (w : World) (es : List Event) (end : World) → Chain w es end → IsInOrder w.state → ServesIn m es
serves_in m holds w [] end chain in_order = tt
serves_in m holds w (e ∷ es) end chain in_order =
    let before : IsInOrder e.before.state = subst (λ (u : World). IsInOrder u.state) (sym chain.0) in_order in
    (λ version file range act_is asked. plan_goes m holds e file range asked version es end chain.1 act_is chain.2 before, serves_in m holds e.after es end chain.2 (keeps_step plan_facts e chain.1 before).1)

-- ---- a check that holds

abbrev done_reply : Result Reply Refusal
done_reply = Ok Done

done_holds : (b : Bool) → done_reply ≡ map_ok was_done (checked b) → b ≡ true
done_holds true e = refl
done_holds false e = absurd cc

check_done : (e : Event) → IsStep e → e.step.act ≡ CheckReadable → e.reply ≡ Done → readable e.before.state.store ≡ true
check_done e is act_is reply_done = elim is.steps.does as (λ _. readable e.before.state.store ≡ true) [
  | inl d ↦
      (let s = e.before.state in
      let h : asks was_done s (checked (readable s.store)) ≡ (outcome_of e.reply, e.after.state) = subst (λ (a : Act). Acts s e.step.at a (outcome_of e.reply) e.after.state) act_is d in
      done_holds (readable s.store) (sym (ap (λ (o : Outcome). o.0) h ∙ ap outcome_of reply_done)))
  | inr f ↦ absurd (let g : ◌≡◌ {A = Reply} (Refused IOError) Done = sym f.reply_is ∙ reply_done in cc)
]

pub readable_serve : (w : World) (es : List Event) (end : World) → Chain w es end → IsInOrder w.state → ReadableServe es
readable_serve w [] end chain in_order = tt
readable_serve w (e ∷ es) end chain in_order =
    let before : IsInOrder e.before.state = subst (λ (u : World). IsInOrder u.state) (sym chain.0) in_order in
    let after = (keeps_step plan_facts e chain.1 before).1 in
    (λ act_is reply_done. serves_in e.before.state.store (check_done e chain.1 act_is reply_done) e.after es end chain.2 after, readable_serve e.after es end chain.2 after)
