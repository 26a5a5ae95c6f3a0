-- What the service's own calls leave.
use Rattle.std.specs.Prelude.{⊤}
use Rattle.std.proofs.Common.{◌≡◌, ℕ, zero, suc, ◌+◌, ◌-◌, ◌<◌, ◌≤◌, Bool, true, false, cond, eqb, List, [], ◌∷◌, length, Option, Some, None, Result, Ok, Err, Ordering, refl, sym, ap, ◌∙◌, arith}
use Rattle.std.specs.declared.cmp.Ordering.TheVariants.{Less, Equal, Greater}
use Rattle.std.specs.Ordering.{nat_cmp, eq_by_cmp, is_eq}
use Rattle.std.specs.Cmp.{tied_itself}
use Rattle.std.proofs.lemmas.Bool.{eqb-true}
use Rattle.std.proofs.lemmas.Cmp.{nat_cmp_total}
use Rattle.std.specs.FinMap.{get, insert, remove, get-insert, get-remove, nat_cmp-IsAntisymmetric, same_map}
use Rattle.xet_types.specs.Faults.{refusal_of}
use Rattle.xet_types.specs.Records.{SecondPlan}
use Rattle.xet_types.specs.declared.error.ClientError.{ClientError}
use Rattle.xet_types.specs.declared.error.ClientError.TheVariants as errors
use Rattle.xet_types.specs.declared.error.Refusal.{Refusal}
use Rattle.xet_types.specs.declared.error.Refusal.TheVariants.{FormatError, InvalidRange, InvalidArguments, FileNotFound, XORBNotFound, PresignedUrlExpirationError, IOError, Other, InvalidKey, CacheError, HttpStatus}
use Rattle.xet_types.specs.declared.range.Range.{Range}
use Rattle.xet_types.specs.declared.range._F.{_F}
use Rattle.xet_store.specs.Answered.{Answered, AnsweredErr}
use Rattle.xet_store.specs.StoreModel.{StoreModel, Chunks}
use Rattle.xet_store.specs.Refusals.{RefusedBy}
use Rattle.xet_store.specs.Responses.{RespondsBy}
use Rattle.xet_service.specs.declared.step.PlanVersion.{PlanVersion}
use Rattle.xet_service.specs.Bodies.{Body, type_text}
use Rattle.xet_service.specs.declared.reply.CacheNote.{CacheNote}
use Rattle.xet_service.specs.declared.reply.Reply.{Reply}
use Rattle.xet_service.specs.declared.reply.Reply.TheVariants.{Done, Planned, Fetched, Finished}
use Rattle.xet_service.specs.declared.read.OpenRead.{OpenRead}
use Rattle.xet_service.specs.Links.{answer_of, LinkModel, planned_links}
use Rattle.xet_service.specs.Reading.{Reading, left_link, is_link_left, count_left, take_link, Gives, bytes_read}
use Rattle.xet_service.specs.ReadingPlans.{can_open, reading_of, Opens as GivesRead}
use Rattle.xet_service.specs.World.{State, Reads, state}
use Rattle.xet_service.specs.Steps.{Outcome, refuses, used_up, open_links, open_plan, PlansBy, Does, DoesErr, no_note, fetch_done, with_reader, abandon_step, abandon_read}
use Rattle.xet_service.specs.Requests.{OfLink, IsOpenAt, IsWantedAt, IsLinkLeftAt, PutsAt, TakesAt}
use Rattle.xet_service.proofs.ReaderLinks.{given_left, count_given}

abbrev some_read : OpenRead → Option OpenRead
some_read r = Some r

-- ---- one read of several

equal_is : (o : Ordering) → is_eq o ≡ true → o ≡ Equal
equal_is Less e = absurd cc
equal_is Equal e = refl
equal_is Greater e = absurd cc

pub tied_is : (q k : ℕ) → eq_by_cmp nat_cmp q k ≡ true → q ≡ k
tied_is q k e = nat_cmp-IsAntisymmetric q k (equal_is (nat_cmp q k) e)

cond_twice : {X : Type 0} (b : Bool) (x y z : X) → cond b x (cond b y z) ≡ cond b x z
cond_twice true x y z = refl
cond_twice false x y z = refl

put_twice : (m : Reads) (k : ℕ) (a b : OpenRead) → insert (insert m k a) k b ≡ insert m k b
put_twice m k a b = same_map nat_cmp_total nat_cmp-IsAntisymmetric (insert (insert m k a) k b) (insert m k b) (λ q.
    get-insert nat_cmp_total (insert m k a) k b q ∙ ap (λ (o : Option OpenRead). cond (eq_by_cmp nat_cmp q k) (Some b) o) (get-insert nat_cmp_total m k a q)
    ∙ cond_twice (eq_by_cmp nat_cmp q k) (Some b) (Some a) (get m q) ∙ sym (get-insert nat_cmp_total m k b q))

gone_same : (m : Reads) (k : ℕ) → get m k ≡ None → remove m k ≡ m
gone_same m k e = same_map nat_cmp_total nat_cmp-IsAntisymmetric (remove m k) m (λ q. get-remove nat_cmp_total m k q ∙ of q (eq_by_cmp nat_cmp q k) refl)
  where
    of : (q : ℕ) (b : Bool) → eq_by_cmp nat_cmp q k ≡ b → cond b None (get m q) ≡ get m q
    of q true t = sym (ap (get m) (tied_is q k t) ∙ e)
    of q false t = refl

get_put : (m : Reads) (k : ℕ) (a : OpenRead) → get (insert m k a) k ≡ Some a
get_put m k a =
    let here : eq_by_cmp nat_cmp k k ≡ true = ap is_eq (tied_itself nat_cmp_total k) in
    get-insert nat_cmp_total m k a k ∙ ap (λ (b : Bool). cond b (Some a) (get m k)) here

pub open_there : (m : Reads) (k : ℕ) (a : OpenRead) (n : Reads) → n ≡ insert m k a → IsOpenAt n k
open_there m k a n e = (a, ap (λ (x : Reads). get x k) e ∙ get_put m k a)

-- ---- answers of calls, from those of the calls that they make

pub failed_so : {T U : Type 0} (P : Result T Refusal → Type 0) (R : Result U Refusal → Type 0) {Q S : Type 0} (o : Option Refusal) → ((why : Refusal) → P (Err why) → R (Err why)) → (Q → S) → AnsweredErr o P Q → AnsweredErr o R S
failed_so P R (Some why) f g h = f why h
failed_so P R None f g h = g h

-- ---- the end of a fetch

-- the read that is there
pub held_is : (reads : Reads) (read : ℕ) (held r : OpenRead) → Some held ≡ get reads read → get reads read ≡ Some r → r ≡ held
held_is reads read held r is e = let both : some_read held ≡ some_read r = is ∙ e in cc

-- the link of the read that is there is left
pub link_left : (reads : Reads) (read link : ℕ) (held : OpenRead) → Some held ≡ get reads read → IsLinkLeftAt reads read link → is_link_left held.reader.links link ≡ true
link_left reads read link held is w = ap (λ (r : OpenRead). is_link_left r.reader.links link) (sym (held_is reads read held w.0 is w.1.0)) ∙ w.1.1

-- a read is put at its place again
pub puts_at : (old opened new : Reads) (read link : ℕ) (held other : OpenRead) (got : List Chunks) (reader : Reading) → Some held ≡ get old read → opened ≡ insert old read other → reader ≡ take_link held.reader link got → new ≡ insert opened read (with_reader held reader)
    → PutsAt old read link got new
puts_at old opened new read link held other got reader is opened_is reader_is new_is = λ r e.
    new_is
    ∙ ap (λ (m : Reads). insert m read (with_reader held reader)) opened_is
    ∙ put_twice old read other (with_reader held reader)
    ∙ ap (λ (k : Reading). insert old read (with_reader held k)) reader_is
    ∙ ap (λ (k : OpenRead). insert old read (with_reader k (take_link k.reader link got))) (sym (held_is old read held r is e))

module _ (old : Reads) (read link : ℕ) (body : Body) (held : OpenRead) (there : Some held ≡ get old read) where
  -- a refused body changes nothing
  pub none_takes : (error : ClientError) → Answered {T = List Chunks} (Err error) (λ r. Gives held.reader.links link (type_text body.content_type) body.bytes r) ⊤ → Answered {T = Reply} (Err error) (λ r. TakesAt old read link body r old) (old ≡ old)
  none_takes error h =
      failed_so (λ (r : Result (List Chunks) Refusal). Gives held.reader.links link (type_text body.content_type) body.bytes r) (λ r. TakesAt old read link body r old) (refusal_of error)
      (λ why g. (held, (sym there, record { answer = Err why; after = held.reader; accepts = (g, refl); step = refl })))
      (λ u. refl) h

  module _ (got : List Chunks) (gives : Gives held.reader.links link (type_text body.content_type) body.bytes (Ok got)) where
    fewer : count_left (take_link held.reader link got).links + 1 ≡ count_left held.reader.links
    fewer = count_given held.reader.links held.reader.links link (type_text body.content_type) body.bytes got refl gives

    pub is_left_at : IsLinkLeftAt old read link
    is_left_at = (held, (sym there, given_left (left_link held.reader.links link) (type_text body.content_type) body.bytes got gives))

    pub more_takes : (left wire : ℕ) (note : CacheNote) (closed : Reads) → left ≡ count_left held.reader.links - 1 → 0 < left → wire ≡ length body.bytes → note ≡ no_note → PutsAt old read link got closed → TakesAt old read link body (Ok (Fetched read link left wire note)) closed
    more_takes left wire note closed left_is some wire_is note_is puts =
        (held, (sym there, record { answer = Ok tt; after = take_link held.reader link got; accepts = (got, (gives, refl)); step = of (count_left (take_link held.reader link got).links) (omega (arith, fewer, left_is)) }))
      where
        put_it : closed ≡ insert old read (with_reader held (take_link held.reader link got))
        put_it = puts held (sym there)

        of : (k : ℕ) → left ≡ k → fetch_done old read link (length body.bytes) (with_reader held (take_link held.reader link got)) k ≡ (Ok (Fetched read link left wire note), closed)
        of zero e = absurd (omega (arith, some, e))
        of (suc k) e = rw (e, wire_is, note_is, put_it) refl

    pub last_takes : (left : ℕ) (bytes : List ℕ) (wire : ℕ) (reply : Reply) (closed : Reads) → left ≡ count_left held.reader.links - 1 → left ≤ 0 → bytes ≡ bytes_read (take_link held.reader link got) → wire ≡ length body.bytes → reply ≡ Finished read bytes wire no_note → closed ≡ remove old read
        → TakesAt old read link body (Ok reply) closed
    last_takes left bytes wire reply closed left_is none bytes_is wire_is reply_is gone =
        (held, (sym there, record { answer = Ok tt; after = take_link held.reader link got; accepts = (got, (gives, refl)); step = of (count_left (take_link held.reader link got).links) (omega (arith, fewer, left_is, none)) }))
      where
        of : (k : ℕ) → k ≡ 0 → fetch_done old read link (length body.bytes) (with_reader held (take_link held.reader link got)) k ≡ (Ok reply, closed)
        of zero e = rw (reply_is, bytes_is, wire_is, gone) refl
        of (suc k) e = absurd (omega (arith, e))

pub left_is : (reads : Reads) (read left : ℕ) (held : OpenRead) → Some held ≡ get reads read → IsWantedAt reads read left → left ≡ count_left held.reader.links - 1
left_is reads read left held is w =
    let there : Some held ≡ some_read w.0 = is ∙ w.1.0 in
    let same : held ≡ w.0 = cc in
    w.1.1 ∙ ap (λ (r : OpenRead). count_left r.reader.links - 1) (sym same)

-- ---- plans

links_open : (s : State) (version : PlanVersion) (plan : SecondPlan) (range : Option (Range ℕ _F)) (at : ℕ) (ls : List LinkModel) → 0 < length ls → open_links s version plan range at ls ≡ (Ok (Planned version s.next plan.offset_into_first_range plan.terms ls), record s { reads = insert s.reads s.next (record { reader = reading_of plan range; stamp = at }); next = s.next + 1 })
links_open s version plan range at [] lt = absurd (omega (arith, lt))
links_open s version plan range at (l ∷ ls) lt = refl

pub free_is : (n : ℕ) → (n ≡ 18446744073709551615 → ⊥) → used_up n ≡ false
free_is n other = of (used_up n) refl
  where
    of : (b : Bool) → used_up n ≡ b → b ≡ false
    of true e = absurd (other (eqb-true n 18446744073709551615 e))
    of false e = refl

pub some_of : {X : Type 0} (xs : List X) (empty : Bool) → empty ≡ eqb (length xs) 0 → empty ≡ false → 0 < length xs
some_of [] empty is not = let f : true ≡ false = sym is ∙ not in absurd cc
some_of (x ∷ xs) empty is not = omega arith

pub opens : (s : State) (version : PlanVersion) (plan : SecondPlan) (range : Option (Range ℕ _F)) (at : ℕ) (links : List LinkModel) (reader : Reading) (reads : Reads) → used_up s.next ≡ false → (can_open plan ≡ true) × (reader ≡ reading_of plan range) → links ≡ planned_links plan → 0 < length links
    → reads ≡ insert s.reads s.next (record { reader = reader; stamp = at }) → open_plan s version plan range at ≡ (Ok (Planned version s.next plan.offset_into_first_range plan.terms links), record s { reads = reads; next = s.next + 1 })
opens s version plan range at links reader reads free can is some put =
    ap (λ (b : Bool). cond b (refuses s InvalidArguments) (cond (can_open plan) (open_links s version plan range at (planned_links plan)) (refuses s InvalidArguments))) free
    ∙ ap (λ (b : Bool). cond b (open_links s version plan range at (planned_links plan)) (refuses s InvalidArguments)) can.0
    ∙ ap (open_links s version plan range at) (sym is)
    ∙ links_open s version plan range at links some
    ∙ ap (λ (m : Reads). (Ok (Planned version s.next plan.offset_into_first_range plan.terms links), record s { reads = m; next = s.next + 1 })) (sym (put ∙ ap (λ (r : Reading). insert s.reads s.next (record { reader = r; stamp = at })) can.1))

abbrev ok_reply : Reply → Result Reply Refusal
ok_reply reply = Ok reply

-- a refusal leaves the state
links_err : (s t : State) (version : PlanVersion) (plan : SecondPlan) (range : Option (Range ℕ _F)) (at : ℕ) (why : Refusal) (ls : List LinkModel) → open_links s version plan range at ls ≡ (Err why, t) → t ≡ s
links_err s t version plan range at why [] e = let f : ok_reply (Finished s.next [] 0 no_note) ≡ Err why = ap (λ (o : Outcome). o.0) e in absurd cc
links_err s t version plan range at why (l ∷ ls) e = let f : ok_reply (Planned version s.next plan.offset_into_first_range plan.terms (l ∷ ls)) ≡ Err why = ap (λ (o : Outcome). o.0) e in absurd cc

pub open_err : (s t : State) (version : PlanVersion) (plan : SecondPlan) (range : Option (Range ℕ _F)) (at : ℕ) (why : Refusal) → open_plan s version plan range at ≡ (Err why, t) → t ≡ s
open_err s t version plan range at why e = of (used_up s.next) (can_open plan) e
  where
    of : (b c : Bool) → cond b (refuses s InvalidArguments) (cond c (open_links s version plan range at (planned_links plan)) (refuses s InvalidArguments)) ≡ (Err why, t) → t ≡ s
    of true c h = sym (ap (λ (o : Outcome). o.1) h)
    of false true h = links_err s t version plan range at why (planned_links plan) h
    of false false h = sym (ap (λ (o : Outcome). o.1) h)

pub none_of : {X : Type 0} (xs : List X) (empty : Bool) → empty ≡ eqb (length xs) 0 → empty ≡ true → xs ≡ []
none_of [] empty is e = refl
none_of (x ∷ xs) empty is e = let none : length (x ∷ xs) ≡ 0 = eqb-true (length (x ∷ xs)) 0 (sym is ∙ e) in absurd (omega (arith, none))

module _ (s : State) (version : PlanVersion) (plan : SecondPlan) (range : Option (Range ℕ _F)) (at : ℕ) (free : used_up s.next ≡ false) where
  opens_if : (b : Bool) → can_open plan ≡ b → open_plan s version plan range at ≡ cond b (open_links s version plan range at (planned_links plan)) (refuses s InvalidArguments)
  opens_if b can =
      ap (λ (u : Bool). cond u (refuses s InvalidArguments) (cond (can_open plan) (open_links s version plan range at (planned_links plan)) (refuses s InvalidArguments))) free
      ∙ ap (λ (u : Bool). cond u (open_links s version plan range at (planned_links plan)) (refuses s InvalidArguments)) can

  -- a plan without links finishes at once
  pub opens_done : (links : List LinkModel) → can_open plan ≡ true → links ≡ planned_links plan → links ≡ [] → open_plan s version plan range at ≡ (Ok (Finished s.next [] 0 no_note), record s { next = s.next + 1 })
  opens_done links can is none = opens_if true can ∙ ap (open_links s version plan range at) (sym is ∙ none)

  -- one that gives no read is refused
  pub opens_refused : (e : ClientError) → GivesRead plan range (Err e) → Answered {T = Reply} (Err e) (λ r. open_plan s version plan range at ≡ (r, s)) (s ≡ s)
  opens_refused errors.InvalidArguments h = opens_if false h
  opens_refused errors.OutOfMemory h = refl
  opens_refused (errors.FormatError f) h = absurd h
  opens_refused errors.InvalidRange h = absurd h
  opens_refused (errors.FileNotFound f) h = absurd h
  opens_refused (errors.XORBNotFound f) h = absurd h
  opens_refused errors.PresignedUrlExpirationError h = absurd h
  opens_refused errors.IOError h = absurd h
  opens_refused (errors.Other t) h = absurd h
  opens_refused (errors.InvalidKey t) h = absurd h
  opens_refused (errors.CacheError t) h = absurd h
  opens_refused (errors.HttpStatus n) h = absurd h

pub no_read : (plan : SecondPlan) (range : Option (Range ℕ _F)) (e : ClientError) → GivesRead plan range (Err e) → RefusedBy {T = Reply} OfLink (Err e)
no_read plan range errors.InvalidArguments h = tt
no_read plan range errors.OutOfMemory h = tt
no_read plan range (errors.FormatError f) h = absurd h
no_read plan range errors.InvalidRange h = absurd h
no_read plan range (errors.FileNotFound f) h = absurd h
no_read plan range (errors.XORBNotFound f) h = absurd h
no_read plan range errors.PresignedUrlExpirationError h = absurd h
no_read plan range errors.IOError h = absurd h
no_read plan range (errors.Other t) h = absurd h
no_read plan range (errors.InvalidKey t) h = absurd h
no_read plan range (errors.CacheError t) h = absurd h
no_read plan range (errors.HttpStatus n) h = absurd h

module _ (m : StoreModel) (reads reads_after : Reads) (next next_after : ℕ) (version : PlanVersion) (file : List ℕ) (range : Option (Range ℕ _F)) (at : ℕ) (plan : SecondPlan) (responds : RespondsBy (answer_of version m.max_ranges at) m file range (Ok (Some plan))) where
  abbrev Opens : Result Reply Refusal → Type 0
  Opens r = open_plan (state m reads next) version plan range at ≡ (r, state m reads_after next_after)

  by : (r : Result Reply Refusal) → Opens r → PlansBy (state m reads next) version file range at r (state m reads_after next_after)
  by r h = record { answer = Ok (Some plan); responds = responds; step = h }

  err_does : (o : Option Refusal) → AnsweredErr o Opens (state m reads_after next_after ≡ state m reads next) → DoesErr (PlansBy (state m reads next) version file range at) (state m reads next) o (state m reads_after next_after)
  err_does None h = h
  err_does (Some IOError) h = open_err (state m reads next) (state m reads_after next_after) version plan range at IOError h
  err_does (Some (FormatError f)) h = by (Err (FormatError f)) h
  err_does (Some InvalidRange) h = by (Err InvalidRange) h
  err_does (Some InvalidArguments) h = by (Err InvalidArguments) h
  err_does (Some (FileNotFound f)) h = by (Err (FileNotFound f)) h
  err_does (Some (XORBNotFound f)) h = by (Err (XORBNotFound f)) h
  err_does (Some PresignedUrlExpirationError) h = by (Err PresignedUrlExpirationError) h
  err_does (Some Other) h = by (Err Other) h
  err_does (Some InvalidKey) h = by (Err InvalidKey) h
  err_does (Some CacheError) h = by (Err CacheError) h
  err_does (Some (HttpStatus n)) h = by (Err (HttpStatus n)) h

  pub plan_does : (result : Result Reply ClientError) → Answered result Opens (state m reads_after next_after ≡ state m reads next) → Does (PlansBy (state m reads next) version file range at) (state m reads next) result (state m reads_after next_after)
  plan_does (Ok reply) h = by (Ok reply) h
  plan_does (Err e) h = err_does (refusal_of e) h

-- ---- abandoned reads

pub abandons : (s : State) (read : ℕ) (r : OpenRead) (reads : Reads) → Some r ≡ get s.reads read → reads ≡ remove s.reads read → abandon_step s read ≡ (Ok Done, record s { reads = reads })
abandons s read r reads there gone = ap (abandon_read s read) (sym there) ∙ ap (λ (m : Reads). (Ok Done, record s { reads = m })) (sym gone)

pub none_gone : (old new : Reads) (read : ℕ) → None ≡ get old read → new ≡ remove old read → new ≡ old
none_gone old new read gone removed = removed ∙ gone_same old read (sym gone)

pub abandons_none : (s : State) (read : ℕ) (reads : Reads) → None ≡ get s.reads read → reads ≡ remove s.reads read → abandon_step s read ≡ (Err InvalidArguments, record s { reads = reads })
abandons_none s read reads gone removed =
    ap (abandon_read s read) (sym gone) ∙ ap (λ (m : Reads). (Err InvalidArguments, record s { reads = m })) (sym (none_gone s.reads reads read gone removed))

-- an abandonment's answer
pub abandon_does : (m : StoreModel) (reads reads_after : Reads) (next next_after read : ℕ) (result : Result Reply ClientError) → Answered result (λ r. abandon_step (state m reads next) read ≡ (r, state m reads_after next_after)) ⊥
    → Does (λ r s. abandon_step (state m reads next) read ≡ (r, s)) (state m reads next) result (state m reads_after next_after)
abandon_does m reads reads_after next next_after read (Ok reply) h = h
abandon_does m reads reads_after next next_after read (Err e) h = of (refusal_of e) h
  where
    no_failure : (o : Option OpenRead) → abandon_read (state m reads next) read o ≡ (Err IOError, state m reads_after next_after) → state m reads_after next_after ≡ state m reads next
    no_failure None g = let f : ◌≡◌ {A = Result Reply Refusal} (Err InvalidArguments) (Err IOError) = ap (λ (o : Outcome). o.0) g in absurd cc
    no_failure (Some r) g = let f : ok_reply Done ≡ Err IOError = ap (λ (o : Outcome). o.0) g in absurd cc

    of : (o : Option Refusal) → AnsweredErr o (λ r. abandon_step (state m reads next) read ≡ (r, state m reads_after next_after)) ⊥ → DoesErr (λ r s. abandon_step (state m reads next) read ≡ (r, s)) (state m reads next) o (state m reads_after next_after)
    of None g = absurd g
    of (Some IOError) g = no_failure (get reads read) g
    of (Some (FormatError f)) g = g
    of (Some InvalidRange) g = g
    of (Some InvalidArguments) g = g
    of (Some (FileNotFound f)) g = g
    of (Some (XORBNotFound f)) g = g
    of (Some PresignedUrlExpirationError) g = g
    of (Some Other) g = g
    of (Some InvalidKey) g = g
    of (Some CacheError) g = g
    of (Some (HttpStatus n)) g = g
