-- What an answer of each act keeps.
use Rattle.std.proofs.Common.{◌≡◌, ◌∙◌, ℕ, zero, suc, ◌+◌, ◌<◌, ◌⊎◌, inl, inr, true, false, Bool, cond, List, [], ◌∷◌, length, map, Option, Some, None, Result, Ok, Err, refl, sym, ap, subst, arith, eqb, eq-eqb}
use Rattle.std.specs.List.{AllByRecursion}
use Rattle.std.specs.FinMap.{get, insert, remove}
use Rattle.std.proofs.lemmas.Bool.{eqb-true}
use Rattle.xet_types.specs.declared.error.Refusal.{Refusal}
use Rattle.xet_types.specs.declared.error.Refusal.TheVariants.{FormatError, InvalidRange, InvalidArguments, XORBNotFound, PresignedUrlExpirationError, Other}
use Rattle.xet_types.specs.declared.error.FormatFault.TheVariants as faults
use Rattle.xet_types.specs.Records.{SecondPlan}
use Rattle.xet_types.specs.declared.range.Range.{Range}
use Rattle.xet_types.specs.declared.range._F.{_F}
use Rattle.xet_types.specs.declared.record.XorbReconstructionTerm.{XorbReconstructionTerm}
use Rattle.xet_shard.specs.declared.listing.Segment.{Segment}
use Rattle.xet_plan.specs.Places.{Interval}
use Rattle.xet_plan.specs.Plans.{PlanModel}
use Rattle.xet_store.specs.StoreModel.{StoreModel, Chunks, stored, known_of, IsSound}
use Rattle.xet_store.specs.Commands.{hide_file, delete_xorb, set_expiration, set_dedup_expiration, drop_dedup}
use Rattle.xet_store.specs.TermData.{is_expired}
use Rattle.xet_store.specs.Questions.{file_size, file_data, dedup_answer, xorb_hashes}
use Rattle.xet_store.specs.Lists.{shard_hashes, file_entries}
use Rattle.xet_store.specs.Checks.{checked, integrity, reachable, readable}
use Rattle.xet_store.specs.Plans.{Serves}
use Rattle.xet_store.specs.Batches.{RespondsToAll}
use Rattle.xet_store.specs.Responses.{response_by}
use Rattle.xet_service.specs.declared.step.Act.{Act}
use Rattle.xet_service.specs.declared.step.Act.TheVariants.{UploadXorb, UploadShard, Plan, Fetch, Abandon, HideFile, DeleteShard, DeleteXorb, SetExpiration, SetMaxRanges, FileSize, FileData, SetDedupExpiration, DedupQuery, RemoveDedup, ListXorbs, ListShards, ListFiles, CheckIntegrity, CheckReachable, CheckReadable, InsertRandomXorb, Batch, InsertLazyFile}
use Rattle.xet_service.specs.declared.step.PlanVersion.{PlanVersion}
use Rattle.xet_service.specs.declared.reply.Reply.{Reply}
use Rattle.xet_service.specs.declared.reply.Reply.TheVariants.{Uploaded, ShardTaken, NoPlan, Done, Planned, Fetched, Finished, Size, Data, Hashes, Files, Random}
use Rattle.xet_service.specs.declared.read.OpenRead.{OpenRead}
use Rattle.xet_service.specs.declared.reader.link.ReadLink.{ReadLink}
use Rattle.xet_service.specs.Bodies.{Body, type_text, all_lie_in, bytes_at, Sends, SendsOf, IsBodyOf}
use Rattle.xet_service.specs.Links.{LinkModel, answer_of}
use Rattle.xet_service.specs.Reading.{Reading, left_link, count_left, take_link, AreAllWhole, HasParts, Brings as BodyBrings, BringsTo, Gives, Accepts, bytes_read}
use Rattle.xet_service.specs.ReadingPlans.{can_open, reading_of}
use Rattle.xet_service.specs.World.{State, Reads, IsOrderly, IsInOrder}
use Rattle.xet_service.specs.Steps.{Outcome, ReadsOutcome, refuses, keeps_reads, no_note, used_up, read_of, opened, open_links, open_plan, plan_step, fetch_done, fetch_taken, with_reader, asked_bytes, TakesBody, FetchesBody, FetchesIf, FetchesLink, FetchesRead, Fetches, abandon_read, abandon_step, map_ok, asks, was_done, Commands, PlansBy, Acts, shard_reply, batch_reply, lazy_reply}
use Rattle.xet_service.specs.Causes.{HasCause, PlansNothing, IsLeft, FetchesLeft, FetchesStored, FetchesBytes}
use Rattle.xet_service.specs.Headline.{HoldsMet, Brings}
use Rattle.xet_service.proofs.Planned.{answered_links, covers, once}
use Rattle.xet_service.proofs.Left.{by_put, by_gone, other_left, some_left, ranges_stay, left_orderly}
use Rattle.xet_service.proofs.PlanRuns.{same_terms, same_offset}
use Rattle.xet_service.proofs.Parted.{parts_once, written_parts}
use Rattle.xet_service.proofs.Causing.{Reached, Says, plan_says, xorb_refused, shard_refused, never_refused, shard_kept, size_refused, data_refused, max_kept, check_refused, generated_refused, batch_refused, batch_asked, lazy_refused}

abbrev pub ok_reply : Reply → Result Reply Refusal
ok_reply reply = Ok reply

abbrev pub err_why : Refusal → Result Reply Refusal
err_why why = Err why

abbrev some_read : OpenRead → Option OpenRead
some_read r = Some r

abbrev some_link : ReadLink → Option ReadLink
some_link l = Some l

-- What a plan that a store answers is: it gives a read, the ranges of each of whose links are in order.
pub record PlanFacts : Type 0 where
  pub opens : (version : PlanVersion) (max : ℕ) (store : StoreModel) (segments : List Segment) (range : Option (Range ℕ _F)) (clip : Interval) (plan : PlanModel) (at : ℕ) → Serves (known_of store) segments range clip plan → can_open (answer_of version max at plan) ≡ true
  pub orderly : (version : PlanVersion) (max : ℕ) (store : StoreModel) (segments : List Segment) (range : Option (Range ℕ _F)) (clip : Interval) (plan : PlanModel) (at : ℕ) → Serves (known_of store) segments range clip plan → IsSound store
      → AllByRecursion IsOrderly (reading_of (answer_of version max at plan) range).links

-- the fetch of this link gave a reply that brings it, or its read was abandoned
abbrev pub IsEnded : Act → ℕ → ℕ → Result Reply Refusal → Type 0
IsEnded act read link result = ((act ≡ Fetch read link) × ((reply : Reply) × (result ≡ ok_reply reply) × Brings read link reply)) ⊎ ((act ≡ Abandon read) × (result ≡ ok_reply Done))

-- what an act's answer and the state after it keep
pub record Kept (s : State) (at : ℕ) (act : Act) (result : Result Reply Refusal) (t : State) : Type 0 where
  pub links : (version : PlanVersion) (file : List ℕ) (range : Option (Range ℕ _F)) (read : ℕ) (of : PlanVersion) (offset : ℕ) (terms : List XorbReconstructionTerm) (ls : List LinkModel)
      → act ≡ Plan version file range → result ≡ ok_reply (Planned of read offset terms ls) → HoldsMet s.store version file range at of offset terms ls
  pub refused : (why : Refusal) → result ≡ err_why why → t ≡ s
  pub cause : (why : Refusal) → result ≡ err_why why → HasCause s at act why
  pub no_plan : result ≡ ok_reply NoPlan → PlansNothing s act
  pub left : (read link : ℕ) → IsLeft s read link → IsLeft t read link ⊎ IsEnded act read link result
  pub gone : (read link : ℕ) → act ≡ Fetch read link → (IsLeft s read link → ⊥) → result ≡ err_why InvalidArguments
  pub in_order : IsInOrder t

-- ---- refusals

pub refused_kept : (s : State) (at : ℕ) (act : Act) (why : Refusal) → IsInOrder s → HasCause s at act why → ((read link : ℕ) → act ≡ Fetch read link → (IsLeft s read link → ⊥) → why ≡ InvalidArguments) → Kept s at act (err_why why) s
refused_kept s at act why in_order cause gone = record {
  links = λ version file range read of offset terms ls a e. absurd cc;
  refused = λ w e. refl;
  cause = λ w e. let same : why ≡ w = cc in subst (HasCause s at act) same cause;
  no_plan = λ e. absurd cc;
  left = λ read link l. inl l;
  gone = λ read link a g. ap err_why (gone read link a g);
  in_order = in_order;
}

-- the same reads and number are in order
same_order : (s t : State) → t.reads ≡ s.reads → t.next ≡ s.next → IsInOrder s → IsInOrder t
same_order s t reads next o = record {
  numbered = λ n r e. subst (λ (k : ℕ). n < k) (sym next) (o.numbered n r (ap (λ (m : Reads). get m n) (sym reads) ∙ e));
  orderly = λ n r e. o.orderly n r (ap (λ (m : Reads). get m n) (sym reads) ∙ e);
}

-- ---- the store's commands and questions

module _ {T : Type 0} (f : T → Reply) where
  err_of : (answer : Result T Refusal) (why : Refusal) → map_ok f answer ≡ err_why why → answer ≡ Err why
  err_of (Ok x) why e = absurd (let g : ok_reply (f x) ≡ err_why why = e in cc)
  err_of (Err w) why e = let g : err_why w ≡ err_why why = e in let same : w ≡ why = cc in ap (λ (v : Refusal). Err v) same

  plain_of : (answer : Result T Refusal) (reply : Reply) → ((x : T) → f x ≡ reply → ⊥) → map_ok f answer ≡ ok_reply reply → ⊥
  plain_of (Ok x) reply never e = never x (let g : ok_reply (f x) ≡ ok_reply reply = e in cc)
  plain_of (Err w) reply never e = let g : err_why w ≡ ok_reply reply = e in cc

module _ {T : Type 0} (f : T → Reply) (s : State) (at : ℕ) (act : Act) (result : Result Reply Refusal) (t : State) (in_order : IsInOrder s)
    (no_none : (x : T) → f x ≡ NoPlan → ⊥) (not_plan : (version : PlanVersion) (file : List ℕ) (range : Option (Range ℕ _F)) → act ≡ Plan version file range → ⊥) (not_fetch : (read link : ℕ) → act ≡ Fetch read link → ⊥) where
  pub command_kept : (Does : Result T Refusal → StoreModel → Type 0) → Commands Does f s result t → ((why : Refusal) → Does (Err why) t.store → (t.store ≡ s.store) × HasCause s at act why) → Kept s at act result t
  command_kept Does h refused =
      let reads : t.reads ≡ s.reads = ap (λ (u : State). u.reads) h.rest in
      let next : t.next ≡ s.next = ap (λ (u : State). u.next) h.rest in
      let why_of : (why : Refusal) → result ≡ err_why why → (t.store ≡ s.store) × HasCause s at act why
      = λ why e. refused why (subst (λ (a : Result T Refusal). Does a t.store) (err_of f h.answer why (sym h.reply ∙ e)) h.does) in
      record {
        links = λ version file range read of offset terms ls a e. absurd (not_plan version file range a);
        refused = λ why e. h.rest ∙ ap (λ (m : StoreModel). record s { store = m }) (why_of why e).0;
        cause = λ why e. (why_of why e).1;
        no_plan = λ e. absurd (plain_of f h.answer NoPlan no_none (sym h.reply ∙ e));
        left = λ read link l. inl (record { held = l.held; it = l.it; open_it = ap (λ (m : Reads). get m read) reads ∙ l.open_it; left = l.left });
        gone = λ read link a g. absurd (not_fetch read link a);
        in_order = same_order s t reads next in_order;
      }

  pub question_kept : (answer : Result T Refusal) → asks f s answer ≡ (result, t) → ((why : Refusal) → answer ≡ Err why → HasCause s at act why) → Kept s at act result t
  question_kept answer h cause =
      let is : map_ok f answer ≡ result = ap (λ (o : Outcome). o.0) h in
      let same : s ≡ t = ap (λ (o : Outcome). o.1) h in
      record {
        links = λ version file range read of offset terms ls a e. absurd (not_plan version file range a);
        refused = λ why e. sym same;
        cause = λ why e. cause why (err_of f answer why (is ∙ e));
        no_plan = λ e. absurd (plain_of f answer NoPlan no_none (is ∙ e));
        left = λ read link l. inl (subst (λ (u : State). IsLeft u read link) same l);
        gone = λ read link a g. absurd (not_fetch read link a);
        in_order = subst IsInOrder same in_order;
      }

-- ---- plans

module _ (facts : PlanFacts) (s : State) (at : ℕ) (version : PlanVersion) (file : List ℕ) (range : Option (Range ℕ _F)) (in_order : IsInOrder s) (sound : IsSound s.store) where
  abbrev PlanKept : Outcome → Type 0
  PlanKept o = Kept s at (Plan version file range) o.0 o.1

  plan_refused : (why : Refusal) → HasCause s at (Plan version file range) why → PlanKept (refuses s why)
  plan_refused why cause = refused_kept s at (Plan version file range) why in_order cause (λ read link a g. absurd cc)

  none_kept : PlansNothing s (Plan version file range) → PlanKept (Ok NoPlan, s)
  none_kept cause = record {
    links = λ version' file' range' read of offset terms ls a e. absurd cc;
    refused = λ why e. refl;
    cause = λ why e. absurd cc;
    no_plan = λ e. cause;
    left = λ read link l. inl l;
    gone = λ read link a g. absurd cc;
    in_order = in_order;
  }

  empty_kept : PlanKept (Ok (Finished s.next [] 0 no_note), record s { next = s.next + 1 })
  empty_kept = record {
    links = λ version' file' range' read of offset terms ls a e. absurd cc;
    refused = λ why e. absurd cc;
    cause = λ why e. absurd cc;
    no_plan = λ e. absurd cc;
    left = λ read link l. inl (record { held = l.held; it = l.it; open_it = l.open_it; left = l.left });
    gone = λ read link a g. absurd cc;
    in_order = record { numbered = λ n r e. let below : n < s.next = in_order.numbered n r e in omega (arith, below); orderly = in_order.orderly };
  }

  abbrev answer : PlanModel → SecondPlan
  answer plan = answer_of version s.store.max_ranges at plan

  abbrev links_at : PlanModel → List LinkModel
  links_at plan = answered_links version s.store.max_ranges at plan

  met : (plan : PlanModel) → Reached s.store file range plan → HoldsMet s.store version file range at version (answer plan).offset_into_first_range (answer plan).terms (links_at plan)
  met plan h = record {
    segments = h.segments;
    clip = h.clip;
    plan = plan;
    live = h.live;
    reached = h.reached;
    agree = h.serves.faultless;
    is_plan = h.serves.planned;
    of_version = refl;
    of_terms = same_terms version s.store.max_ranges at plan;
    of_offset = same_offset version s.store.max_ranges at plan;
    of_links = refl;
    covers = covers version s.store.max_ranges at h.serves.planned;
    once = once version s.store.max_ranges at h.serves.planned;
  }

  links_met : (plan : PlanModel) (l : LinkModel) (ls : List LinkModel) → Reached s.store file range plan → links_at plan ≡ l ∷ ls
      → (version' : PlanVersion) (file' : List ℕ) (range' : Option (Range ℕ _F)) (read : ℕ) (of : PlanVersion) (offset : ℕ) (terms : List XorbReconstructionTerm) (ks : List LinkModel)
      → Plan version file range ≡ Plan version' file' range' → ok_reply (Planned version s.next (answer plan).offset_into_first_range (answer plan).terms (l ∷ ls)) ≡ ok_reply (Planned of read offset terms ks) → HoldsMet s.store version' file' range' at of offset terms ks
  links_met plan l ls h is version' file' range' read of offset terms ks a e =
      let v : version ≡ version' = cc in
      let f : file ≡ file' = cc in
      let g : range ≡ range' = cc in
      let w : version ≡ of = cc in
      let o : (answer plan).offset_into_first_range ≡ offset = cc in
      let t : (answer plan).terms ≡ terms = cc in
      let k : l ∷ ls ≡ ks = cc in
      subst (λ (x : PlanVersion). HoldsMet s.store x file' range' at of offset terms ks) v
      (subst (λ (x : List ℕ). HoldsMet s.store version x range' at of offset terms ks) f
      (subst (λ (x : Option (Range ℕ _F)). HoldsMet s.store version file x at of offset terms ks) g
      (subst (λ (x : PlanVersion). HoldsMet s.store version file range at x offset terms ks) w
      (subst (λ (x : ℕ). HoldsMet s.store version file range at version x terms ks) o
      (subst (λ (x : List XorbReconstructionTerm). HoldsMet s.store version file range at version (answer plan).offset_into_first_range x ks) t
      (subst (λ (x : List LinkModel). HoldsMet s.store version file range at version (answer plan).offset_into_first_range (answer plan).terms x) (is ∙ k) (met plan h)))))))

  opened_kept : (plan : PlanModel) (l : LinkModel) (ls : List LinkModel) → Reached s.store file range plan → links_at plan ≡ l ∷ ls
      → PlanKept (Ok (Planned version s.next (answer plan).offset_into_first_range (answer plan).terms (l ∷ ls)), opened s (read_of (answer plan) range at))
  opened_kept plan l ls h is =
      let new : OpenRead = read_of (answer plan) range at in
      record {
        links = links_met plan l ls h is;
        refused = λ why e. absurd cc;
        cause = λ why e. absurd cc;
        no_plan = λ e. absurd cc;
        left = λ read link k. inl (record {
          held = k.held;
          it = k.it;
          open_it = by_put (λ (o : Option OpenRead). o ≡ some_read k.held) s.reads s.next new read (λ e. let below : read < s.next = in_order.numbered read k.held k.open_it in absurd (omega (arith, below, e))) (λ e. k.open_it);
          left = k.left;
        });
        gone = λ read link a g. absurd cc;
        in_order = record {
          numbered = λ n r e.
              by_put (λ (o : Option OpenRead). o ≡ some_read r → n < s.next + 1) s.reads s.next new n (λ same g. omega (arith, same)) (λ apart g. let below : n < s.next = in_order.numbered n r g in omega (arith, below)) e;
          orderly = λ n r e.
              by_put (λ (o : Option OpenRead). o ≡ some_read r → AllByRecursion IsOrderly r.reader.links) s.reads s.next new n
              (λ same g. let is_new : new ≡ r = cc in subst (λ (q : OpenRead). AllByRecursion IsOrderly q.reader.links) is_new (facts.orderly version s.store.max_ranges s.store h.segments range h.clip plan at h.serves sound)) (λ apart g. in_order.orderly n r g) e;
        };
      }

  links_kept : (plan : PlanModel) (ls : List LinkModel) → Reached s.store file range plan → links_at plan ≡ ls → PlanKept (open_links s version (answer plan) range at ls)
  links_kept plan [] h is = empty_kept
  links_kept plan (l ∷ ls) h is = opened_kept plan l ls h is

  planned_kept : (plan : PlanModel) → Reached s.store file range plan → PlanKept (open_plan s version (answer plan) range at)
  planned_kept plan h =
      elim (used_up s.next) as (λ b. used_up s.next ≡ b → PlanKept (cond b (refuses s InvalidArguments) (cond (can_open (answer plan)) (open_links s version (answer plan) range at (links_at plan)) (refuses s InvalidArguments)))) [
        | true ↦ λ e. plan_refused InvalidArguments (inl (record {
          plan = record { version = version; file = file; range = range; is = refl; segments = h.segments; live = h.live };
          clip = h.clip;
          reached = h.reached;
          faultless = h.serves.faultless;
          used = e;
        }))
        | false ↦ λ e. subst (λ (b : Bool). PlanKept (cond b (open_links s version (answer plan) range at (links_at plan)) (refuses s InvalidArguments))) (sym (facts.opens version s.store.max_ranges s.store h.segments range h.clip plan at h.serves)) (links_kept plan (links_at plan) h refl)
      ] refl

  answer_kept : (r : Result (Option PlanModel) Refusal) → Says s at version file range r → PlanKept (plan_step s version range at (response_by answer r))
  answer_kept (Err why) h = plan_refused why h
  answer_kept (Ok None) h = none_kept h
  answer_kept (Ok (Some plan)) h = planned_kept plan h

  planned : (result : Result Reply Refusal) (t : State) → PlansBy s version file range at result t → Kept s at (Plan version file range) result t
  planned result t h =
      subst PlanKept (ap (plan_step s version range at) (sym h.responds.response) ∙ h.step) (answer_kept h.responds.answer (plan_says s at version file range h.responds.answer h.responds.plans))

pub plan_kept : PlanFacts → (s : State) (at : ℕ) (version : PlanVersion) (file : List ℕ) (range : Option (Range ℕ _F)) → IsInOrder s → (result : Result Reply Refusal) (t : State) → PlansBy s version file range at result t → Kept s at (Plan version file range) result t
plan_kept facts s at version file range o result t h = planned facts s at version file range o h.responds.sound result t h

-- ---- fetches

module _ (s : State) (at read link : ℕ) (in_order : IsInOrder s) where
  abbrev with_reads : Reads → State
  with_reads reads = record s { reads = reads }

  abbrev FetchKept : ReadsOutcome → Type 0
  FetchKept o = Kept s at (Fetch read link) o.0 (with_reads o.1)

  same_left : (n k : ℕ) → Fetch read link ≡ Fetch n k → IsLeft s read link → IsLeft s n k
  same_left n k a l =
      let x : read ≡ n = cc in
      let y : link ≡ k = cc in
      subst (λ (i : ℕ). IsLeft s n i) y (subst (λ (i : ℕ). IsLeft s i link) x l)

  gone_kept : (IsLeft s read link → ⊥) → FetchKept (keeps_reads s.reads InvalidArguments)
  gone_kept gone = refused_kept s at (Fetch read link) InvalidArguments in_order (inr (inl (record { read = read; link = link; is = refl; gone = gone }))) (λ n k a g. refl)

  left_refused : (why : Refusal) → IsLeft s read link → HasCause s at (Fetch read link) why → FetchKept (keeps_reads s.reads why)
  left_refused why l cause = refused_kept s at (Fetch read link) why in_order cause (λ n k a g. absurd (g (same_left n k a l)))

  module _ (r : OpenRead) (l : ReadLink) (open_it : get s.reads read ≡ Some r) (is : left_link r.reader.links link ≡ Some l) where
    abbrev here : IsLeft s read link
    here = record { held = r; it = l; open_it = open_it; left = is }

    abbrev fetched : FetchesLeft s (Fetch read link)
    fetched = record { read = read; link = link; is = refl; left = here }

    -- another link of this read stays left
    still : (got : List Chunks) (n k : ℕ) → n ≡ read → (k ≡ link → ⊥) → (h : IsLeft s n k) → left_link (take_link r.reader link got).links k ≡ Some h.it
    still got n k same apart h =
        let there : some_read r ≡ some_read h.held = sym open_it ∙ ap (get s.reads) (sym same) ∙ h.open_it in
        let held : r ≡ h.held = cc in
        other_left r.reader.links link k got apart ∙ ap (λ (q : OpenRead). left_link q.reader.links k) held ∙ h.left

    brought : (reply : Reply) (n k : ℕ) → n ≡ read → k ≡ link → Brings n k reply → IsEnded (Fetch read link) n k (ok_reply reply)
    brought reply n k x y b = inl (cc, (reply, refl, b))

    by_link : (A : Type 0) (k : ℕ) → (k ≡ link → A) → ((k ≡ link → ⊥) → A) → A
    by_link A k same apart =
        elim (eqb k link) as (λ b. eqb k link ≡ b → A) [
          | true ↦ λ e. same (eqb-true k link e)
          | false ↦ λ e. apart (λ g. let f : true ≡ false = sym (eq-eqb k link g) ∙ e in cc)
        ] refl

    ended_kept : (got : List Chunks) (wire : ℕ) → count_left (take_link r.reader link got).links ≡ 0 → FetchKept (Ok (Finished read (bytes_read (take_link r.reader link got)) wire no_note), remove s.reads read)
    ended_kept got wire none = record {
      links = λ version file range n of offset terms ls a e. absurd cc;
      refused = λ why e. absurd cc;
      cause = λ why e. absurd cc;
      no_plan = λ e. absurd cc;
      left = λ n k h.
          by_gone (λ (o : Option OpenRead). (get (remove s.reads read) n ≡ o) → IsLeft (with_reads (remove s.reads read)) n k ⊎ IsEnded (Fetch read link) n k (ok_reply (Finished read (bytes_read (take_link r.reader link got)) wire no_note))) s.reads read n
          (λ same up. by_link _ k
          (λ y. inr (brought (Finished read (bytes_read (take_link r.reader link got)) wire no_note) n k same y (sym same)))
          (λ apart. let some : 0 < count_left (take_link r.reader link got).links = some_left (take_link r.reader link got).links k h.it (still got n k same apart h) in absurd (omega (arith, some, none))))
          (λ apart up. inl (record { held = h.held; it = h.it; open_it = up ∙ h.open_it; left = h.left }))
          refl;
      gone = λ n k a g. absurd (g (same_left n k a here));
      in_order = record {
        numbered = λ n q e. by_gone (λ (o : Option OpenRead). o ≡ some_read q → n < s.next) s.reads read n (λ same g. absurd cc) (λ apart g. in_order.numbered n q g) e;
        orderly = λ n q e. by_gone (λ (o : Option OpenRead). o ≡ some_read q → AllByRecursion IsOrderly q.reader.links) s.reads read n (λ same g. absurd cc) (λ apart g. in_order.orderly n q g) e;
      };
    }

    fetched_kept : (got : List Chunks) (wire count : ℕ) → FetchKept (Ok (Fetched read link count wire no_note), insert s.reads read (with_reader r (take_link r.reader link got)))
    fetched_kept got wire count =
        let new : OpenRead = with_reader r (take_link r.reader link got) in
        record {
          links = λ version file range n of offset terms ls a e. absurd cc;
          refused = λ why e. absurd cc;
          cause = λ why e. absurd cc;
          no_plan = λ e. absurd cc;
          left = λ n k h.
              by_put (λ (o : Option OpenRead). (get (insert s.reads read new) n ≡ o) → IsLeft (with_reads (insert s.reads read new)) n k ⊎ IsEnded (Fetch read link) n k (ok_reply (Fetched read link count wire no_note))) s.reads read new n
              (λ same up. by_link _ k
              (λ y. inr (brought (Fetched read link count wire no_note) n k same y (sym same, sym y)))
              (λ apart. inl (record { held = new; it = h.it; open_it = up; left = still got n k same apart h })))
              (λ apart up. inl (record { held = h.held; it = h.it; open_it = up ∙ h.open_it; left = h.left }))
              refl;
          gone = λ n k a g. absurd (g (same_left n k a here));
          in_order = record {
            numbered = λ n q e. by_put (λ (o : Option OpenRead). o ≡ some_read q → n < s.next) s.reads read new n (λ same g. subst (λ (i : ℕ). i < s.next) (sym same) (in_order.numbered read r open_it)) (λ apart g. in_order.numbered n q g) e;
            orderly = λ n q e. by_put (λ (o : Option OpenRead). o ≡ some_read q → AllByRecursion IsOrderly q.reader.links) s.reads read new n
                (λ same g. let is_new : new ≡ q = cc in subst (λ (p : OpenRead). AllByRecursion IsOrderly p.reader.links) is_new (ranges_stay r.reader.links link got (in_order.orderly read r open_it))) (λ apart g. in_order.orderly n q g) e;
          };
        }

    done_kept : (got : List Chunks) (wire count : ℕ) → count_left (take_link r.reader link got).links ≡ count → FetchKept (fetch_done s.reads read link wire (with_reader r (take_link r.reader link got)) count)
    done_kept got wire zero e = ended_kept got wire e
    done_kept got wire (suc count) e = fetched_kept got wire (suc count)

    module _ (order : IsOrderly l) (fresh : is_expired at r.stamp s.store.expiration ≡ false) (chunks : Chunks) (there : stored s.store l.hash ≡ Some chunks) where
      abbrev of_stored : FetchesStored s at (Fetch read link)
      of_stored = record { fetch = fetched; fresh = fresh; chunks = chunks; there = there }

      abbrev pieces : List (List ℕ)
      pieces = map (bytes_at chunks) (asked_bytes l.ranges)

      module _ (body : Body) (inside : all_lie_in chunks (asked_bytes l.ranges) ≡ true) (is_body : IsBodyOf chunks (asked_bytes l.ranges) body) where
        abbrev brings : FetchesBytes s at (Fetch read link)
        brings = record { of = of_stored; inside = inside }

        -- a body of the store has the bytes of the link's ranges as its parts
        has : HasParts l.ranges (type_text body.content_type) body.bytes pieces
        has = written_parts chunks l.ranges order.rises order.below inside body is_body

        same_parts : (p : List (List ℕ)) (got : List Chunks) → HasParts l.ranges (type_text body.content_type) body.bytes p → AreAllWhole pieces got → AreAllWhole p got
        same_parts p got h whole = subst (λ (q : List (List ℕ)). AreAllWhole q got) (parts_once l.ranges (type_text body.content_type) body.bytes pieces p has h) whole

        same_pieces : (p : List (List ℕ)) (got : List Chunks) → HasParts l.ranges (type_text body.content_type) body.bytes p → AreAllWhole p got → AreAllWhole pieces got
        same_pieces p got h whole = subst (λ (q : List (List ℕ)). AreAllWhole q got) (parts_once l.ranges (type_text body.content_type) body.bytes p pieces h has) whole

        link_refused : (why : Refusal) → BodyBrings l (type_text body.content_type) body.bytes (Err why) → FetchKept (keeps_reads s.reads why)
        link_refused Other h = absurd (h pieces has)
        link_refused (FormatError faults.Xorb) h = left_refused (FormatError faults.Xorb) here (inr (record { brings = brings; broken = λ got whole. h.none got (same_parts h.parts got h.has whole) }))
        link_refused (FormatError faults.Body) h = left_refused (FormatError faults.Body) here (record { brings = brings; got = h.got; whole = same_pieces h.parts h.got h.has h.whole; misfit = h.misfit })
        link_refused why h = absurd h

        body_refused : (why : Refusal) → Gives r.reader.links link (type_text body.content_type) body.bytes (Err why) → FetchKept (keeps_reads s.reads why)
        body_refused why h = link_refused why (subst (λ (o : Option ReadLink). BringsTo o (type_text body.content_type) body.bytes (Err why)) is h)

        taken_kept : (answer : Result (Unit {0}) Refusal) (after : Reading) → Accepts r.reader link (type_text body.content_type) body.bytes answer after → FetchKept (fetch_taken s.reads read link (length body.bytes) r answer after)
        taken_kept (Err why) after h = body_refused why h.0
        taken_kept (Ok u) after h =
            subst (λ (a : Reading). FetchKept (fetch_done s.reads read link (length body.bytes) (with_reader r a) (count_left a.links))) (sym h.1.1) (done_kept h.0 (length body.bytes) (count_left (take_link r.reader link h.0).links) refl)

        body_kept : (result : Result Reply Refusal) (reads : Reads) → TakesBody s.reads read link r body result reads → FetchKept (result, reads)
        body_kept result reads h = subst FetchKept h.step (taken_kept h.answer h.after h.accepts)

      sent_kept : (a : Result Body Refusal) (result : Result Reply Refusal) (reads : Reads) → Sends chunks (asked_bytes l.ranges) a → FetchesBody s.reads read link r a result reads → FetchKept (result, reads)
      sent_kept (Ok body) result reads e h = body_kept body e.0 e.1 result reads h
      sent_kept (Err InvalidRange) result reads e h = subst FetchKept h (left_refused InvalidRange here (inr (inl (record { of = of_stored; past = e }))))
      sent_kept (Err why) result reads e h = absurd e

    stored_kept : (o : Option Chunks) (a : Result Body Refusal) (result : Result Reply Refusal) (reads : Reads) → IsOrderly l → is_expired at r.stamp s.store.expiration ≡ false → stored s.store l.hash ≡ o
        → SendsOf l.hash (asked_bytes l.ranges) o a → FetchesBody s.reads read link r a result reads → FetchKept (result, reads)
    stored_kept None a result reads order fresh e sent h =
        subst FetchKept (subst (λ (x : Result Body Refusal). FetchesBody s.reads read link r x result reads) sent h) (left_refused (XORBNotFound l.hash) here (inr (inr (inl (record { fetch = fetched; fresh = fresh; hash_is = refl; unstored = e })))))
    stored_kept (Some chunks) a result reads order fresh e sent h = sent_kept order fresh chunks e a result reads sent h

    aged_kept : (b : Bool) (result : Result Reply Refusal) (reads : Reads) → is_expired at r.stamp s.store.expiration ≡ b → FetchesIf s.store s.reads read link r l b result reads → FetchKept (result, reads)
    aged_kept true result reads e h = subst FetchKept h (left_refused PresignedUrlExpirationError here (record { fetch = fetched; late = e }))
    aged_kept false result reads e h = stored_kept (stored s.store l.hash) h.body result reads (left_orderly r.reader.links link l (in_order.orderly read r open_it) is) e refl h.sent h.brings

  link_kept : (r : OpenRead) (o : Option ReadLink) (result : Result Reply Refusal) (reads : Reads) → get s.reads read ≡ Some r → left_link r.reader.links link ≡ o → FetchesLink s.store s.reads read link at r o result reads → FetchKept (result, reads)
  link_kept r None result reads open_it e h = subst FetchKept h (gone_kept (λ l.
      let there : some_read r ≡ some_read l.held = sym open_it ∙ l.open_it in
      let held : r ≡ l.held = cc in
      let f : None ≡ some_link l.it = sym e ∙ ap (λ (q : OpenRead). left_link q.reader.links link) held ∙ l.left in
      cc))
  link_kept r (Some l) result reads open_it e h = aged_kept r l open_it e (is_expired at r.stamp s.store.expiration) result reads refl h

  read_kept : (o : Option OpenRead) (result : Result Reply Refusal) (reads : Reads) → get s.reads read ≡ o → FetchesRead s.store s.reads read link at o result reads → FetchKept (result, reads)
  read_kept None result reads e h = subst FetchKept h (gone_kept (λ l. let f : None ≡ some_read l.held = sym e ∙ l.open_it in cc))
  read_kept (Some r) result reads e h = link_kept r (left_link r.reader.links link) result reads e refl h

  pub fetch_kept : (result : Result Reply Refusal) (t : State) → Fetches s read link at result t → Kept s at (Fetch read link) result t
  fetch_kept result t h = subst (λ (u : State). Kept s at (Fetch read link) result u) (sym h.rest) (read_kept (get s.reads read) result t.reads refl h.reads)

-- ---- abandoned reads

module _ (s : State) (at read : ℕ) (in_order : IsInOrder s) where
  abbrev AbandonKept : Outcome → Type 0
  AbandonKept o = Kept s at (Abandon read) o.0 o.1

  abandoned : (o : Option OpenRead) → get s.reads read ≡ o → AbandonKept (abandon_read s read o)
  abandoned None e = refused_kept s at (Abandon read) InvalidArguments in_order (inr (inr (inl (record { read = read; is = refl; gone = e })))) (λ n k a g. absurd cc)
  abandoned (Some r) e = record {
    links = λ version file range n of offset terms ls a f. absurd cc;
    refused = λ why f. absurd cc;
    cause = λ why f. absurd cc;
    no_plan = λ f. absurd cc;
    left = λ n k h.
        by_gone (λ (o : Option OpenRead). (get (remove s.reads read) n ≡ o) → IsLeft (record s { reads = remove s.reads read }) n k ⊎ IsEnded (Abandon read) n k (ok_reply Done)) s.reads read n
        (λ same up. inr (inr (ap (λ (i : ℕ). Abandon i) (sym same), refl)))
        (λ apart up. inl (record { held = h.held; it = h.it; open_it = up ∙ h.open_it; left = h.left }))
        refl;
    gone = λ n k a g. absurd cc;
    in_order = record {
      numbered = λ n q f. by_gone (λ (o : Option OpenRead). o ≡ some_read q → n < s.next) s.reads read n (λ same g. absurd cc) (λ apart g. in_order.numbered n q g) f;
      orderly = λ n q f. by_gone (λ (o : Option OpenRead). o ≡ some_read q → AllByRecursion IsOrderly q.reader.links) s.reads read n (λ same g. absurd cc) (λ apart g. in_order.orderly n q g) f;
    };
  }

  pub abandon_kept : (result : Result Reply Refusal) (t : State) → abandon_step s read ≡ (result, t) → Kept s at (Abandon read) result t
  abandon_kept result t h = subst AbandonKept h (abandoned (get s.reads read) refl)

-- a query is answered by a reply of its own
dedup_plans : (o : Option (List ℕ)) → shard_reply o ≡ NoPlan → ⊥
dedup_plans None e = absurd cc
dedup_plans (Some bytes) e = absurd cc

-- ---- all acts

pub act_kept : PlanFacts → (s : State) (at : ℕ) (act : Act) (result : Result Reply Refusal) (t : State) → Acts s at act result t → IsInOrder s → Kept s at act result t
act_kept facts s at (UploadXorb hash content) result t h o =
    command_kept Uploaded s at (UploadXorb hash content) result t o (λ x e. cc) (λ version file range e. cc) (λ read link e. cc) _ h (λ why d. xorb_refused s at hash content t.store why d)
act_kept facts s at (UploadShard content) result t h o =
    command_kept ShardTaken s at (UploadShard content) result t o (λ x e. cc) (λ version file range e. cc) (λ read link e. cc) _ h (λ why d. shard_refused s at content t.store why d)
act_kept facts s at (Plan version file range) result t h o = plan_kept facts s at version file range o result t h
act_kept facts s at (Fetch read link) result t h o = fetch_kept s at read link o result t h
act_kept facts s at (Abandon read) result t h o = abandon_kept s at read o result t h
act_kept facts s at (HideFile file) result t h o =
    command_kept was_done s at (HideFile file) result t o (λ x e. cc) (λ version file' range e. cc) (λ read link e. cc) _ h (λ why d. never_refused s.store (hide_file s.store file).1 t.store why _ d)
act_kept facts s at (DeleteShard shard) result t h o =
    command_kept was_done s at (DeleteShard shard) result t o (λ x e. cc) (λ version file range e. cc) (λ read link e. cc) _ h (λ why d. shard_kept s at shard t.store why d)
act_kept facts s at (DeleteXorb xorb) result t h o =
    command_kept was_done s at (DeleteXorb xorb) result t o (λ x e. cc) (λ version file range e. cc) (λ read link e. cc) _ h (λ why d. never_refused s.store (delete_xorb s.store xorb).1 t.store why _ d)
act_kept facts s at (SetExpiration millis) result t h o =
    command_kept was_done s at (SetExpiration millis) result t o (λ x e. cc) (λ version file range e. cc) (λ read link e. cc) _ h (λ why d. never_refused s.store (set_expiration s.store millis).1 t.store why _ d)
act_kept facts s at (SetDedupExpiration millis) result t h o =
    command_kept was_done s at (SetDedupExpiration millis) result t o (λ x e. cc) (λ version file range e. cc) (λ read link e. cc) _ h (λ why d. never_refused s.store (set_dedup_expiration s.store millis).1 t.store why _ d)
act_kept facts s at (DedupQuery chunk) result t h o =
    question_kept shard_reply s at (DedupQuery chunk) result t o dedup_plans (λ version file' range e. cc) (λ read link e. cc) (Ok (dedup_answer s.store chunk at)) h (λ why e. absurd cc)
act_kept facts s at (SetMaxRanges max) result t h o =
    command_kept was_done s at (SetMaxRanges max) result t o (λ x e. cc) (λ version file range e. cc) (λ read link e. cc) _ h (λ why d. max_kept s at max t.store why d)
act_kept facts s at (RemoveDedup shard) result t h o =
    command_kept was_done s at (RemoveDedup shard) result t o (λ x e. cc) (λ version file range e. cc) (λ read link e. cc) _ h (λ why d. never_refused s.store (drop_dedup s.store shard).1 t.store why _ d)
act_kept facts s at ListXorbs result t h o =
    question_kept Hashes s at ListXorbs result t o (λ x e. cc) (λ version file' range e. cc) (λ read link e. cc) (Ok (xorb_hashes s.store)) h (λ why e. absurd cc)
act_kept facts s at ListShards result t h o =
    question_kept Hashes s at ListShards result t o (λ x e. cc) (λ version file' range e. cc) (λ read link e. cc) (Ok (shard_hashes s.store)) h (λ why e. absurd cc)
act_kept facts s at ListFiles result t h o =
    question_kept Files s at ListFiles result t o (λ x e. cc) (λ version file' range e. cc) (λ read link e. cc) (Ok (file_entries s.store)) h (λ why e. absurd cc)
act_kept facts s at CheckIntegrity result t h o =
    question_kept was_done s at CheckIntegrity result t o (λ x e. cc) (λ version file' range e. cc) (λ read link e. cc) (checked (integrity s.store)) h (λ why e. check_refused (HasCause s at CheckIntegrity) (integrity s.store) why (λ fails. inr (inr fails)) e)
act_kept facts s at CheckReachable result t h o =
    question_kept was_done s at CheckReachable result t o (λ x e. cc) (λ version file' range e. cc) (λ read link e. cc) (checked (reachable s.store)) h (λ why e. check_refused (HasCause s at CheckReachable) (reachable s.store) why (λ fails. inr (inr fails)) e)
act_kept facts s at CheckReadable result t h o =
    question_kept was_done s at CheckReadable result t o (λ x e. cc) (λ version file' range e. cc) (λ read link e. cc) (checked (readable s.store)) h (λ why e. check_refused (HasCause s at CheckReadable) (readable s.store) why (λ fails. inr (inr fails)) e)
act_kept facts s at (InsertRandomXorb seed count size) result t h o =
    command_kept Random s at (InsertRandomXorb seed count size) result t o (λ x e. cc) (λ version file range e. cc) (λ read link e. cc) _ h (λ why d. generated_refused s at seed count size t.store why d)
act_kept facts s at (FileSize file) result t h o =
    question_kept Size s at (FileSize file) result t o (λ x e. cc) (λ version file' range e. cc) (λ read link e. cc) (file_size s.store file) h (λ why e. size_refused s at file why e)
act_kept facts s at (FileData file range) result t h o =
    question_kept Data s at (FileData file range) result t o (λ x e. cc) (λ version file' range' e. cc) (λ read link e. cc) (file_data s.store file range) h (λ why e. data_refused s at file range why e)
act_kept facts s at (Batch files) result t h o =
    question_kept batch_reply s at (Batch files) result t o (λ x e. cc) (λ version file range e. cc) (λ read link e. cc) h.replies.answer (batch_asked s at files result t h)
    (λ why e. batch_refused s at files why (subst (RespondsToAll s.store files at) e h.replies.responds))
act_kept facts s at (InsertLazyFile terms size) result t h o =
    command_kept lazy_reply s at (InsertLazyFile terms size) result t o (λ x e. cc) (λ version file range e. cc) (λ read link e. cc) _ h (λ why d. lazy_refused s at terms size t.store why d)
