-- Every valid read of a run succeeds.
use Rattle.std.proofs.Common.{◌≡◌, ◌∙◌, ℕ, zero, suc, ◌<◌, true, false, Bool, cond, eqb, List, [], ◌∷◌, length, map, set, Option, Some, None, Result, Ok, Err, refl, sym, ap, subst, arith, inl, inr}
use Rattle.std.proofs.lemmas.Bool.{eqb-true, eq-eqb}
use Rattle.std.specs.Prelude.{slice_get}
use Rattle.std.specs.FinMap.{get}
use Rattle.xet_types.specs.declared.error.Refusal.{Refusal}
use Rattle.xet_types.specs.declared.error.Refusal.TheVariants.{FormatError, InvalidArguments, XORBNotFound}
use Rattle.xet_types.specs.declared.error.FormatFault.TheVariants as faults
use Rattle.xet_types.specs.declared.range.Range.{Range}
use Rattle.xet_types.specs.declared.range._F.{_F}
use Rattle.xet_types.specs.declared.record.XorbReconstructionTerm.{XorbReconstructionTerm}
use Rattle.xet_shard.specs.declared.listing.Segment.{Segment}
use Rattle.xet_plan.specs.Places.{first_fault}
use Rattle.xet_plan.specs.declared.place.Reach.{Reach}
use Rattle.xet_plan.specs.declared.place.Reach.TheVariants.{Within}
use Rattle.xet_plan.specs.FileBytes.{Content, file_bytes as bytes_within}
use Rattle.xet_plan.specs.Plans.{PlanModel}
use Rattle.xet_store.specs.StoreModel.{known_of, content_of, IsSound}
use Rattle.xet_store.specs.Plans.{Serves, PlansListed, PlansReached, PlansWithin}
use Rattle.xet_store.specs.Responses.{response_by}
use Rattle.xet_service.specs.declared.step.Act.{Act}
use Rattle.xet_service.specs.declared.step.Act.TheVariants.{UploadXorb, UploadShard, Plan, Fetch, Abandon, HideFile, DeleteShard, DeleteXorb, SetExpiration, SetMaxRanges, FileSize, FileData, SetDedupExpiration, DedupQuery, RemoveDedup, ListXorbs, ListShards, ListFiles, CheckIntegrity, CheckReachable, CheckReadable, InsertRandomXorb, Batch, InsertLazyFile}
use Rattle.xet_service.specs.declared.step.PlanVersion.{PlanVersion}
use Rattle.xet_service.specs.declared.reply.Reply.TheVariants.{Planned}
use Rattle.xet_service.specs.declared.read.OpenRead.{OpenRead}
use Rattle.xet_service.specs.World.{State}
use Rattle.xet_service.specs.Steps.{Outcome, refuses, opened, open_links, plan_step, read_of, PlansBy, Acts}
use Rattle.xet_service.specs.Runs.{World, Event, IsStep, Chain, outcome_of}
use Rattle.xet_service.specs.Validity.{AgreesWith, IsAgreed, IsServed, IsFetched, ValidAt, IsValidRest, left_after, count_true, Answered, AnsweredAt, AnsweredRest, all_left, ReadsSucceed}
use Rattle.xet_service.proofs.Goods.{GoodRead, GoodAt, Goods}
use Rattle.xet_service.proofs.Finishing.{GoodFacts, event_steps}
use Rattle.xet_service.proofs.Succeeds.{IsOpen, Follows, fetch_goes, is_open, hash_of, link_hash, put_here}
use Rattle.xet_types.specs.Records.{SecondPlan}
use Rattle.xet_service.specs.declared.reader.held.HeldTerm.{HeldTerm}
use Rattle.xet_service.specs.declared.reader.link.ReadLink.{ReadLink}
use Rattle.xet_service.specs.Links.{LinkModel, planned_links, answer_of}
use Rattle.xet_service.specs.ReadingPlans.{can_open, with_terms, plan_terms}
use Rattle.xet_service.proofs.PlanRuns.{Linked, link_of, fresh_of, links_in, links_same, plan_fresh}
use Rattle.xet_service.proofs.Planned.{answered_links, planned_some}
use Rattle.xet_service.proofs.Facts.{plan_facts, good_facts}
use Rattle.xet_service.proofs.Keeping.{reply_is}
use Rattle.xet_service.proofs.Following.{NotNames, stays}

none_left : (bs : List Bool) (n : ℕ) → count_true bs ≡ 0 → slice_get bs n ≡ Some true → ⊥
none_left [] n e h = absurd cc
none_left (true ∷ bs) n e h = absurd (omega (arith, e))
none_left (false ∷ bs) zero e h = absurd cc
none_left (false ∷ bs) (suc n) e h = none_left bs n e h

module _ (m : Content) (e : Event) (n stamp : ℕ) (links : List LinkModel) (left : List Bool) (is : IsStep e) (agree : AgreesWith m e.before.state.store) (good : Goods m e.before) (follows : Follows e.before.state n stamp links left) where
  -- an open read that the step doesn't name
  other_goes : (act : Act) → e.step.act ≡ act → NotNames n act → Follows e.after.state n stamp links left
  other_goes act act_is other = elim follows as (λ _. Follows e.after.state n stamp links left) [
    | inl o ↦ inl (record {
      read = o.read;
      found = (elim is.steps.does as (λ _. get e.after.state.reads n ≡ Some o.read) [
        | inl d ↦ stays e.before.state e.step.at (outcome_of e.reply) e.after.state n o.read (subst (GoodAt m e.before n) o.found (good n)).given o.found act other (subst (λ (a : Act). Acts e.before.state e.step.at a (outcome_of e.reply) e.after.state) act_is d)
        | inr f ↦ subst (λ (s : State). get s.reads n ≡ Some o.read) (sym f.same) o.found
      ]);
      stamped = o.stamped;
      mask = o.mask;
      hashes = o.hashes;
    })
    | inr none ↦ inr none
  ]

  abbrev GoesBy : Act → Type 0
  GoesBy act = AnsweredAt n left e.reply act × Follows e.after.state n stamp links (left_after n left act)

  fetch_by_name : (read link : ℕ) → e.step.act ≡ Fetch read link → (b : Bool) → eqb read n ≡ b → ValidAt n stamp links left e (Fetch read link)
      → (read ≡ n → Answered n link (count_true (set left link false)) e.reply) × Follows e.after.state n stamp links (cond b (set left link false) left)
  fetch_by_name read link act_is true t valid =
      let same = eqb-true read n t in
      let v : IsFetched e stamp links left link = valid same in
      elim follows as (λ _. (read ≡ n → Answered n link (count_true (set left link false)) e.reply) × Follows e.after.state n stamp links (set left link false)) [
        | inl o ↦ (elim is.steps.does as (λ _. (read ≡ n → Answered n link (count_true (set left link false)) e.reply) × Follows e.after.state n stamp links (set left link false)) [
          | inl d ↦
              (let g = fetch_goes m e n stamp links left link agree good v o (subst (λ (a : Act). Acts e.before.state e.step.at a (outcome_of e.reply) e.after.state) (act_is ∙ ap (λ (k : ℕ). Fetch k link) same) d) in
              (λ _. g.answered, g.follows))
          | inr f ↦ absurd (v.quiet f.rose)
        ])
        | inr none ↦ absurd (none_left left link none v.left_it)
      ]
  fetch_by_name read link act_is false t valid =
      let apart : read ≡ n → ⊥ = λ same. let clash : true ≡ false = sym (eq-eqb read n same) ∙ t in absurd cc in
      (λ same. absurd (apart same), other_goes (Fetch read link) act_is apart)

  goes_by : (act : Act) → e.step.act ≡ act → ValidAt n stamp links left e act → GoesBy act
  goes_by (Fetch read link) act_is valid = fetch_by_name read link act_is (eqb read n) refl valid
  goes_by (Abandon read) act_is valid = (tt, other_goes (Abandon read) act_is valid)
  goes_by (UploadXorb hash content) act_is valid = (tt, other_goes _ act_is tt)
  goes_by (UploadShard content) act_is valid = (tt, other_goes _ act_is tt)
  goes_by (Plan version file range) act_is valid = (tt, other_goes _ act_is tt)
  goes_by (HideFile file) act_is valid = (tt, other_goes _ act_is tt)
  goes_by (DeleteShard shard) act_is valid = (tt, other_goes _ act_is tt)
  goes_by (DeleteXorb xorb) act_is valid = (tt, other_goes _ act_is tt)
  goes_by (SetExpiration millis) act_is valid = (tt, other_goes _ act_is tt)
  goes_by (SetDedupExpiration millis) act_is valid = (tt, other_goes _ act_is tt)
  goes_by (DedupQuery chunk) act_is valid = (tt, other_goes _ act_is tt)
  goes_by (SetMaxRanges max) act_is valid = (tt, other_goes _ act_is tt)
  goes_by (RemoveDedup shard) act_is valid = (tt, other_goes _ act_is tt)
  goes_by ListXorbs act_is valid = (tt, other_goes _ act_is tt)
  goes_by ListShards act_is valid = (tt, other_goes _ act_is tt)
  goes_by ListFiles act_is valid = (tt, other_goes _ act_is tt)
  goes_by CheckIntegrity act_is valid = (tt, other_goes _ act_is tt)
  goes_by CheckReachable act_is valid = (tt, other_goes _ act_is tt)
  goes_by CheckReadable act_is valid = (tt, other_goes _ act_is tt)
  goes_by (InsertRandomXorb seed count size) act_is valid = (tt, other_goes _ act_is tt)
  goes_by (FileSize file) act_is valid = (tt, other_goes _ act_is tt)
  goes_by (FileData file range) act_is valid = (tt, other_goes _ act_is tt)
  goes_by (Batch files) act_is valid = (tt, other_goes _ act_is tt)
  goes_by (InsertLazyFile terms size) act_is valid = (tt, other_goes _ act_is tt)

-- the steps of a followed read succeed
pub rest_goes : (facts : GoodFacts) (m : Content) (n stamp : ℕ) (links : List LinkModel) (left : List Bool) (w : World) (es : List Event) (end : World) → Chain w es end → IsAgreed m es → Goods m w → Follows w.state n stamp links left
    → IsValidRest n stamp links left es → AnsweredRest n left es
rest_goes facts m n stamp links left w [] end chain agree good follows valid = tt
rest_goes facts m n stamp links left w (e ∷ es) end chain agree good follows valid =
    let before_good = subst (Goods m) (sym chain.0) good in
    let before_follows = subst (λ (u : World). Follows u.state n stamp links left) (sym chain.0) follows in
    let g = goes_by m e n stamp links left chain.1 agree.0.0 before_good before_follows e.step.act refl valid.0 in
    let s = event_steps facts m e chain.1 agree.0.0 before_good in
    (g.0, rest_goes facts m n stamp links (left_after n left e.step.act) e.after es end chain.2 agree.1 s.good g.1 valid.1)

-- ---- a served plan opens a read

pub record Opened (version : PlanVersion) (e : Event) (file : List ℕ) (range : Option (Range ℕ _F)) (served : IsServed e file range) : Type 0 where
  pub offset : ℕ
  pub terms : List XorbReconstructionTerm
  pub links : List LinkModel
  pub reply : e.reply ≡ Planned version e.before.state.next offset terms links
  pub some : 0 < length links
  pub open_it : IsOpen e.after.state e.before.state.next e.step.at links (all_left links)
  -- over any map that gives the store's xorbs
  pub good : (m : Content) → AgreesWith m e.before.state.store → GoodRead m (bytes_within (content_of e.before.state.store) served.clip served.segments) open_it.read.reader

fresh_mask : (n : ℕ) (ls : List Linked) (hs : List HeldTerm) → map is_open (with_terms n (map fresh_of ls) hs) ≡ all_left (map link_of ls)
fresh_mask n [] hs = refl
fresh_mask n (l ∷ ls) hs = ap (λ (bs : List Bool). true ∷ bs) (fresh_mask (suc n) ls hs)

fresh_hashes : (n : ℕ) (ls : List Linked) (hs : List HeldTerm) → map hash_of (with_terms n (map fresh_of ls) hs) ≡ map link_hash (map link_of ls)
fresh_hashes n [] hs = refl
fresh_hashes n (l ∷ ls) hs = ap (λ (bs : List (List ℕ)). l.hash ∷ bs) (fresh_hashes (suc n) ls hs)

abbrev open_plan_free : State → PlanVersion → SecondPlan → Option (Range ℕ _F) → ℕ → Outcome
open_plan_free s version plan range at = cond (can_open plan) (open_links s version plan range at (planned_links plan)) (refuses s InvalidArguments)

module _ (e : Event) (version : PlanVersion) (file : List ℕ) (range : Option (Range ℕ _F)) (served : IsServed e file range) where
  abbrev max : ℕ
  max = e.before.state.store.max_ranges

  abbrev answer : PlanModel → SecondPlan
  answer plan = answer_of version max e.step.at plan

  from_links : IsSound e.before.state.store → (plan : PlanModel) → Serves (known_of e.before.state.store) served.segments range served.clip plan → (ls : List LinkModel) → answered_links version max e.step.at plan ≡ ls
      → open_links e.before.state version (answer plan) range e.step.at ls ≡ (outcome_of e.reply, e.after.state) → Opened version e file range served
  from_links sound plan serves [] links h =
      let some : 0 < length (answered_links version max e.step.at plan) = planned_some version max e.step.at serves.planned range served.reached served.some in
      let none : length (answered_links version max e.step.at plan) ≡ 0 = ap (λ (ls : List LinkModel). length ls) links in
      absurd (omega (arith, some, none))
  from_links sound plan serves (l ∷ ls) links h =
      let s = e.before.state in
      let at = e.step.at in
      let second = answer plan in
      let read : OpenRead = read_of second range at in
      let ks = links_in version max at plan in
      let fresh = plan_fresh version max at plan in
      let same : opened s read ≡ e.after.state = ap (λ (o : Outcome). o.1) h in
      let links_are : map link_of ks ≡ l ∷ ls = sym (links_same version max at plan) ∙ links in
      record {
        offset = second.offset_into_first_range;
        terms = second.terms;
        links = l ∷ ls;
        reply = reply_is e.reply (Planned version s.next second.offset_into_first_range second.terms (l ∷ ls)) (sym (ap (λ (o : Outcome). o.0) h));
        some = omega arith;
        open_it = record {
          read = read;
          found = ap (λ (t : State). get t.reads s.next) (sym same) ∙ put_here s.reads s.next read;
          stamped = refl;
          mask = ap (λ (xs : List ReadLink). map is_open (with_terms 0 xs (plan_terms second))) fresh ∙ fresh_mask 0 ks (plan_terms second) ∙ ap all_left links_are;
          hashes = ap (λ (xs : List ReadLink). map hash_of (with_terms 0 xs (plan_terms second))) fresh ∙ fresh_hashes 0 ks (plan_terms second) ∙ ap (map link_hash) links_are;
        };
        good = λ m agree. good_facts.planned_good version max s.store served.segments range served.clip plan at m agree sound serves (planned_some version max at serves.planned range served.reached served.some);
      }

  faulty : (x : Refusal) → first_fault (known_of e.before.state.store) served.clip served.segments ≡ Some x → ⊥
  faulty x h = let k : ◌≡◌ {A = Option Refusal} None (Some x) = sym served.agree ∙ h in absurd cc

  from_answer : IsSound e.before.state.store → (r : Result (Option PlanModel) Refusal) → PlansWithin (known_of e.before.state.store) served.segments range served.clip r → plan_step e.before.state version range e.step.at (response_by answer r) ≡ (outcome_of e.reply, e.after.state) → Opened version e file range served
  from_answer sound (Ok None) h step = absurd h
  from_answer sound (Ok (Some plan)) h step =
      from_links sound plan h (answered_links version max e.step.at plan) refl
      (subst (λ (b : Bool). cond b (open_links e.before.state version (answer plan) range e.step.at (answered_links version max e.step.at plan)) (refuses e.before.state InvalidArguments) ≡ (outcome_of e.reply, e.after.state)) (plan_facts.opens version max e.before.state.store served.segments range served.clip plan e.step.at h)
      (subst (λ (b : Bool). cond b (refuses e.before.state InvalidArguments) (open_plan_free e.before.state version (answer plan) range e.step.at) ≡ (outcome_of e.reply, e.after.state)) served.numbered step))
  from_answer sound (Err (XORBNotFound hash)) h step = absurd (faulty (XORBNotFound hash) h)
  from_answer sound (Err (FormatError faults.Segment)) h step = absurd (faulty (FormatError faults.Segment) h)
  from_answer sound (Err why) h step = absurd h

  pub served_opens : IsStep e → e.step.act ≡ Plan version file range → Opened version e file range served
  served_opens is act_is = elim is.steps.does as (λ _. Opened version e file range served) [
    | inl d ↦
        (let s = e.before.state in
        let h : PlansBy s version file range e.step.at (outcome_of e.reply) e.after.state = subst (λ (a : Act). Acts s e.step.at a (outcome_of e.reply) e.after.state) act_is d in
        let listed : PlansListed (known_of s.store) range (Some served.segments) h.responds.answer = subst (λ (o : Option (List Segment)). PlansListed (known_of s.store) range o h.responds.answer) served.live h.responds.plans in
        let within : PlansReached (known_of s.store) served.segments range (Within served.clip.start served.clip.end) h.responds.answer = subst (λ (r : Reach). PlansReached (known_of s.store) served.segments range r h.responds.answer) served.reached listed in
        from_answer h.responds.sound h.responds.answer within (ap (plan_step s version range e.step.at) (sym h.responds.response) ∙ h.step))
    | inr f ↦ absurd (served.quiet f.rose)
  ]

pub run_succeeds : (m : Content) (w : World) (es : List Event) (end : World) → Chain w es end → IsAgreed m es → Goods m w → ReadsSucceed es
run_succeeds m w [] end chain agree good = tt
run_succeeds m w (e ∷ es) end chain agree good =
    let before_good = subst (Goods m) (sym chain.0) good in
    let s = event_steps good_facts m e chain.1 agree.0.0 before_good in (
      λ version file range act_is served.
          let o = served_opens e version file range served chain.1 act_is in
          record { offset = o.offset; terms = o.terms; links = o.links; reply = o.reply; some = o.some; rest = rest_goes good_facts m e.before.state.next e.step.at o.links (all_left o.links) e.after es end chain.2 agree.1 s.good (inl o.open_it) },
      run_succeeds m e.after es end chain.2 agree.1 s.good,
    )
