-- Groups of runs one by one, and the links that they give.
use Rattle.std.proofs.Common.{◌≡◌, ◌∙◌, ℕ, zero, suc, ◌+◌, ◌<◌, Bool, true, false, cond, ltb, leb, List, [], ◌∷◌, ◌++◌, length, take, drop, map, min, Option, Result, refl, sym, ap, subst, arith}
use Rattle.std.specs.List.{flat_map}
use Rattle.std.proofs.lemmas.Bool.{lt-ltb, le-ltb, leb-true, leb-false}
use Rattle.std.proofs.lemmas.List.{map-append, append_assoc, append-nil, length-append, take_all, drop_all}
use Rattle.xet_types.specs.declared.range.Range.{Range}
use Rattle.xet_types.specs.declared.range._F.{_F}
use Rattle.xet_types.specs.declared.record.XorbReconstructionTerm.{XorbReconstructionTerm}
use Rattle.xet_types.specs.declared.error.ClientError.{ClientError}
use Rattle.xet_types.specs.declared.error.Refusal.{Refusal}
use Rattle.xet_store.specs.StoreModel.{StoreModel}
use Rattle.xet_store.specs.Plans.{PlansSoundly}
use Rattle.xet_store.specs.Responses.{RespondsBy, response_by}
use Rattle.xet_plan.specs.declared.runs.MergedRange.{MergedRange}
use Rattle.xet_plan.specs.Groups.{groups_from, in_groups}
use Rattle.xet_plan.specs.Plans.{PlanModel}
use Rattle.xet_service.specs.declared.step.PlanVersion.{PlanVersion}
use Rattle.xet_service.specs.declared.step.PlanVersion.TheVariants.{V1, V2}
use Rattle.xet_service.specs.declared.reader.link.ReadLink.{ReadLink}
use Rattle.xet_service.specs.Links.{LinkModel, planned_links, answer_of}
use Rattle.xet_service.specs.Reading.{Reading}
use Rattle.xet_service.specs.ReadingPlans.{fresh_links, OpensLinks, Opens}
use Rattle.xet_service.specs.RunLinks.{most_runs, run_link, group_link, runs_links, fresh_group, fresh_groups}
use Rattle.xet_service.proofs.PlanRuns.{link_of, fresh_of, single, several, links_for, links_same, plan_fresh, same_terms, same_offset}

-- ---- groups

-- a group takes the runs for which it has room
takes_room : (max room : ℕ) (g rs : List MergedRange) → length g + room ≡ max → groups_from max g rs ≡ (g ++ take room rs) ∷ in_groups max (drop room rs)
takes_room max zero g [] is = ap (λ (x : List MergedRange). x ∷ []) (sym (append-nil g))
takes_room max (suc room) g [] is = ap (λ (x : List MergedRange). x ∷ []) (sym (append-nil g))
takes_room max zero g (r ∷ rs) is =
    let full : ltb (length g) max ≡ false = le-ltb (length g) max (omega (arith, is)) in
    ap (λ (b : Bool). cond b (groups_from max (g ++ r ∷ []) rs) (g ∷ groups_from max (r ∷ []) rs)) full
    ∙ ap (λ (x : List MergedRange). x ∷ groups_from max (r ∷ []) rs) (sym (append-nil g))
takes_room max (suc room) g (r ∷ rs) is =
    let some : ltb (length g) max ≡ true = lt-ltb (length g) max (omega (arith, is)) in
    let long = length-append g (r ∷ []) in
    ap (λ (b : Bool). cond b (groups_from max (g ++ r ∷ []) rs) (g ∷ groups_from max (r ∷ []) rs)) some
    ∙ takes_room max room (g ++ r ∷ []) rs (omega (arith, long, is))
    ∙ ap (λ (x : List MergedRange). x ∷ in_groups max (drop room rs)) (append_assoc g (r ∷ []) (take room rs))

first_group : (max : ℕ) (r : MergedRange) (rs : List MergedRange) → 0 < max → in_groups max (r ∷ rs) ≡ take max (r ∷ rs) ∷ in_groups max (drop max (r ∷ rs))
first_group zero r rs some = absurd (omega (arith, some))
first_group (suc room) r rs some = takes_room (suc room) room (r ∷ []) rs (omega arith)

-- the first group, and those of the rest
pub groups_next : (max : ℕ) (rs : List MergedRange) → 0 < max → 0 < length rs → in_groups max rs ≡ take max rs ∷ in_groups max (drop max rs)
groups_next max [] some any = absurd (omega (arith, any))
groups_next max (r ∷ rs) some any = first_group max r rs some

-- groups of one
pub groups_single : (rs : List MergedRange) → in_groups 1 rs ≡ map (λ (r : MergedRange). r ∷ []) rs
groups_single [] = refl
groups_single (r ∷ rs) = first_group 1 r rs (omega arith) ∙ ap (λ (gs : List (List MergedRange)). (r ∷ []) ∷ gs) (groups_single rs)

-- ---- links

module _ {X Y : Type 0} (u : X → Y) {Z : Type 0} (k : Z → List X) (e : Z → List Y) (same : (z : Z) → map u (k z) ≡ e z) where
  in_parts : (zs : List Z) → map u (flat_map k zs) ≡ flat_map e zs
  in_parts [] = refl
  in_parts (z ∷ zs) = map-append u (k z) (flat_map k zs) ∙ ap (λ (ys : List Y). ys ++ map u (flat_map k zs)) (same z) ∙ ap (λ (ys : List Y). e z ++ ys) (in_parts zs)

module _ (at : ℕ) (h : List ℕ) where
  run_links : (rs : List MergedRange) → map link_of (map (single at h) rs) ≡ map (run_link at h) rs
  run_links [] = refl
  run_links (r ∷ rs) = ap (λ (ls : List LinkModel). run_link at h r ∷ ls) (run_links rs)

  group_links : (gs : List (List MergedRange)) → map link_of (map (several at h) gs) ≡ map (group_link at h) gs
  group_links [] = refl
  group_links (g ∷ gs) = ap (λ (ls : List LinkModel). group_link at h g ∷ ls) (group_links gs)

  run_fresh : (rs : List MergedRange) → map fresh_of (map (single at h) rs) ≡ map (fresh_group h) (map (λ (r : MergedRange). r ∷ []) rs)
  run_fresh [] = refl
  run_fresh (r ∷ rs) = ap (λ (ls : List ReadLink). fresh_group h (r ∷ []) ∷ ls) (run_fresh rs)

  group_fresh : (gs : List (List MergedRange)) → map fresh_of (map (several at h) gs) ≡ map (fresh_group h) gs
  group_fresh [] = refl
  group_fresh (g ∷ gs) = ap (λ (ls : List ReadLink). fresh_group h g ∷ ls) (group_fresh gs)

xorb_links : (version : PlanVersion) (max at : ℕ) (g : List ℕ × List MergedRange) → map link_of (links_for version max at g) ≡ runs_links version max at g
xorb_links V1 max at g = run_links at g.0 g.1
xorb_links V2 max at g = group_links at g.0 (in_groups max g.1)

xorb_fresh : (version : PlanVersion) (max at : ℕ) (g : List ℕ × List MergedRange) → map fresh_of (links_for version max at g) ≡ fresh_groups (most_runs version max) g
xorb_fresh V1 max at g = run_fresh at g.0 g.1 ∙ ap (map (fresh_group g.0)) (sym (groups_single g.1))
xorb_fresh V2 max at g = group_fresh at g.0 (in_groups max g.1)

-- the reply's links are those of the runs
pub links_of_runs : (version : PlanVersion) (max at : ℕ) (plan : PlanModel) → planned_links (answer_of version max at plan) ≡ flat_map (runs_links version max at) plan.merged
links_of_runs version max at plan = links_same version max at plan ∙ in_parts link_of (links_for version max at) (runs_links version max at) (xorb_links version max at) plan.merged

-- and so are the read's
pub fresh_of_runs : (version : PlanVersion) (max at : ℕ) (plan : PlanModel) → fresh_links (answer_of version max at plan).xorbs ≡ flat_map (fresh_groups (most_runs version max)) plan.merged
fresh_of_runs version max at plan = plan_fresh version max at plan ∙ in_parts fresh_of (links_for version max at) (fresh_groups (most_runs version max)) (xorb_fresh version max at) plan.merged

-- ---- a walk over the groups of a xorb's runs

-- a group more of the runs that are left, which are cut where it ends
module _ {X : Type 0} (link : List MergedRange → X) (max : ℕ) (some : 0 < max) where
  pub cut_next : (n : ℕ) (rs : List MergedRange) → 0 < length rs → n ≡ min max (length rs) → in_groups max rs ≡ take n rs ∷ in_groups max (drop n rs)
  cut_next n rs any is = of (leb max (length rs)) refl
    where
      of : (b : Bool) → leb max (length rs) ≡ b → in_groups max rs ≡ take n rs ∷ in_groups max (drop n rs)
      of true e = let full : n ≡ max = (let l = leb-true max (length rs) e in omega (arith, l, is)) in rw full (groups_next max rs some any)
      of false e =
          let less : length rs < max = leb-false max (length rs) e in
          let whole : n ≡ length rs = omega (arith, less, is) in
          groups_next max rs some any
          ∙ ap (λ (x : List MergedRange). x ∷ in_groups max (drop max rs)) (take_all max rs (omega (arith, less)) ∙ sym (take_all n rs (omega (arith, whole))))
          ∙ ap (λ (x : List MergedRange). take n rs ∷ in_groups max x) (drop_all max rs (omega (arith, less)) ∙ sym (drop_all n rs (omega (arith, whole))))

  pub walks_on : (before after all : List X) (n : ℕ) (rs front back : List MergedRange) → 0 < length rs → n ≡ min max (length rs) → front ≡ take n rs → back ≡ drop n rs
      → after ≡ before ++ link front ∷ [] → before ++ map link (in_groups max rs) ≡ all → after ++ map link (in_groups max back) ≡ all
  walks_on before after all n rs front back any is front_is back_is after_is so_far =
      ap (λ (x : List X). x ++ map link (in_groups max back)) after_is
      ∙ append_assoc before (link front ∷ []) (map link (in_groups max back))
      ∙ ap (λ (x : List MergedRange). before ++ link x ∷ map link (in_groups max back)) front_is
      ∙ ap (λ (x : List MergedRange). before ++ link (take n rs) ∷ map link (in_groups max x)) back_is
      ∙ ap (λ (gs : List (List MergedRange)). before ++ map link gs) (sym (cut_next n rs any is))
      ∙ so_far

-- ---- the read of a plan

-- what links of the plan's runs, its terms and its offset open is the read of its answer
pub opens_plan : (version : PlanVersion) (max at : ℕ) (plan : PlanModel) (links : List ReadLink) (terms : List XorbReconstructionTerm) (offset : ℕ) (range : Option (Range ℕ _F)) (result : Result Reading ClientError)
    → links ≡ flat_map (fresh_groups (most_runs version max)) plan.merged → terms ≡ plan.terms → offset ≡ plan.offset_into_first_range
    → OpensLinks links terms offset range result → Opens (answer_of version max at plan) range result
opens_plan version max at plan links terms offset range result links_are terms_are offset_is h =
    let ls : links ≡ fresh_links (answer_of version max at plan).xorbs = links_are ∙ sym (fresh_of_runs version max at plan) in
    let ts : terms ≡ (answer_of version max at plan).terms = terms_are ∙ sym (same_terms version max at plan) in
    let o : offset ≡ (answer_of version max at plan).offset_into_first_range = offset_is ∙ sym (same_offset version max at plan) in
    subst (λ (x : List ReadLink). OpensLinks x (answer_of version max at plan).terms (answer_of version max at plan).offset_into_first_range range result) ls
    (subst (λ (x : List XorbReconstructionTerm). OpensLinks links x (answer_of version max at plan).offset_into_first_range range result) ts
    (subst (λ (n : ℕ). OpensLinks links terms n range result) o h))

-- what the code makes of the plan's runs is the links of its answer
pub links_are : (version : PlanVersion) (max at : ℕ) (plan : PlanModel) (links : List LinkModel) (merged : List (List ℕ × List MergedRange)) → links ≡ flat_map (runs_links version max at) merged → merged ≡ plan.merged → links ≡ planned_links (answer_of version max at plan)
links_are version max at plan links merged made is = made ∙ ap (flat_map (runs_links version max at)) is ∙ sym (links_of_runs version max at plan)

-- ---- the answer of a plan

-- the store's plan is answered in a version
pub responds : (version : PlanVersion) (m : StoreModel) (file : List ℕ) (range : Option (Range ℕ _F)) (at : ℕ) (answer : Result (Option PlanModel) Refusal) → PlansSoundly m file range answer
    → RespondsBy (answer_of version m.max_ranges at) m file range (response_by (answer_of version m.max_ranges at) answer)
responds version m file range at answer p = record { answer = answer; plans = p.plans; response = refl; sound = p.sound }
