-- The plan of one file alone.
use Rattle.std.proofs.Common.{◌≡◌, ◌∙◌, ℕ, cond, arith, List, [], ◌∷◌, ◌++◌, map, Option, Some, None, Result, Ok, Err, refl, sym, ap}
use Rattle.std.specs.List.{AllByRecursion}
use Rattle.std.specs.Ordering.{is_eq, ordering_reverse}
use Rattle.std.specs.declared.cmp.Ordering.TheVariants.{Greater}
use Rattle.std.specs.FinMap.{find}
use Rattle.std.specs.FinMap.Entries.{put, by_order}
use Rattle.std.proofs.lemmas.List.{append-nil, append_assoc}
use Rattle.xet_types.specs.Names.{hash_cmp}
use Rattle.xet_types.specs.declared.error.Refusal.{Refusal}
use Rattle.xet_types.specs.declared.error.Refusal.TheVariants.{InvalidRange}
use Rattle.xet_types.specs.declared.record.XorbReconstructionTerm.{XorbReconstructionTerm}
use Rattle.xet_bytes.proofs.Maps.{hash_total}
use Rattle.xet_shard.specs.declared.listing.Segment.{Segment}
use Rattle.xet_shard.specs.Values.{size_of}
use Rattle.xet_plan.specs.declared.place.Reach.{Reach}
use Rattle.xet_plan.specs.declared.place.Reach.TheVariants.{Past, Reversed, Within}
use Rattle.xet_plan.specs.Places.{reach}
use Rattle.xet_plan.specs.declared.runs.MergedRange.{MergedRange}
use Rattle.xet_plan.specs.Plans.{PlanModel}
use Rattle.xet_plan.specs.Runs.{Before, Rising}
use Rattle.xet_plan.specs.Merging.{group_of}
use Rattle.xet_plan.proofs.Order.{all_push}
use Rattle.xet_store.specs.StoreModel.{StoreModel, listing, known_of}
use Rattle.xet_store.specs.Plans.{PlansSoundly, PlansReached, PlansListed}
use Rattle.xet_store.specs.Batches.{Listed, behind, with_joined, with_all_joined, whole_file, PlansModel, ArePlans, IsFirstRefused}
use Rattle.xet_store.proofs.Batching.{sofar_none, sofar_passed, sofar_more, sofar_refused, sofar_all}

-- ---- lists put behind others, by rising hashes

-- each list is of a hash below this one
Under : List (Listed MergedRange) → List ℕ → Type 0
Under es h = AllByRecursion (λ e. Before e.0 h) es

above : (h k : List ℕ) → Before k h → hash_cmp h k ≡ Greater
above h k b = hash_total.antisymm h k ∙ ap ordering_reverse b

find_above : (es : List (Listed MergedRange)) (h : List ℕ) → Under es h → find hash_cmp h es ≡ None
unfolding Under
find_above [] h u = refl
find_above (e ∷ es) h u = ap (λ r. cond (is_eq r) (Some e.1) (find hash_cmp h es)) (above h e.0 u.0) ∙ find_above es h u.1

put_above : (es : List (Listed MergedRange)) (h : List ℕ) (rs : List MergedRange) → Under es h → put hash_cmp h rs es ≡ es ++ (h, rs) ∷ []
unfolding Under
put_above [] h rs u = refl
put_above (e ∷ es) h rs u =
    ap (λ r. by_order r ((h, rs) ∷ e ∷ es) ((e.0, rs) ∷ es) (e ∷ put hash_cmp h rs es)) (above h e.0 u.0)
    ∙ ap (λ (fs : List (Listed MergedRange)). e ∷ fs) (put_above es h rs u.1)

joined_above : (es : List (Listed MergedRange)) (g : Listed MergedRange) → Under es g.0 → with_joined es g ≡ es ++ g ∷ []
joined_above es g u = ap (λ (o : Option (List MergedRange)). put hash_cmp g.0 (behind o g.1) es) (find_above es g.0 u) ∙ put_above es g.0 g.1 u

under_push : (es : List (Listed MergedRange)) (g : Listed MergedRange) (gs : List (Listed MergedRange)) → AllByRecursion (λ q. Under es q.0) gs → AllByRecursion (λ q. Before g.0 q.hash) (map group_of gs) → AllByRecursion (λ q. Under (es ++ g ∷ []) q.0) gs
unfolding Under
under_push es g [] a b = tt
under_push es g (q ∷ gs) a b = (all_push (λ (e : Listed MergedRange). Before e.0 q.0) es g a.0 b.0, under_push es g gs a.1 b.1)

all_above : (es gs : List (Listed MergedRange)) → AllByRecursion (λ q. Under es q.0) gs → Rising (map group_of gs) → with_all_joined es gs ≡ es ++ gs
all_above es [] a r = sym (append-nil es)
all_above es (g ∷ gs) a r =
    ap (λ (fs : List (Listed MergedRange)). with_all_joined fs gs) (joined_above es g a.0)
    ∙ all_above (es ++ g ∷ []) gs (under_push es g gs a.1 r.0) r.1
    ∙ append_assoc es (g ∷ []) gs

nothing_under : (gs : List (Listed MergedRange)) → AllByRecursion (λ q. Under [] q.0) gs
unfolding Under
nothing_under [] = tt
nothing_under (g ∷ gs) = (tt, nothing_under gs)

-- ---- a plan's ranges

abbrev answer : Option PlanModel → Result (Option PlanModel) Refusal
answer o = Ok o

abbrev refusal : Refusal → Result (Option PlanModel) Refusal
refusal why = Err why

-- its xorbs are in order
plan_rises : (m : StoreModel) (file : List ℕ) (plan : PlanModel) → PlansSoundly m file whole_file (Ok (Some plan)) → Rising (map group_of plan.merged)
plan_rises m file plan h = listed (listing m file) h.plans
  where
    reached : (segments : List Segment) (w : Reach) → PlansReached (known_of m) segments whole_file w (Ok (Some plan)) → Rising (map group_of plan.merged)
    reached segments Past a = let e : answer (Some plan) ≡ answer None = a in let no : ⊥ = cc in absurd no
    reached segments Reversed a = let e : answer (Some plan) ≡ refusal InvalidRange = a in let no : ⊥ = cc in absurd no
    reached segments (Within start end) a = a.planned.merged.rising

    listed : (o : Option (List Segment)) → PlansListed (known_of m) whole_file o (Ok (Some plan)) → Rising (map group_of plan.merged)
    listed None a = let e : answer (Some plan) ≡ answer None = a in let no : ⊥ = cc in absurd no
    listed (Some segments) a = reached segments (reach (size_of segments) whole_file) a

module _ (m : StoreModel) (file : List ℕ) where
  abbrev alone : List (List ℕ)
  alone = file ∷ []

  abbrev no_terms : List (Listed XorbReconstructionTerm)
  no_terms = []

  abbrev no_runs : List (Listed MergedRange)
  no_runs = []

  pub alone_gone : (plans : PlansModel) → plans.files ≡ [] → plans.merged ≡ [] → PlansSoundly m file whole_file (Ok None) → ArePlans m alone plans
  alone_gone plans f r h = sofar_all m alone plans (sofar_passed m alone 0 plans.files plans.merged file (omega arith) refl (sofar_none m plans.files plans.merged f r) h)

  pub alone_planned : (plan : PlanModel) (plans : PlansModel) → plans.files ≡ (file, plan.terms) ∷ [] → plans.merged ≡ plan.merged → PlansSoundly m file whole_file (Ok (Some plan)) → ArePlans m alone plans
  alone_planned plan plans f r h =
      sofar_all m alone plans (sofar_more m alone 0 no_terms no_runs file (omega arith) refl (sofar_none m no_terms no_runs refl refl) plan plans.files plans.merged h f
      (r ∙ sym (all_above no_runs plan.merged (nothing_under plan.merged) (plan_rises m file plan h))))

  pub alone_refused : (why : Refusal) → PlansSoundly m file whole_file (Err why) → IsFirstRefused m alone why
  alone_refused why h = sofar_refused m alone 0 no_terms no_runs file (omega arith) refl (sofar_none m no_terms no_runs refl refl) why h
