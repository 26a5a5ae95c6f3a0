-- A plan of version 2 brings the runs of that of version 1, in their order.
use Rattle.std.proofs.Common.{◌≡◌, ◌∙◌, ℕ, List, [], ◌∷◌, ◌++◌, map, refl, sym, ap}
use Rattle.std.specs.List.{flat_map}
use Rattle.std.proofs.lemmas.List.{map-append}
use Rattle.xet_types.specs.Records.{fetch_of, xorb_fetches}
use Rattle.xet_types.specs.declared.record.XorbRangeDescriptor.{XorbRangeDescriptor}
use Rattle.xet_plan.specs.declared.runs.MergedRange.{MergedRange}
use Rattle.xet_plan.specs.Groups.{in_groups}
use Rattle.xet_plan.proofs.GroupLaws.{all_of, groups_all}
use Rattle.xet_store.specs.Responses.{fetch_info_of, fetches_at, descriptor_of, ranges_fetch, ranges_fetches, ranges_in, flat_xorb, IsRegrouped}

grouped_runs : (at : ℕ) (hash : List ℕ) (gs : List (List MergedRange)) → flat_map ranges_in (map (ranges_fetch at hash) gs) ≡ map descriptor_of (all_of gs)
grouped_runs at hash [] = refl
grouped_runs at hash (g ∷ gs) = ap (λ (rs : List XorbRangeDescriptor). map descriptor_of g ++ rs) (grouped_runs at hash gs) ∙ sym (map-append descriptor_of g (all_of gs))

single_runs : (at : ℕ) (hash : List ℕ) (rs : List MergedRange) → flat_map ranges_in (map fetch_of (map (fetch_info_of at hash) rs)) ≡ map descriptor_of rs
single_runs at hash [] = refl
single_runs at hash (r ∷ rs) = ap (λ (ds : List XorbRangeDescriptor). descriptor_of r ∷ ds) (single_runs at hash rs)

xorbs_same : (max at : ℕ) (gs : List (List ℕ × List MergedRange)) → map flat_xorb (map (ranges_fetches max at) gs) ≡ map flat_xorb (map xorb_fetches (map (fetches_at at) gs))
xorbs_same max at [] = refl
xorbs_same max at (g ∷ gs) =
    let runs : flat_map ranges_in (map (ranges_fetch at g.0) (in_groups max g.1)) ≡ flat_map ranges_in (map fetch_of (map (fetch_info_of at g.0) g.1)) =
    grouped_runs at g.0 (in_groups max g.1) ∙ ap (map descriptor_of) (groups_all max g.1) ∙ sym (single_runs at g.0 g.1) in
    let entry : List XorbRangeDescriptor → (List ℕ × List XorbRangeDescriptor) = λ rs. (g.0, rs) in
    ap (λ (rs : List XorbRangeDescriptor). entry rs ∷ map flat_xorb (map (ranges_fetches max at) gs)) runs
    ∙ ap (λ (es : List (List ℕ × List XorbRangeDescriptor)). entry (flat_map ranges_in (map fetch_of (map (fetch_info_of at g.0) g.1))) ∷ es) (xorbs_same max at gs)

pub regrouped : IsRegrouped
regrouped plan max at some = (xorbs_same max at plan.merged, refl, refl)
