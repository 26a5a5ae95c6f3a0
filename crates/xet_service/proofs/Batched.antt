-- The links of plans that were taken together.
use Rattle.std.proofs.Common.{◌≡◌, ◌∙◌, ℕ, List, [], ◌∷◌, ◌++◌, map, refl, ap}
use Rattle.std.specs.List.{flat_map}
use Rattle.xet_plan.specs.declared.runs.MergedRange.{MergedRange}
use Rattle.xet_store.specs.Responses.{fetch_info_of, fetches_at}
use Rattle.xet_store.specs.Batches.{Listed, PlansModel, batch_at}
use Rattle.xet_service.specs.Links.{LinkModel, entry_link, entry_links, batch_links}
use Rattle.xet_service.specs.RunLinks.{run_link, run_links}

xorb_links : (at : ℕ) (hash : List ℕ) (runs : List MergedRange) → map (run_link at hash) runs ≡ map (entry_link hash) (map (fetch_info_of at hash) runs)
xorb_links at hash [] = refl
xorb_links at hash (r ∷ rs) = ap (λ (ls : List LinkModel). run_link at hash r ∷ ls) (xorb_links at hash rs)

all_links : (at : ℕ) (gs : List (Listed MergedRange)) → flat_map (run_links at) gs ≡ flat_map entry_links (map (fetches_at at) gs)
all_links at [] = refl
all_links at (g ∷ gs) =
    ap (λ (ls : List LinkModel). ls ++ flat_map (run_links at) gs) (xorb_links at g.0 g.1)
    ∙ ap (λ (ls : List LinkModel). entry_links (fetches_at at g) ++ ls) (all_links at gs)

-- the links of the runs are those of the plans
pub batch_links_are : (at : ℕ) (plans : PlansModel) (links : List LinkModel) (merged : List (Listed MergedRange)) → links ≡ flat_map (run_links at) merged → merged ≡ plans.merged → links ≡ batch_links (batch_at at plans)
batch_links_are at plans links merged made is = made ∙ ap (flat_map (run_links at)) is ∙ all_links at plans.merged
