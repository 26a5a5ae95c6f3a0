-- The links of a plan as its reply keeps them, and a walk through them.
use Rattle.std.proofs.Common.{◌≡◌, ◌∙◌, ℕ, ◌-◌, ◌^◌, ◌<◌, ◌≤◌, List, [], ◌∷◌, ◌++◌, length, take, drop, map, min, Result, Ok, Err, refl, sym, ap, subst, arith}
use Rattle.std.specs.Prelude.{IfOk, MatchResult}
use Rattle.std.specs.Global.{Vec}
use Rattle.std.specs.List.{flat_map}
use Rattle.std.proofs.lemmas.List.{length-append, length-map}
use Rattle.std.proofs.lemmas.List.Sums.{sum_by-cons}
use Rattle.xet_types.specs.declared.error.OutOfMemory.{OutOfMemory}
use Rattle.xet_plan.specs.declared.runs.MergedRange.{MergedRange}
use Rattle.xet_plan.specs.Groups.{in_groups}
use Rattle.xet_plan.specs.Merging.{ranges_shown}
use Rattle.xet_service.specs.declared.step.PlanVersion.{PlanVersion}
use Rattle.xet_service.specs.declared.step.PlanVersion.TheVariants.{V1, V2}
use Rattle.xet_service.specs.Links.{LinkModel}
use Rattle.xet_service.specs.RunLinks.{most_runs, run_link, run_links, runs_links}
use Rattle.xet_service.specs.LinkForms.{links_of_runs, first_links, runs_in, count_runs, version_link, grouped_links, links_left, with_runs}
use Rattle.xet_service.proofs.Grouped.{groups_single, cut_next}

-- ---- version 1

-- in version 1 the maximum doesn't matter
first_of : (max at : ℕ) (gs : List (List ℕ × List MergedRange)) → flat_map (runs_links V1 max at) gs ≡ flat_map (run_links at) gs
first_of max at [] = refl
first_of max at (g ∷ gs) = ap (λ (ls : List LinkModel). run_links at g ++ ls) (first_of max at gs)

first_are : (max at : ℕ) (xorbs : List (List ℕ × Vec MergedRange)) → links_of_runs V1 max at xorbs ≡ first_links at xorbs
first_are max at xorbs = first_of max at (map ranges_shown xorbs)

-- there are as many links as runs
pub first_counted : (at : ℕ) (xorbs : List (List ℕ × Vec MergedRange)) → length (first_links at xorbs) ≡ count_runs xorbs
first_counted at [] = refl
first_counted at (x ∷ xs) =
    let more = sum_by-cons runs_in x xs in
    let links = length-append (run_links at (ranges_shown x)) (first_links at xs) in
    let here = length-map x.1.items (run_link at x.0) in
    omega (arith, more, links, here, first_counted at xs)

-- so the links of a plan of version 1 are those of its runs
pub first_kept : (max at : ℕ) (xorbs : List (List ℕ × Vec MergedRange)) (result : Result (List LinkModel) OutOfMemory) → IfOk result (λ links. links ≡ links_of_runs V1 max at xorbs) → IfOk result (λ links. links ≡ first_links at xorbs)
first_kept max at xorbs (Ok links) is = is ∙ first_are max at xorbs
first_kept max at xorbs (Err e) is = is

-- and their number is that of the runs
pub first_fit : (max at : ℕ) (xorbs : List (List ℕ × Vec MergedRange)) (result : Result (List LinkModel) OutOfMemory)
    → MatchResult result (λ links. length (links_of_runs V1 max at xorbs) < 2 ^ 64 - 1) (λ e. 2 ^ 64 - 1 ≤ length (links_of_runs V1 max at xorbs))
    → MatchResult result (λ links. count_runs xorbs < 2 ^ 64 - 1) (λ e. 2 ^ 64 - 1 ≤ count_runs xorbs)
first_fit max at xorbs result fits =
    let same : length (links_of_runs V1 max at xorbs) ≡ count_runs xorbs = ap (λ (ls : List LinkModel). length ls) (first_are max at xorbs) ∙ first_counted at xorbs in
    subst (λ (n : ℕ). MatchResult result (λ links. n < 2 ^ 64 - 1) (λ e. 2 ^ 64 - 1 ≤ n)) same fits

-- ---- a walk

-- each link of version 1 is that of a group of one run
single_links : (at : ℕ) (h : List ℕ) (rs : List MergedRange) → map (run_link at h) rs ≡ map (version_link V1 at h) (map (λ (r : MergedRange). r ∷ []) rs)
single_links at h [] = refl
single_links at h (r ∷ rs) = ap (λ (ls : List LinkModel). run_link at h r ∷ ls) (single_links at h rs)

xorb_grouped : (version : PlanVersion) (max at : ℕ) (g : List ℕ × List MergedRange) → runs_links version max at g ≡ grouped_links version (most_runs version max) at g
xorb_grouped V1 max at g = single_links at g.0 g.1 ∙ ap (map (version_link V1 at g.0)) (sym (groups_single g.1))
xorb_grouped V2 max at g = refl

all_grouped : (version : PlanVersion) (max at : ℕ) (gs : List (List ℕ × List MergedRange)) → flat_map (runs_links version max at) gs ≡ flat_map (grouped_links version (most_runs version max) at) gs
all_grouped version max at [] = refl
all_grouped version max at (g ∷ gs) =
    ap (λ (ls : List LinkModel). ls ++ flat_map (runs_links version max at) gs) (xorb_grouped version max at g)
    ∙ ap (λ (ls : List LinkModel). grouped_links version (most_runs version max) at g ++ ls) (all_grouped version max at gs)

-- a walk begins with all of them
pub walk_starts : (version : PlanVersion) (max at most : ℕ) (h : List ℕ) (xorbs : List (List ℕ × Vec MergedRange)) → most ≡ most_runs version max → links_left version most at h [] xorbs ≡ links_of_runs version max at xorbs
walk_starts version max at most h xorbs is =
    ap (λ (n : ℕ). links_left version n at h [] xorbs) is ∙ sym (all_grouped version max at (map ranges_shown xorbs))

pub brings_some : (version : PlanVersion) (max most : ℕ) → 0 < max → most ≡ most_runs version max → 0 < most
brings_some V1 max most some is = omega (arith, is)
brings_some V2 max most some is = omega (arith, some, is)

-- no links are those of a xorb without runs
left_same : (version : PlanVersion) (most at : ℕ) (gs : List (List ℕ × List MergedRange)) → flat_map (grouped_links version most at) gs ≡ flat_map (grouped_links version most at) (with_runs gs)
left_same version most at [] = refl
left_same version most at ((h, []) ∷ gs) = left_same version most at gs
left_same version most at ((h, r ∷ rs) ∷ gs) = refl

-- none is left where no xorb has runs
pub none_left : (version : PlanVersion) (most at : ℕ) (h : List ℕ) (runs : List MergedRange) (xorbs : List (List ℕ × Vec MergedRange)) → with_runs ((h, runs) ∷ map ranges_shown xorbs) ≡ [] → links_left version most at h runs xorbs ≡ []
none_left version most at h runs xorbs none =
    left_same version most at ((h, runs) ∷ map ranges_shown xorbs) ∙ ap (flat_map (grouped_links version most at)) none

-- the next link is that of the first runs that there are
pub next_left : (version : PlanVersion) (most at : ℕ) (h h_next : List ℕ) (runs runs_next front back : List MergedRange) (xorbs xorbs_next : List (List ℕ × Vec MergedRange)) (n : ℕ) → 0 < most → 0 < length runs_next
    → with_runs ((h, runs) ∷ map ranges_shown xorbs) ≡ (h_next, runs_next) ∷ map ranges_shown xorbs_next → n ≡ min most (length runs_next) → front ≡ take n runs_next → back ≡ drop n runs_next
    → links_left version most at h runs xorbs ≡ version_link version at h_next front ∷ links_left version most at h_next back xorbs_next
next_left version most at h h_next runs runs_next front back xorbs xorbs_next n some any first cut front_is back_is =
    let rest : List LinkModel = flat_map (grouped_links version most at) (map ranges_shown xorbs_next) in
    left_same version most at ((h, runs) ∷ map ranges_shown xorbs)
    ∙ ap (flat_map (grouped_links version most at)) first
    ∙ ap (λ (gs : List (List MergedRange)). map (version_link version at h_next) gs ++ rest) (cut_next (version_link version at h_next) most some n runs_next any cut)
    ∙ ap (λ (rs : List MergedRange). version_link version at h_next rs ∷ (map (version_link version at h_next) (in_groups most (drop n runs_next)) ++ rest)) (sym front_is)
    ∙ ap (λ (rs : List MergedRange). version_link version at h_next front ∷ (map (version_link version at h_next) (in_groups most rs) ++ rest)) (sym back_is)

-- ---- xorbs without runs

no_runs : (rs : List MergedRange) → length rs ≡ 0 → rs ≡ []
no_runs [] e = refl
no_runs (r ∷ rs) e = absurd (omega (arith, e))

-- they are passed over
pub passes : (h : List ℕ) (runs : List MergedRange) (xorbs others : List (List ℕ × Vec MergedRange)) (next : List ℕ × Vec MergedRange) → length runs ≡ 0 → xorbs ≡ next ∷ others
    → with_runs ((h, runs) ∷ map ranges_shown xorbs) ≡ with_runs ((next.0, next.1.items) ∷ map ranges_shown others)
passes h runs xorbs others next none is =
    ap (λ (rs : List MergedRange). with_runs ((h, rs) ∷ map ranges_shown xorbs)) (no_runs runs none)
    ∙ ap (λ (xs : List (List ℕ × Vec MergedRange)). with_runs (map ranges_shown xs)) is

pub passes_all : (h : List ℕ) (runs : List MergedRange) (xorbs : List (List ℕ × Vec MergedRange)) → length runs ≡ 0 → xorbs ≡ [] → with_runs ((h, runs) ∷ map ranges_shown xorbs) ≡ []
passes_all h runs xorbs none end =
    ap (λ (rs : List MergedRange). with_runs ((h, rs) ∷ map ranges_shown xorbs)) (no_runs runs none)
    ∙ ap (λ (xs : List (List ℕ × Vec MergedRange)). with_runs (map ranges_shown xs)) end

-- and one with runs isn't
pub stays : (h : List ℕ) (runs : List MergedRange) (gs : List (List ℕ × List MergedRange)) → 0 < length runs → with_runs ((h, runs) ∷ gs) ≡ (h, runs) ∷ gs
stays h [] gs some = absurd (omega (arith, some))
stays h (r ∷ rs) gs some = refl
