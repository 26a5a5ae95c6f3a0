-- The links of runs as a reply keeps them, and a walk through them.
use Rattle.std.specs.Prelude.{ℕ, List, [], ◌∷◌, map, length, sum_by}
use Rattle.std.specs.Global.{Vec}
use Rattle.std.specs.List.{flat_map}
use Rattle.xet_wire.specs.Links.{link_text}
use Rattle.xet_plan.specs.declared.runs.MergedRange.{MergedRange}
use Rattle.xet_plan.specs.Groups.{in_groups}
use Rattle.xet_plan.specs.Merging.{ranges_shown}
use Rattle.xet_store.specs.Responses.{descriptor_of, ranges_link}
use Rattle.xet_service.specs.declared.step.PlanVersion.{PlanVersion}
use Rattle.xet_service.specs.declared.step.PlanVersion.TheVariants.{V1, V2}
use Rattle.xet_service.specs.Links.{LinkModel}
use Rattle.xet_service.specs.RunLinks.{run_links, runs_links}

-- the links of a version of the runs of xorbs' chunks, with a moment
abbrev pub links_of_runs : PlanVersion → ℕ → ℕ → List (List ℕ × Vec MergedRange) → List LinkModel
links_of_runs version max at xorbs = flat_map (runs_links version max at) (map ranges_shown xorbs)

-- those of version 1
abbrev pub first_links : ℕ → List (List ℕ × Vec MergedRange) → List LinkModel
first_links at xorbs = flat_map (run_links at) (map ranges_shown xorbs)

-- how many runs a xorb has, and how many all have
abbrev pub runs_in : (List ℕ × Vec MergedRange) → ℕ
runs_in xorb = length xorb.1.items

abbrev pub count_runs : List (List ℕ × Vec MergedRange) → ℕ
count_runs xorbs = sum_by runs_in xorbs

-- ---- a link

-- the text of the link of a version of some runs of a xorb's chunks; in version 1 it names the first of them
abbrev pub version_text : PlanVersion → ℕ → List ℕ → List MergedRange → List ℕ
version_text V1 at hash [] = []
version_text V1 at hash (run ∷ runs) = link_text hash run.byte_range.start run.byte_range.end at
version_text V2 at hash runs = ranges_link at hash (map descriptor_of runs)

-- the link of a version of some runs of a xorb's chunks
abbrev pub version_link : PlanVersion → ℕ → List ℕ → List MergedRange → LinkModel
version_link version at hash runs = record { hash = hash; url = version_text version at hash runs; ranges = map descriptor_of runs }

-- ---- a walk

-- the links of a xorb's runs, each of a group of at most so many
abbrev pub grouped_links : PlanVersion → ℕ → ℕ → (List ℕ × List MergedRange) → List LinkModel
grouped_links version most at g = map (version_link version at g.0) (in_groups most g.1)

-- the links that are left: of a xorb's runs, and of those of the xorbs behind it
abbrev pub links_left : PlanVersion → ℕ → ℕ → List ℕ → List MergedRange → List (List ℕ × Vec MergedRange) → List LinkModel
links_left version most at hash runs xorbs = flat_map (grouped_links version most at) ((hash, runs) ∷ map ranges_shown xorbs)

-- of xorbs with their runs, those from the first one on that has runs
abbrev pub with_runs : List (List ℕ × List MergedRange) → List (List ℕ × List MergedRange)
with_runs [] = []
with_runs ((hash, []) ∷ gs) = with_runs gs
with_runs ((hash, run ∷ runs) ∷ gs) = (hash, run ∷ runs) ∷ gs
