-- The links that the runs of a plan give: those of the reply, and those of the read.
use Rattle.std.specs.Prelude.{ℕ, List, [], map, None}
use Rattle.xet_plan.specs.declared.runs.MergedRange.{MergedRange}
use Rattle.xet_plan.specs.Groups.{in_groups}
use Rattle.xet_store.specs.Responses.{fetch_info_of, descriptor_of, ranges_fetch}
use Rattle.xet_service.specs.declared.step.PlanVersion.{PlanVersion}
use Rattle.xet_service.specs.declared.step.PlanVersion.TheVariants.{V1, V2}
use Rattle.xet_service.specs.declared.reader.link.ReadLink.{ReadLink}
use Rattle.xet_service.specs.Links.{LinkModel, planned_link, entry_link}

-- how many runs a link of a version brings at most
abbrev pub most_runs : PlanVersion → ℕ → ℕ
most_runs V1 max = 1
most_runs V2 max = max

-- ---- of the reply

-- the link of a run of a xorb's chunks, and that of several
abbrev pub run_link : ℕ → List ℕ → MergedRange → LinkModel
run_link at hash run = entry_link hash (fetch_info_of at hash run)

abbrev pub group_link : ℕ → List ℕ → List MergedRange → LinkModel
group_link at hash runs = planned_link hash (ranges_fetch at hash runs)

-- the links of version 1 of a xorb's runs: one for each
abbrev pub run_links : ℕ → (List ℕ × List MergedRange) → List LinkModel
run_links at g = map (run_link at g.0) g.1

-- the links of a xorb's runs: one for each, or one for each group of at most so many
abbrev pub runs_links : PlanVersion → ℕ → ℕ → (List ℕ × List MergedRange) → List LinkModel
runs_links V1 max at g = run_links at g
runs_links V2 max at g = map (group_link at g.0) (in_groups max g.1)

-- ---- of the read

-- the link of some runs of a xorb's chunks, which is left, without the terms that it holds
abbrev pub fresh_group : List ℕ → List MergedRange → ReadLink
fresh_group hash runs = record { hash = hash; ranges = map descriptor_of runs; held = []; got = None }

-- the links of a xorb's runs, one for each group of at most so many
abbrev pub fresh_groups : ℕ → (List ℕ × List MergedRange) → List ReadLink
fresh_groups max g = map (fresh_group g.0) (in_groups max g.1)
