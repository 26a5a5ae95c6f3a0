-- The links of a plan.
use Rattle.std.specs.Prelude.{ℕ, List, map}
use Rattle.std.specs.List.{flat_map}
use Rattle.xet_types.specs.declared.record.XorbRangeDescriptor.{XorbRangeDescriptor}
use Rattle.xet_types.specs.Records.{FetchInfo, RangesFetch, SecondPlan, BatchPlan, fetch_of, second_of}
use Rattle.xet_plan.specs.Plans.{PlanModel}
use Rattle.xet_store.specs.Responses.{first_of, second_at}
use Rattle.xet_service.specs.declared.step.PlanVersion.{PlanVersion}
use Rattle.xet_service.specs.declared.step.PlanVersion.TheVariants.{V1, V2}

-- a link of a plan: its xorb, its text, and the chunks that it brings
pub record LinkModel : Type 0 where
  pub hash : List ℕ
  pub url : List ℕ
  pub ranges : List XorbRangeDescriptor

abbrev pub planned_link : List ℕ → RangesFetch → LinkModel
planned_link hash fetch = record { hash = hash; url = fetch.url; ranges = fetch.ranges }

abbrev pub xorb_links : (List ℕ × List RangesFetch) → List LinkModel
xorb_links e = map (planned_link e.0) e.1

-- the links in the plan's order
abbrev pub planned_links : SecondPlan → List LinkModel
planned_links plan = flat_map xorb_links plan.xorbs

-- the link of an entry of a plan of version 1, which is one run
abbrev pub entry_link : List ℕ → FetchInfo → LinkModel
entry_link hash entry = planned_link hash (fetch_of entry)

abbrev pub entry_links : (List ℕ × List FetchInfo) → List LinkModel
entry_links e = map (entry_link e.0) e.1

-- the links of plans that were taken together, in order of xorb
abbrev pub batch_links : BatchPlan → List LinkModel
batch_links batch = flat_map entry_links batch.fetch_info

-- The plan in a version, at a moment: with a link for each run, or for each group of at most so many runs of a xorb.
abbrev pub answer_of : PlanVersion → ℕ → ℕ → PlanModel → SecondPlan
answer_of V1 max at plan = second_of (first_of at plan)
answer_of V2 max at plan = second_at max at plan
