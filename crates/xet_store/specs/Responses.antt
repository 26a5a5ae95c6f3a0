-- Plans of both versions with the texts of their links.
use Rattle.std.specs.Prelude.{◌≡◌, ℕ, ◌-◌, ◌<◌, List, map, Option, Some, None, Result, Ok, Err}
use Rattle.std.specs.List.{flat_map}
use Rattle.base64.specs.Engines.{url_safe_no_pad}
use Rattle.base64.specs.GeneralPurpose.{encode_of}
use Rattle.xet_types.specs.declared.error.Refusal.{Refusal}
use Rattle.xet_types.specs.declared.range.Range.{Range}
use Rattle.xet_types.specs.declared.range._F.{_F}
use Rattle.xet_types.specs.declared.range._H.{_H}
use Rattle.xet_types.specs.declared.record.XorbRangeDescriptor.{XorbRangeDescriptor}
use Rattle.xet_types.specs.Records.{FetchInfo, FirstPlan, RangesFetch, SecondPlan, second_of}
use Rattle.xet_wire.specs.Links.{link_text, link_payload, bytes_of}
use Rattle.xet_plan.specs.declared.runs.MergedRange.{MergedRange}
use Rattle.xet_plan.specs.Groups.{in_groups}
use Rattle.xet_plan.specs.Plans.{PlanModel}
use Rattle.xet_store.specs.StoreModel.{StoreModel, IsSound}
use Rattle.xet_store.specs.Plans.{PlansFile}

-- ---- version 1

-- the link of a run of a xorb's chunks, at a moment; the bytes' end is included
abbrev pub fetch_info_of : ℕ → List ℕ → MergedRange → FetchInfo
fetch_info_of at hash r = record {
  range = r.chunk_range;
  url = link_text hash r.byte_range.start r.byte_range.end at;
  url_range = record { start = r.byte_range.start; end = r.byte_range.end - 1; _marker = record {} };
}

-- the links of a xorb's runs
abbrev pub fetches_at : ℕ → (List ℕ × List MergedRange) → (List ℕ × List FetchInfo)
fetches_at at group = (group.0, map (fetch_info_of at group.0) group.1)

-- a plan with one link for each run
abbrev pub first_of : ℕ → PlanModel → FirstPlan
first_of at plan = record { offset_into_first_range = plan.offset_into_first_range; terms = plan.terms; fetch_info = map (fetches_at at) plan.merged }

-- ---- version 2

-- the chunks of a run, and their bytes with an inclusive end
abbrev pub descriptor_of : MergedRange → XorbRangeDescriptor
descriptor_of r = record { chunks = r.chunk_range; bytes = record { start = r.byte_range.start; end = r.byte_range.end - 1; _marker = record {} } }

-- the text of a link of version 2, which names the bytes of all its runs
abbrev pub ranges_link : ℕ → List ℕ → List XorbRangeDescriptor → List ℕ
ranges_link at hash ranges = encode_of url_safe_no_pad (link_payload hash at (map bytes_of ranges))

-- the link of some runs of a xorb's chunks, at a moment
abbrev pub ranges_fetch : ℕ → List ℕ → List MergedRange → RangesFetch
ranges_fetch at hash runs = record { url = ranges_link at hash (map descriptor_of runs); ranges = map descriptor_of runs }

-- the links of a xorb's runs, each of a group of at most so many
abbrev pub ranges_fetches : ℕ → ℕ → (List ℕ × List MergedRange) → (List ℕ × List RangesFetch)
ranges_fetches max at group = (group.0, map (ranges_fetch at group.0) (in_groups max group.1))

-- a plan with one link for each group of at most so many runs of a xorb
abbrev pub second_at : ℕ → ℕ → PlanModel → SecondPlan
second_at max at plan = record { offset_into_first_range = plan.offset_into_first_range; terms = plan.terms; xorbs = map (ranges_fetches max at) plan.merged }

-- ---- answers

abbrev pub response_by : {A : Type 0} → (PlanModel → A) → Result (Option PlanModel) Refusal → Result (Option A) Refusal
response_by f (Ok None) = Ok None
response_by f (Ok (Some plan)) = Ok (Some (f plan))
response_by f (Err why) = Err why

-- The answer is that of the file's plan, written so; and each stored chunk list is well formed and has its name.
pub record RespondsBy {A : Type 0} (f : PlanModel → A) (m : StoreModel) (file : List ℕ) (range : Option (Range ℕ _F)) (result : Result (Option A) Refusal) : Type 0 where
  pub answer : Result (Option PlanModel) Refusal
  pub plans : PlansFile m file range answer
  pub response : result ≡ response_by f answer
  pub sound : IsSound m

-- with a link for each run, at this moment
abbrev pub Responds : StoreModel → List ℕ → Option (Range ℕ _F) → ℕ → Result (Option FirstPlan) Refusal → Type 0
Responds m file range at result = RespondsBy (first_of at) m file range result

-- with a link for each group of at most as many runs as the store's maximum says
abbrev pub RespondsInGroups : StoreModel → List ℕ → Option (Range ℕ _F) → ℕ → Result (Option SecondPlan) Refusal → Type 0
RespondsInGroups m file range at result = RespondsBy (second_at m.max_ranges at) m file range result

-- ---- both versions

abbrev pub ranges_in : RangesFetch → List XorbRangeDescriptor
ranges_in f = f.ranges

abbrev pub flat_xorb : (List ℕ × List RangesFetch) → (List ℕ × List XorbRangeDescriptor)
flat_xorb e = (e.0, flat_map ranges_in e.1)

-- the runs of each xorb's links, in order, whichever link brings them
abbrev pub flattened : SecondPlan → List (List ℕ × List XorbRangeDescriptor)
flattened plan = map flat_xorb plan.xorbs

-- A plan of version 2 has the runs of that of version 1 in their order, and its terms and offset, whatever the maximum.
abbrev pub IsRegrouped : Type 0
IsRegrouped = (plan : PlanModel) (max at : ℕ) → 0 < max →
    (flattened (second_at max at plan) ≡ flattened (second_of (first_of at plan)))
    × ((second_at max at plan).terms ≡ (first_of at plan).terms)
    × ((second_at max at plan).offset_into_first_range ≡ (first_of at plan).offset_into_first_range)
