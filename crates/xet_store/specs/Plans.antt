-- What the planner answers over a store.
use Rattle.std.specs.Prelude.{◌≡◌, ℕ, ◌-◌, List, take, drop, Option, Some, None, Result, Ok, Err}
use Rattle.std.specs.List.{flat_map}
use Rattle.xet_types.specs.declared.error.Refusal.{Refusal}
use Rattle.xet_types.specs.declared.error.Refusal.TheVariants.{FormatError, InvalidRange, XORBNotFound}
use Rattle.xet_types.specs.declared.error.FormatFault.TheVariants as faults
use Rattle.xet_types.specs.declared.range.Range.{Range}
use Rattle.xet_types.specs.declared.range._F.{_F}
use Rattle.xet_shard.specs.declared.listing.Segment.{Segment}
use Rattle.xet_shard.specs.Values.{size_of}
use Rattle.xet_plan.specs.Places.{Interval, interval, Known, reach, first_fault}
use Rattle.xet_plan.specs.declared.place.Reach.{Reach}
use Rattle.xet_plan.specs.declared.place.Reach.TheVariants.{Past, Reversed, Within}
use Rattle.xet_plan.specs.FileBytes.{Content, Describes, term_bytes, file_bytes as bytes_within}
use Rattle.xet_plan.specs.Plans.{PlanModel}
use Rattle.xet_plan.specs.Answers.{IsPlan}
use Rattle.xet_store.specs.StoreModel.{StoreModel, IsSound, listing, known_of, content_of}

-- the length of the asked range, where one is given
abbrev pub length_asked : Option (Range ℕ _F) → Option ℕ
length_asked None = None
length_asked (Some r) = Some (r.end - r.start)

-- the first bytes, so many where a number is given
abbrev pub cut_to : Option ℕ → List ℕ → List ℕ
cut_to None bytes = bytes
cut_to (Some n) bytes = take n bytes

-- The met segments agree, the plan is theirs, and its terms, joined, less the offset and cut to the range, are the
-- file's bytes.
pub record Serves (known : Known) (segments : List Segment) (range : Option (Range ℕ _F)) (clip : Interval) (plan : PlanModel) : Type 0 where
  pub faultless : first_fault known clip segments ≡ None
  pub planned : IsPlan known segments clip plan
  pub bytes : (content : Content) → Describes known content
      → cut_to (length_asked range) (drop plan.offset_into_first_range (flat_map (term_bytes content) plan.terms)) ≡ bytes_within content clip segments

abbrev pub PlansWithin : Known → List Segment → Option (Range ℕ _F) → Interval → Result (Option PlanModel) Refusal → Type 0
PlansWithin known segments range clip (Ok (Some plan)) = Serves known segments range clip plan
PlansWithin known segments range clip (Ok None) = ⊥
PlansWithin known segments range clip (Err (XORBNotFound hash)) = first_fault known clip segments ≡ Some (XORBNotFound hash)
PlansWithin known segments range clip (Err (FormatError faults.Segment)) = first_fault known clip segments ≡ Some (FormatError faults.Segment)
PlansWithin known segments range clip (Err why) = ⊥

abbrev pub PlansReached : Known → List Segment → Option (Range ℕ _F) → Reach → Result (Option PlanModel) Refusal → Type 0
PlansReached known segments range Past result = result ≡ Ok None
PlansReached known segments range Reversed result = result ≡ Err InvalidRange
PlansReached known segments range (Within start end) result = PlansWithin known segments range (interval start end) result

abbrev pub PlansListed : Known → Option (Range ℕ _F) → Option (List Segment) → Result (Option PlanModel) Refusal → Type 0
PlansListed known range None result = result ≡ Ok None
PlansListed known range (Some segments) result = PlansReached known segments range (reach (size_of segments) range) result

-- There is no plan of a file that isn't live or of a range that begins at or past its end; a range that is empty or
-- reversed is refused; then the first fault of a met segment; else the plan.
abbrev pub PlansFile : StoreModel → List ℕ → Option (Range ℕ _F) → Result (Option PlanModel) Refusal → Type 0
PlansFile m file range result = PlansListed (known_of m) range (listing m file) result

-- The answer is that of the file's plan; and each stored chunk list is well formed and has its name.
pub record PlansSoundly (m : StoreModel) (file : List ℕ) (range : Option (Range ℕ _F)) (result : Result (Option PlanModel) Refusal) : Type 0 where
  pub plans : PlansFile m file range result
  pub sound : IsSound m

-- ---- the bytes of a file

abbrev pub bytes_clipped : StoreModel → List Segment → Interval → Option Refusal → Option (List ℕ)
bytes_clipped m segments clip None = Some (bytes_within (content_of m) clip segments)
bytes_clipped m segments clip (Some why) = None

abbrev pub bytes_reached : StoreModel → List Segment → Reach → Option (List ℕ)
bytes_reached m segments Past = None
bytes_reached m segments Reversed = None
bytes_reached m segments (Within start end) = bytes_clipped m segments (interval start end) (first_fault (known_of m) (interval start end) segments)

abbrev pub bytes_listed : StoreModel → Option (Range ℕ _F) → Option (List Segment) → Option (List ℕ)
bytes_listed m range None = None
bytes_listed m range (Some segments) = bytes_reached m segments (reach (size_of segments) range)

-- The file's bytes in the range, where it is live, the range begins inside and the met segments agree; an empty file has
-- no bytes in a range that begins at 0.
abbrev pub file_bytes : StoreModel → List ℕ → Option (Range ℕ _F) → Option (List ℕ)
file_bytes m file range = bytes_listed m range (listing m file)
