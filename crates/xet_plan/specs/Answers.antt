-- What the planner answers.
use Rattle.std.specs.Prelude.{◌≡◌, ℕ, ◌-◌, List, [], ◌∷◌, Option, Some, None, Result, Ok, Err, map, IfOk, IfSome, ◌⊎◌}
use Rattle.std.specs.List.{AllByRecursion}
use Rattle.xet_types.specs.declared.range.Range.{Range}
use Rattle.xet_types.specs.declared.range._F.{_F}
use Rattle.xet_types.specs.declared.error.ClientError.{ClientError}
use Rattle.xet_types.specs.declared.error.ClientError.TheVariants.{FormatError, InvalidRange, InvalidArguments, FileNotFound, XORBNotFound, PresignedUrlExpirationError, IOError, Other, InvalidKey, CacheError, HttpStatus, OutOfMemory}
use Rattle.xet_types.specs.declared.error.FormatFault.TheVariants.{Xorb as AtXorb, Segment as AtSegment}
use Rattle.xet_types.specs.declared.error.Refusal.TheVariants as refusals
use Rattle.xet_types.specs.declared.record.XorbReconstructionTerm.{XorbReconstructionTerm}
use Rattle.xet_xorb.specs.Lengths.{packed_before}
use Rattle.xet_shard.specs.declared.listing.Segment.{Segment}
use Rattle.xet_shard.specs.Values.{size_of}
use Rattle.xet_plan.specs.declared.place.Reach.{Reach}
use Rattle.xet_plan.specs.declared.place.Reach.TheVariants.{Past, Reversed, Within}
use Rattle.xet_plan.specs.declared.place.Cut.{Cut}
use Rattle.xet_plan.specs.Places.{Interval, interval, Known, reach, first_fault, met_segments}
use Rattle.xet_plan.specs.MetChunks.{terms_of, offset_of, met_chunks, Has, chunk_range}
use Rattle.xet_plan.specs.Least.{IsLeast}
use Rattle.xet_plan.specs.FileBytes.{Content, Describes, assembled, file_bytes, asked_length}
use Rattle.xet_plan.specs.Runs.{Group, IsMerged}
use Rattle.xet_plan.specs.Cuts.{IsReadable, Names, object_lengths}
use Rattle.xet_plan.specs.Merging.{CutsHave, CutAt, RangesAt, group_of}
use Rattle.xet_plan.specs.Plans.{PlanModel, TermsModel, terms_shown}

-- where chunk k of the xorb h begins in the xorb's bytes
abbrev pub packed_at : Known → List ℕ → ℕ → ℕ
packed_at known h k = packed_before (object_lengths (known h)) k

-- the chunks of a plan's merged ranges, by xorb
abbrev pub groups_of : PlanModel → List Group
groups_of plan = map group_of plan.merged

-- the plan of the file's bytes in an interval: the terms and the offset of its met chunks, and their runs by hash, then start,
-- each with its bytes in its xorb
pub record IsPlan (known : Known) (segments : List Segment) (clip : Interval) (plan : PlanModel) : Type 0 where
  pub readable : AllByRecursion (IsReadable known) (met_segments clip segments)
  pub terms : plan.terms ≡ terms_of known clip segments
  pub offset : plan.offset_into_first_range ≡ offset_of known clip segments
  pub merged : IsMerged (Has (met_chunks known clip segments)) (groups_of plan)
  pub bytes : AllByRecursion (RangesAt (packed_at known)) plan.merged

-- the terms and the offset of such a plan
pub record AreTerms (known : Known) (segments : List Segment) (clip : Interval) (plan : TermsModel) : Type 0 where
  pub readable : AllByRecursion (IsReadable known) (met_segments clip segments)
  pub terms : plan.terms ≡ terms_of known clip segments
  pub offset : plan.offset_into_first_range ≡ offset_of known clip segments

abbrev pub cut_term : Cut → XorbReconstructionTerm
cut_term c = record { hash = c.hash; unpacked_length = c.length; range = chunk_range c.start c.end }

abbrev pub cut_offset : ℕ → List Cut → ℕ
cut_offset start [] = 0
cut_offset start (c ∷ cs) = start - c.at

-- a plan of cuts, whatever they are cut of
pub record IsPlanOf (start : ℕ) (cuts : List Cut) (plan : PlanModel) : Type 0 where
  pub terms : plan.terms ≡ map cut_term cuts
  pub offset : plan.offset_into_first_range ≡ cut_offset start cuts
  pub merged : IsMerged (CutsHave cuts) (groups_of plan)
  pub bytes : (f : List ℕ → ℕ → ℕ) → AllByRecursion (CutAt f) cuts → AllByRecursion (RangesAt f) plan.merged

abbrev pub IfWithin : Reach → (Interval → Type 0) → Type 0
IfWithin (Within start end) P = P (interval start end)
IfWithin Past P = ⊥
IfWithin Reversed P = ⊥

-- what an interval gives over footers that tell their map: a value of which this holds, or the first fault
abbrev pub GivesFrom : {P : Type 0} → (P → Type 0) → Known → Interval → List Segment → Result P ClientError → Type 0
GivesFrom holds known clip segments (Ok plan) = (first_fault known clip segments ≡ None) × holds plan
GivesFrom holds known clip segments (Err (FormatError f)) = first_fault known clip segments ≡ Some (refusals.FormatError f)
GivesFrom holds known clip segments (Err (XORBNotFound h)) = first_fault known clip segments ≡ Some (refusals.XORBNotFound h)
GivesFrom holds known clip segments (Err IOError) = Unit {0}
GivesFrom holds known clip segments (Err OutOfMemory) = Unit {0}
GivesFrom holds known clip segments (Err InvalidRange) = ⊥
GivesFrom holds known clip segments (Err InvalidArguments) = ⊥
GivesFrom holds known clip segments (Err (FileNotFound h)) = ⊥
GivesFrom holds known clip segments (Err PresignedUrlExpirationError) = ⊥
GivesFrom holds known clip segments (Err (Other text)) = ⊥
GivesFrom holds known clip segments (Err (InvalidKey text)) = ⊥
GivesFrom holds known clip segments (Err (CacheError text)) = ⊥
GivesFrom holds known clip segments (Err (HttpStatus status)) = ⊥

abbrev pub PlanAnswer : Known → Interval → List Segment → Result PlanModel ClientError → Type 0
PlanAnswer known clip segments result = GivesFrom (IsPlan known segments clip) known clip segments result

abbrev pub TermsAnswer : Known → Interval → List Segment → Result TermsModel ClientError → Type 0
TermsAnswer known clip segments result = GivesFrom (AreTerms known segments clip) known clip segments result

-- each answer over footers that tell their map, and when it comes: where there is a value, this holds of it
abbrev pub AnswersFrom : {P : Type 0} → (Interval → P → Type 0) → Known → List Segment → Option (Range ℕ _F) → Result (Option P) ClientError → Type 0
AnswersFrom holds known segments range (Ok None) = reach (size_of segments) range ≡ Past
AnswersFrom holds known segments range (Ok (Some plan)) = IfWithin (reach (size_of segments) range) (λ clip. (first_fault known clip segments ≡ None) × holds clip plan)
AnswersFrom holds known segments range (Err InvalidRange) = reach (size_of segments) range ≡ Reversed
AnswersFrom holds known segments range (Err (FormatError f)) = IfWithin (reach (size_of segments) range) (λ clip. first_fault known clip segments ≡ Some (refusals.FormatError f))
AnswersFrom holds known segments range (Err (XORBNotFound h)) = IfWithin (reach (size_of segments) range) (λ clip. first_fault known clip segments ≡ Some (refusals.XORBNotFound h))
AnswersFrom holds known segments range (Err IOError) = IfWithin (reach (size_of segments) range) (λ clip. Unit {0})
AnswersFrom holds known segments range (Err OutOfMemory) = Unit {0}
AnswersFrom holds known segments range (Err InvalidArguments) = ⊥
AnswersFrom holds known segments range (Err (FileNotFound h)) = ⊥
AnswersFrom holds known segments range (Err PresignedUrlExpirationError) = ⊥
AnswersFrom holds known segments range (Err (Other text)) = ⊥
AnswersFrom holds known segments range (Err (InvalidKey text)) = ⊥
AnswersFrom holds known segments range (Err (CacheError text)) = ⊥
AnswersFrom holds known segments range (Err (HttpStatus status)) = ⊥

abbrev pub Answers : Known → List Segment → Option (Range ℕ _F) → Result (Option PlanModel) ClientError → Type 0
Answers known segments range result = AnswersFrom (IsPlan known segments) known segments range result

abbrev pub TermsAnswers : Known → List Segment → Option (Range ℕ _F) → Result (Option TermsModel) ClientError → Type 0
TermsAnswers known segments range result = AnswersFrom (AreTerms known segments) known segments range result

-- which answer a range has, whatever the footers tell
abbrev pub Places : {P : Type 0} → List Segment → Option (Range ℕ _F) → Result (Option P) ClientError → Type 0
Places segments range (Ok None) = reach (size_of segments) range ≡ Past
Places segments range (Ok (Some plan)) = IfWithin (reach (size_of segments) range) (λ clip. Unit {0})
Places segments range (Err InvalidRange) = reach (size_of segments) range ≡ Reversed
Places segments range (Err (FormatError f)) = IfWithin (reach (size_of segments) range) (λ clip. (f ≡ AtXorb) ⊎ (f ≡ AtSegment))
Places segments range (Err (XORBNotFound h)) = IfWithin (reach (size_of segments) range) (λ clip. Names (met_segments clip segments) h)
Places segments range (Err IOError) = IfWithin (reach (size_of segments) range) (λ clip. Unit {0})
Places segments range (Err OutOfMemory) = Unit {0}
Places segments range (Err InvalidArguments) = ⊥
Places segments range (Err (FileNotFound h)) = ⊥
Places segments range (Err PresignedUrlExpirationError) = ⊥
Places segments range (Err (Other text)) = ⊥
Places segments range (Err (InvalidKey text)) = ⊥
Places segments range (Err (CacheError text)) = ⊥
Places segments range (Err (HttpStatus status)) = ⊥

-- a plan is the least
abbrev pub PlansLeast : Known → List Segment → Option (Range ℕ _F) → Result (Option PlanModel) ClientError → Type 0
PlansLeast known segments range result = IfOk result (λ answer. IfSome answer (λ plan. IfWithin (reach (size_of segments) range) (λ clip. IsLeast known segments clip (groups_of plan))))

-- a plan's terms, joined, less the offset and cut to the length that is reached, or to the length that is asked, are the file's bytes
pub record IsAssembled (known : Known) (segments : List Segment) (range : Option (Range ℕ _F)) (clip : Interval) (plan : TermsModel) : Type 0 where
  pub clipped : (content : Content) → Describes known content → assembled content plan.terms plan.offset_into_first_range (clip.end - clip.start) ≡ file_bytes content clip segments
  pub asked : (content : Content) → Describes known content → assembled content plan.terms plan.offset_into_first_range (asked_length range clip) ≡ file_bytes content clip segments

abbrev pub TermsBytes : Known → List Segment → Option (Range ℕ _F) → Result (Option TermsModel) ClientError → Type 0
TermsBytes known segments range result = IfOk result (λ answer. IfSome answer (λ plan. IfWithin (reach (size_of segments) range) (λ clip. IsAssembled known segments range clip plan)))

abbrev pub PlansBytes : Known → List Segment → Option (Range ℕ _F) → Result (Option PlanModel) ClientError → Type 0
PlansBytes known segments range result = IfOk result (λ answer. IfSome answer (λ plan. IfWithin (reach (size_of segments) range) (λ clip. IsAssembled known segments range clip (terms_shown plan))))
