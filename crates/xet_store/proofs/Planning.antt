-- What the planner answers is what the store's plan is to be.
use Rattle.std.proofs.Common.{◌≡◌, ◌∙◌, ℕ, ◌+◌, ◌-◌, ◌≤◌, ◌==◌, ◌&&◌, nat_le, ◌^◌, min, cond, Bool, true, false, List, [], ◌∷◌, length, take, drop, Option, Some, None, Result, Ok, Err, refl, sym, ap, subst, arith, inl, inr}
use Rattle.std.specs.Prelude.{⊤}
use Rattle.std.specs.List.{flat_map}
use Rattle.std.proofs.lemmas.Bool.{cases_lt, eqb-true}
use Rattle.std.proofs.lemmas.List.{take_all}
use Rattle.xet_types.specs.declared.range.Range.{Range}
use Rattle.xet_types.specs.declared.range._F.{_F}
use Rattle.xet_types.specs.declared.error.ClientError.{ClientError}
use Rattle.xet_types.specs.declared.error.ClientError.TheVariants.{FormatError, InvalidRange, InvalidArguments, FileNotFound, XORBNotFound, PresignedUrlExpirationError, IOError, Other, InvalidKey, CacheError, HttpStatus, OutOfMemory}
use Rattle.xet_types.specs.declared.error.FormatFault.{FormatFault}
use Rattle.xet_types.specs.declared.error.FormatFault.TheVariants as faults
use Rattle.xet_types.specs.declared.error.Refusal.{Refusal}
use Rattle.xet_types.specs.declared.error.Refusal.TheVariants as refusals
use Rattle.xet_xorb.specs.Values.{Xorb}
use Rattle.xet_shard.specs.declared.listing.Segment.{Segment}
use Rattle.xet_shard.specs.Values.{size_of}
use Rattle.xet_plan.specs.declared.place.Reach.{Reach}
use Rattle.xet_plan.specs.declared.place.Reach.TheVariants.{Past, Reversed, Within}
use Rattle.xet_plan.specs.Places.{interval, Placed, Known, reach, agrees, fault_at, or_else, first_of, first_fault, met_segments}
use Rattle.xet_plan.specs.MetChunks.{terms_of}
use Rattle.xet_plan.specs.FileBytes.{Content, Describes, term_bytes, file_bytes, assembled}
use Rattle.xet_plan.specs.Plans.{PlanModel}
use Rattle.xet_plan.specs.Footers.{FailsOnlyByFault}
use Rattle.xet_plan.specs.Answers.{Answers, IfWithin, IsPlan}
use Rattle.xet_store.specs.Answered.{Answered}
use Rattle.xet_store.specs.Plans.{PlansReached, cut_to, length_asked}
use Rattle.xet_store.proofs.PastEnd.{IsEnd, assembled_past}

-- ---- faults

fault_in : (s : Segment) (o : Option Xorb) (rest : Option Refusal) (f : FormatFault) → or_else (fault_at s o) rest ≡ Some (refusals.FormatError f) → (rest ≡ Some (refusals.FormatError f) → f ≡ faults.Segment) → f ≡ faults.Segment
fault_in s None rest f e k = let no : ⊥ = cc in absurd no
fault_in s (Some xorb) rest f e k = elim (agrees s xorb) as (λ b. or_else (cond b None (Some (refusals.FormatError faults.Segment))) rest ≡ Some (refusals.FormatError f) → f ≡ faults.Segment) [
  | true ↦ k
  | false ↦ λ g. cc
] e

-- bytes that leave their format are a segment's
fault_of : (known : Known) (ps : List Placed) (f : FormatFault) → first_of known ps ≡ Some (refusals.FormatError f) → f ≡ faults.Segment
fault_of known [] f e = let no : ⊥ = cc in absurd no
fault_of known (p ∷ ps) f e = fault_in p.segment (known p.segment.xorb_hash) (first_of known ps) f e (fault_of known ps f)

faulty : (known : Known) (segments : List Segment) (range : Option (Range ℕ _F)) (w : Reach) (f : FormatFault) → IfWithin w (λ clip. first_fault known clip segments ≡ Some (refusals.FormatError f)) → PlansReached known segments range w (Err (refusals.FormatError f))
faulty known segments range Past f a = absurd a
faulty known segments range Reversed f a = absurd a
faulty known segments range (Within start end) faults.Segment a = a
faulty known segments range (Within start end) faults.Xorb a = let e : faults.Xorb ≡ faults.Segment = fault_of known (met_segments (interval start end) segments) faults.Xorb a in let no : ⊥ = cc in absurd no
faulty known segments range (Within start end) faults.Shard a = let e : faults.Shard ≡ faults.Segment = fault_of known (met_segments (interval start end) segments) faults.Shard a in let no : ⊥ = cc in absurd no
faulty known segments range (Within start end) faults.Table a = let e : faults.Table ≡ faults.Segment = fault_of known (met_segments (interval start end) segments) faults.Table a in let no : ⊥ = cc in absurd no
faulty known segments range (Within start end) faults.Body a = let e : faults.Body ≡ faults.Segment = fault_of known (met_segments (interval start end) segments) faults.Body a in let no : ⊥ = cc in absurd no

missing : (known : Known) (segments : List Segment) (range : Option (Range ℕ _F)) (w : Reach) (h : List ℕ) → IfWithin w (λ clip. first_fault known clip segments ≡ Some (refusals.XORBNotFound h)) → PlansReached known segments range w (Err (refusals.XORBNotFound h))
missing known segments range Past h a = absurd a
missing known segments range Reversed h a = absurd a
missing known segments range (Within start end) h a = a

-- ---- bytes

within_is : (a b start end : ℕ) → Within a b ≡ Within start end → (a ≡ start) × (b ≡ end)
within_is a b start end e = (cc, cc)

and_is : (a b : Bool) → (a && b) ≡ true → (a ≡ true) × (b ≡ true)
and_is true true e = (refl, refl)
and_is true false e = let no : ⊥ = cc in absurd no
and_is false b e = let no : ⊥ = cc in absurd no

-- where the interval of a range starts and ends
reaches : (segments : List Segment) (r : Range ℕ _F) (start end : ℕ) → reach (size_of segments) (Some r) ≡ Within start end → (r.start ≡ start) × IsEnd segments end r.end
reaches segments r start end e =
    let size = size_of segments in
    let inner : Bool → Bool → Reach = λ b c. cond b Past (cond c Reversed (Within r.start (min r.end size))) in
    let Goal : Type 0 = (r.start ≡ start) × IsEnd segments end r.end in
    let clipped : Within r.start (min r.end size) ≡ Within start end → Goal = λ g.
    (let w : (r.start ≡ start) × (min r.end size ≡ end) = within_is r.start (min r.end size) start end g in (
      w.0,
      elim (cases_lt size r.end) as (λ _. IsEnd segments end r.end) [
        | inl l ↦ inr (omega (arith, w.1), omega (arith, w.1))
        | inr l ↦ inl (omega (arith, w.1))
      ],
    )) in
    let by : (a : Bool) → (size == 0 && r.start == 0) ≡ a → cond a (Within 0 0) (inner (nat_le size r.start) (nat_le r.end r.start)) ≡ Within start end → Goal
    = λ a. elim a as (λ a. (size == 0 && r.start == 0) ≡ a → cond a (Within 0 0) (inner (nat_le size r.start) (nat_le r.end r.start)) ≡ Within start end → Goal) [
      | true ↦ λ t g.
          (let w : (0 ≡ start) × (0 ≡ end) = within_is 0 0 start end g in
          let both : ((size == 0) ≡ true) × ((r.start == 0) ≡ true) = and_is (size == 0) (r.start == 0) t in
          let z : size ≡ 0 = eqb-true size 0 both.0 in
          let s : r.start ≡ 0 = eqb-true r.start 0 both.1 in
          (omega (arith, w.0), inr (omega (arith, w.1), omega (arith, w.1))))
      | false ↦ λ t g. elim (nat_le size r.start) as (λ b. inner b (nat_le r.end r.start) ≡ Within start end → Goal) [
        | true ↦ λ g. (let no : ⊥ = cc in absurd no)
        | false ↦ λ g. elim (nat_le r.end r.start) as (λ c. inner false c ≡ Within start end → Goal) [
          | true ↦ λ g. (let no : ⊥ = cc in absurd no)
          | false ↦ clipped
        ] g
      ] g
    ] in
    by (size == 0 && r.start == 0) refl e

abbrev rest_of : Content → PlanModel → List ℕ
rest_of content plan = drop plan.offset_into_first_range (flat_map (term_bytes content) plan.terms)

taken : (known : Known) (content : Content) (start end far : ℕ) (segments : List Segment) (plan : PlanModel) → Describes known content → IsPlan known segments (interval start end) plan → IsEnd segments end far
    → take (far - start) (rest_of content plan) ≡ file_bytes content (interval start end) segments
taken known content start end far segments plan f p q =
    ap (λ ts. assembled content ts plan.offset_into_first_range (far - start)) p.terms
    ∙ ap (λ o. assembled content (terms_of known (interval start end) segments) o (far - start)) p.offset
    ∙ assembled_past known content start end far segments f p.readable q

bytes_are : (known : Known) (content : Content) (segments : List Segment) (range : Option (Range ℕ _F)) (start end : ℕ) (plan : PlanModel) → Describes known content → IsPlan known segments (interval start end) plan → reach (size_of segments) range ≡ Within start end
    → cut_to (length_asked range) (rest_of content plan) ≡ file_bytes content (interval start end) segments
bytes_are known content segments (Some r) start end plan f p e =
    let w : (r.start ≡ start) × IsEnd segments end r.end = reaches segments r start end e in
    ap (λ s. take (r.end - s) (rest_of content plan)) w.0 ∙ taken known content start end r.end segments plan f p w.1
bytes_are known content segments None start end plan f p e =
    let w : (0 ≡ start) × (size_of segments ≡ end) = within_is 0 (size_of segments) start end e in
    let xs = rest_of content plan in
    sym (take_all (end + length xs - start) xs (omega (arith, w.0))) ∙ taken known content start end (end + length xs) segments plan f p (inr (omega (arith, w.1), omega arith))

served : (known : Known) (segments : List Segment) (range : Option (Range ℕ _F)) (plan : PlanModel) (w : Reach) → reach (size_of segments) range ≡ w → IfWithin w (λ clip. (first_fault known clip segments ≡ None) × IsPlan known segments clip plan) → PlansReached known segments range w (Ok (Some plan))
served known segments range plan Past e a = absurd a
served known segments range plan Reversed e a = absurd a
served known segments range plan (Within start end) e a = record {
  faultless = a.0;
  planned = a.1;
  bytes = λ content f. bytes_are known content segments range start end plan f a.1 e;
}

pub planned : (known : Known) (segments : List Segment) (range : Option (Range ℕ _F)) (result : Result (Option PlanModel) ClientError) → Answers known segments range result → FailsOnlyByFault 0 0 result
    → Answered result (λ r. PlansReached known segments range (reach (size_of segments) range) r) ⊤
planned known segments range (Ok None) a c = subst (λ w. PlansReached known segments range w (Ok None)) (sym a) refl
planned known segments range (Ok (Some plan)) a c = served known segments range plan (reach (size_of segments) range) refl a
planned known segments range (Err InvalidRange) a c = subst (λ w. PlansReached known segments range w (Err refusals.InvalidRange)) (sym a) refl
planned known segments range (Err (FormatError f)) a c = faulty known segments range (reach (size_of segments) range) f a
planned known segments range (Err (XORBNotFound h)) a c = missing known segments range (reach (size_of segments) range) h a
planned known segments range (Err IOError) a c = let rose : min 1 (2 ^ 64 - 1) ≤ 0 = c.failed refl in absurd (omega arith)
planned known segments range (Err OutOfMemory) a c = tt
planned known segments range (Err InvalidArguments) a c = absurd a
planned known segments range (Err (FileNotFound h)) a c = absurd a
planned known segments range (Err PresignedUrlExpirationError) a c = absurd a
planned known segments range (Err (Other text)) a c = absurd a
planned known segments range (Err (InvalidKey text)) a c = absurd a
planned known segments range (Err (CacheError text)) a c = absurd a
planned known segments range (Err (HttpStatus status)) a c = absurd a
