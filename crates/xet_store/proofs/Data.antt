-- The bytes that a data call answers.
use Rattle.std.proofs.Common.{◌≡◌, ◌∙◌, ℕ, ◌+◌, ◌-◌, ◌<◌, ◌≤◌, ◌==◌, ◌&&◌, ◌^◌, min, rules, nat_le, arith, cond, false, List, [], ◌∷◌, take, drop, slice_range, Option, Some, None, Result, Ok, Err, refl, sym, ap, subst}
use Rattle.std.specs.Prelude.{⊤}
use Rattle.std.proofs.lemmas.Bool.{le-ltb}
use Rattle.xet_types.specs.declared.range.Range.{Range}
use Rattle.xet_types.specs.declared.range._F.{_F}
use Rattle.xet_types.specs.declared.error.ClientError.{ClientError}
use Rattle.xet_types.specs.declared.error.ClientError.TheVariants.{FormatError, InvalidRange, InvalidArguments, FileNotFound, XORBNotFound, PresignedUrlExpirationError, IOError, Other, InvalidKey, CacheError, HttpStatus, OutOfMemory}
use Rattle.xet_types.specs.declared.error.Refusal.{Refusal}
use Rattle.xet_types.specs.Faults.{refusal_of}
use Rattle.xet_types.specs.declared.error.Refusal.TheVariants as refusals
use Rattle.xet_shard.specs.declared.listing.Segment.{Segment}
use Rattle.xet_shard.specs.Values.{size_of}
use Rattle.xet_plan.specs.declared.place.Reach.TheVariants.{Past, Reversed, Within}
use Rattle.xet_plan.specs.Places.{Interval, interval, Placed, reach, meets, met_from, met_segments, first_of, first_fault}
use Rattle.xet_plan.specs.FileBytes.{file_bytes, assembled, laid, segments_of, first_place}
use Rattle.xet_plan.specs.Plans.{TermsModel}
use Rattle.xet_plan.specs.Footers.{FailsOnlyByFault}
use Rattle.xet_plan.specs.Answers.{TermsAnswers, IfWithin, AreTerms, IsAssembled, TermsBytes}
use Rattle.xet_store.specs.Answered.{AnsweredErr}
use Rattle.xet_store.specs.StoreModel.{StoreModel, known_of, content_of}
use Rattle.xet_store.specs.Questions.{data_at, data_agreed}
use Rattle.xet_store.proofs.StoreLaws.{known_describes}

abbrev pub answered : List ℕ → Result (List ℕ) Refusal
answered bytes = Ok bytes

abbrev pub refusing : Refusal → Result (List ℕ) Refusal
refusing why = Err why

-- ---- no bytes

meets_none : (s at n : ℕ) → meets (interval s s) at n ≡ false
meets_none s at n = search (rules, le-ltb)

met_none : (s at : ℕ) (segments : List Segment) → met_from (interval s s) at segments ≡ []
met_none s at [] = refl
met_none s at (x ∷ xs) = ap (λ b. cond b (record { at = at; segment = x } ∷ met_from (interval s s) (at + x.unpacked_segment_bytes) xs) (met_from (interval s s) (at + x.unpacked_segment_bytes) xs)) (meets_none s at x.unpacked_segment_bytes) ∙ met_none s (at + x.unpacked_segment_bytes) xs

-- an interval whose ends are equal has no bytes
pub no_data : (m : StoreModel) (segments : List Segment) (s : ℕ) → data_at m segments (interval s s) ≡ Ok []
no_data m segments s =
    let met : met_segments (interval s s) segments ≡ [] = met_none s 0 segments in
    let faultless : first_fault (known_of m) (interval s s) segments ≡ None = ap (first_of (known_of m)) met in
    let bytes : List Placed → List ℕ = λ ps. slice_range (laid (content_of m) (segments_of ps)) (s - first_place ps) (s - first_place ps) in
    let none : file_bytes (content_of m) (interval s s) segments ≡ [] = ap bytes met ∙ nothing s in
    ap (data_agreed m segments (interval s s)) faultless ∙ ap data_of none
  where
    data_of : List ℕ → Result (List ℕ) Refusal
    data_of bytes = Ok bytes

    nothing : (s : ℕ) → slice_range {X = ℕ} [] (s - 0) (s - 0) ≡ []
    nothing s = ap (λ n. take {A = ℕ} n (drop (s - 0) [])) (let e : (s - 0) - (s - 0) ≡ 0 = omega arith in e)

-- ---- planned bytes

-- an interval within the file is reached
pub reaches_within : (size : ℕ) (r : Range ℕ _F) → r.start < r.end → r.end ≤ size → reach size (Some r) ≡ Within r.start r.end
reaches_within size r some within =
    let empty : (size == 0 && r.start == 0) ≡ false = ap (λ b. b && r.start == 0) (not_zero size (omega (arith, some, within))) in
    let before : nat_le size r.start ≡ false = search (rules, some, within) in
    let forward : nat_le r.end r.start ≡ false = search (rules, some) in
    let clipped : min r.end size ≡ r.end = omega (arith, within) in
    ap (λ b. cond b (Within 0 0) (cond (nat_le size r.start) Past (cond (nat_le r.end r.start) Reversed (Within r.start (min r.end size))))) empty
    ∙ ap (λ b. cond b Past (cond (nat_le r.end r.start) Reversed (Within r.start (min r.end size)))) before
    ∙ ap (λ b. cond b Reversed (Within r.start (min r.end size))) forward
    ∙ ap (Within r.start) clipped
  where
    not_zero : (n : ℕ) → 0 < n → (n == 0) ≡ false
    not_zero n l = search (rules, l)

module _ (m : StoreModel) (segments : List Segment) (r : Range ℕ _F) (some : r.start < r.end) (within : r.end ≤ size_of segments) where
  clip : Interval
  clip = interval r.start r.end

  inside : reach (size_of segments) (Some r) ≡ Within r.start r.end
  inside = reaches_within (size_of segments) r some within

  -- the planned terms, joined and cut, are the bytes
  pub data_ok : (plan : TermsModel) (bytes : List ℕ) → TermsAnswers (known_of m) segments (Some r) (Ok (Some plan)) → TermsBytes (known_of m) segments (Some r) (Ok (Some plan))
      → bytes ≡ assembled (content_of m) plan.terms plan.offset_into_first_range (r.end - r.start) → answered bytes ≡ data_at m segments (interval r.start r.end)
  data_ok plan bytes answers joined is =
      let faultless : first_fault (known_of m) (interval r.start r.end) segments ≡ None =
      (subst (λ w. IfWithin w (λ clip. (first_fault (known_of m) clip segments ≡ None) × AreTerms (known_of m) segments clip plan)) inside answers).0 in
      let whole : IsAssembled (known_of m) segments (Some r) (interval r.start r.end) plan = subst (λ w. IfWithin w (λ clip. IsAssembled (known_of m) segments (Some r) clip plan)) inside joined in
      ap answered (is ∙ whole.asked (content_of m) (known_describes m)) ∙ sym (ap (data_agreed m segments (interval r.start r.end)) faultless)

  -- there is a plan
  pub data_there : TermsAnswers (known_of m) segments (Some r) (Ok None) → ⊥
  data_there past = let e : Within r.start r.end ≡ Past = sym inside ∙ past in let no : ⊥ = cc in no

  faulty : (why : Refusal) → IfWithin (reach (size_of segments) (Some r)) (λ clip. first_fault (known_of m) clip segments ≡ Some why) → refusing why ≡ data_at m segments (interval r.start r.end)
  faulty why a =
      sym (ap (data_agreed m segments (interval r.start r.end)) (subst (λ w. IfWithin w (λ clip. first_fault (known_of m) clip segments ≡ Some why)) inside a))

  -- a refusal is the first fault
  pub data_refused : (e : ClientError) → TermsAnswers (known_of m) segments (Some r) (Err e) → FailsOnlyByFault {T = Option TermsModel} 0 0 (Err e) → AnsweredErr {T = List ℕ} (refusal_of e) (λ x. x ≡ data_at m segments (interval r.start r.end)) ⊤
  data_refused InvalidRange a c = let e : Within r.start r.end ≡ Reversed = sym inside ∙ a in let no : ⊥ = cc in absurd no
  data_refused (FormatError f) a c = faulty (refusals.FormatError f) a
  data_refused (XORBNotFound h) a c = faulty (refusals.XORBNotFound h) a
  data_refused IOError a c = let rose : min 1 (2 ^ 64 - 1) ≤ 0 = c.failed refl in absurd (omega arith)
  data_refused OutOfMemory a c = tt
  data_refused InvalidArguments a c = absurd a
  data_refused (FileNotFound h) a c = absurd a
  data_refused PresignedUrlExpirationError a c = absurd a
  data_refused (Other text) a c = absurd a
  data_refused (InvalidKey text) a c = absurd a
  data_refused (CacheError text) a c = absurd a
  data_refused (HttpStatus status) a c = absurd a
