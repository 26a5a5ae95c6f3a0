-- What is known while the met segments are cut one after the other.
use Rattle.std.proofs.Common.{◌≡◌, ◌∙◌, ℕ, ◌+◌, ◌<◌, ◌≤◌, min, max, length, get_or, drop, List, [], ◌∷◌, ◌++◌, map, refl, ap, sym, true, false, Some, None, subst, inl, inr, arith}
use Rattle.std.proofs.lemmas.List.{append_assoc, append-nil, drop_more}
use Rattle.std.proofs.lemmas.Bool.{le-ltb, lt-ltb}
use Rattle.std.specs.List.{AllByRecursion}
use Rattle.xet_shard.specs.declared.listing.Segment.{Segment}
use Rattle.xet_types.specs.declared.error.Refusal.{Refusal}
use Rattle.xet_types.specs.declared.error.ClientError.{ClientError}
use Rattle.xet_types.specs.declared.error.ClientError.TheVariants.{FormatError, InvalidRange, InvalidArguments, FileNotFound, XORBNotFound, PresignedUrlExpirationError, IOError, Other, InvalidKey, CacheError, HttpStatus, OutOfMemory}
use Rattle.xet_plan.specs.Footers.{IsFooterRefusal}
use Rattle.xet_plan.specs.declared.place.Cut.{Cut}
use Rattle.xet_plan.specs.Places.{Interval, Known, interval, place, meets, met_from, met_segments, first_of, first_fault, fault, fault_at, or_else}
use Rattle.xet_plan.specs.Cuts.{cut_at, IsReadable, Names, IsPlanRefusal}

pub record SoFar (known : Known) (clip : Interval) (segments : List Segment) (at : ℕ) (rest : List Segment) (cuts : List Cut) : Type 0 where
  pub fault : first_of known (met_from clip at rest) ≡ first_fault known clip segments
  pub readable : AllByRecursion (IsReadable known) (met_from clip at rest) → AllByRecursion (IsReadable known) (met_segments clip segments)
  pub done : cuts ++ map (cut_at known clip) (met_from clip at rest) ≡ map (cut_at known clip) (met_segments clip segments)

pub so_far_none : (known : Known) (clip : Interval) (segments : List Segment) → SoFar known clip segments 0 segments []
so_far_none known clip segments = record { fault = refl; readable = λ h. h; done = refl }

pub met-no : (clip : Interval) (at : ℕ) (s : Segment) (ss : List Segment) → meets clip at s.unpacked_segment_bytes ≡ false → met_from clip at (s ∷ ss) ≡ met_from clip (at + s.unpacked_segment_bytes) ss
met-no clip at s ss e = rw e refl

pub met-yes : (clip : Interval) (at : ℕ) (s : Segment) (ss : List Segment) → meets clip at s.unpacked_segment_bytes ≡ true → met_from clip at (s ∷ ss) ≡ place at s ∷ met_from clip (at + s.unpacked_segment_bytes) ss
met-yes clip at s ss e = rw e refl

pub so_far_skip : (known : Known) (clip : Interval) (segments : List Segment) (at : ℕ) (s : Segment) (ss : List Segment) (cuts : List Cut)
    → meets clip at s.unpacked_segment_bytes ≡ false → SoFar known clip segments at (s ∷ ss) cuts → SoFar known clip segments (at + s.unpacked_segment_bytes) ss cuts
so_far_skip known clip segments at s ss cuts e h =
    let m : met_from clip at (s ∷ ss) ≡ met_from clip (at + s.unpacked_segment_bytes) ss = met-no clip at s ss e in
    record {
      fault = rw m at h.fault;
      readable = rw m at h.readable;
      done = rw m at h.done;
    }

no_fault : (known : Known) (s : Segment) (at : ℕ) → IsReadable known (place at s) → fault known s ≡ None
no_fault known s at r = ap (fault_at s) r.is ∙ rw r.agrees refl

pub so_far_take : (known : Known) (clip : Interval) (segments : List Segment) (at : ℕ) (s : Segment) (ss : List Segment) (cuts : List Cut) (c : Cut)
    → meets clip at s.unpacked_segment_bytes ≡ true → IsReadable known (place at s) → c ≡ cut_at known clip (place at s)
    → SoFar known clip segments at (s ∷ ss) cuts → SoFar known clip segments (at + s.unpacked_segment_bytes) ss (cuts ++ c ∷ [])
so_far_take known clip segments at s ss cuts c e r is h =
    let rest = met_from clip (at + s.unpacked_segment_bytes) ss in
    let m : met_from clip at (s ∷ ss) ≡ place at s ∷ rest = met-yes clip at s ss e in
    let f : or_else (fault known s) (first_of known rest) ≡ first_fault known clip segments = rw m at h.fault in
    let k : cuts ++ cut_at known clip (place at s) ∷ map (cut_at known clip) rest ≡ map (cut_at known clip) (met_segments clip segments) = rw m at h.done in
    let a : AllByRecursion (IsReadable known) (place at s ∷ rest) → AllByRecursion (IsReadable known) (met_segments clip segments) = rw m at h.readable in
    record {
      fault = rw (no_fault known s at r) at f;
      readable = λ all. a (r, all);
      done = rw is (append_assoc cuts (cut_at known clip (place at s) ∷ []) (map (cut_at known clip) rest) ∙ k);
    }

pub so_far_fault : (known : Known) (clip : Interval) (segments : List Segment) (at : ℕ) (s : Segment) (ss : List Segment) (cuts : List Cut) (e : Refusal)
    → meets clip at s.unpacked_segment_bytes ≡ true → fault known s ≡ Some e → SoFar known clip segments at (s ∷ ss) cuts → first_fault known clip segments ≡ Some e
so_far_fault known clip segments at s ss cuts e t f h =
    let m : met_from clip at (s ∷ ss) ≡ place at s ∷ met_from clip (at + s.unpacked_segment_bytes) ss = met-yes clip at s ss t in
    let g : or_else (fault known s) (first_of known (met_from clip (at + s.unpacked_segment_bytes) ss)) ≡ first_fault known clip segments = rw m at h.fault in
    sym (rw f at g)

pub so_far_all : (known : Known) (clip : Interval) (segments : List Segment) (at : ℕ) (cuts : List Cut) → SoFar known clip segments at [] cuts
    → (first_fault known clip segments ≡ None) × AllByRecursion (IsReadable known) (met_segments clip segments) × (cuts ≡ map (cut_at known clip) (met_segments clip segments))
so_far_all known clip segments at cuts h = (sym h.fault, h.readable tt, sym (append-nil cuts) ∙ h.done)

pub drop_read : {X : Type 0} (xs : List X) (i : ℕ) (x : X) → i < length xs → x ≡ get_or xs i x → drop i xs ≡ x ∷ drop (i + 1) xs
drop_read xs i x l e = drop_more xs i x l ∙ ap (λ y. y ∷ drop (i + 1) xs) (sym e)

pub meets-no : (start end at length : ℕ) → min end (at + length) ≤ max start at → meets (interval start end) at length ≡ false
meets-no start end at length h = le-ltb (max start at) (min end (at + length)) h

pub meets-yes : (start end at length : ℕ) → max start at < min end (at + length) → meets (interval start end) at length ≡ true
meets-yes start end at length h = lt-ltb (max start at) (min end (at + length)) h

-- each xorb that the rest names is named by the whole
abbrev pub NamedSoFar : Interval → List Segment → ℕ → List Segment → Type 0
NamedSoFar clip segments at rest = (h : List ℕ) → Names (met_from clip at rest) h → Names (met_segments clip segments) h

pub named_skip : (clip : Interval) (segments : List Segment) (at : ℕ) (s : Segment) (ss : List Segment) → meets clip at s.unpacked_segment_bytes ≡ false → NamedSoFar clip segments at (s ∷ ss) → NamedSoFar clip segments (at + s.unpacked_segment_bytes) ss
named_skip clip segments at s ss e n = λ h p. n h (subst (λ ps. Names ps h) (sym (met-no clip at s ss e)) p)

pub named_take : (clip : Interval) (segments : List Segment) (at : ℕ) (s : Segment) (ss : List Segment) → meets clip at s.unpacked_segment_bytes ≡ true → NamedSoFar clip segments at (s ∷ ss) → NamedSoFar clip segments (at + s.unpacked_segment_bytes) ss
named_take clip segments at s ss e n = λ h p. n h (subst (λ ps. Names ps h) (sym (met-yes clip at s ss e)) (inr p))

pub named_first : (clip : Interval) (segments : List Segment) (at : ℕ) (s : Segment) (ss : List Segment) → meets clip at s.unpacked_segment_bytes ≡ true → NamedSoFar clip segments at (s ∷ ss) → Names (met_segments clip segments) s.xorb_hash
named_first clip segments at s ss e n = n s.xorb_hash (subst (λ ps. Names ps s.xorb_hash) (sym (met-yes clip at s ss e)) (inl refl))

-- a footer's refusal is the planner's
pub footer_refused : (clip : Interval) (segments : List Segment) (h : List ℕ) (err : ClientError) → IsFooterRefusal h err → Names (met_segments clip segments) h → IsPlanRefusal clip segments err
footer_refused clip segments h (FormatError f) p n = inl p
footer_refused clip segments h InvalidRange p n = absurd p
footer_refused clip segments h InvalidArguments p n = absurd p
footer_refused clip segments h (FileNotFound x) p n = absurd p
footer_refused clip segments h (XORBNotFound x) p n = subst (Names (met_segments clip segments)) (sym p) n
footer_refused clip segments h PresignedUrlExpirationError p n = absurd p
footer_refused clip segments h IOError p n = tt
footer_refused clip segments h (Other x) p n = absurd p
footer_refused clip segments h (InvalidKey x) p n = absurd p
footer_refused clip segments h (CacheError x) p n = absurd p
footer_refused clip segments h (HttpStatus x) p n = absurd p
footer_refused clip segments h OutOfMemory p n = tt

-- past the end none is met
met-none : (clip : Interval) (at : ℕ) (ss : List Segment) → clip.end ≤ at → met_from clip at ss ≡ []
met-none clip at [] h = refl
met-none clip at (s ∷ ss) h =
    met-no clip at s ss (le-ltb (max clip.start at) (min clip.end (at + s.unpacked_segment_bytes)) (omega arith)) ∙ met-none clip (at + s.unpacked_segment_bytes) ss (omega arith)

pub so_far_past : (known : Known) (clip : Interval) (segments : List Segment) (at : ℕ) (rest : List Segment) (cuts : List Cut) → clip.end ≤ at → SoFar known clip segments at rest cuts
    → (first_fault known clip segments ≡ None) × AllByRecursion (IsReadable known) (met_segments clip segments) × (cuts ≡ map (cut_at known clip) (met_segments clip segments))
so_far_past known clip segments at rest cuts l h =
    let m : met_from clip at rest ≡ [] = met-none clip at rest l in
    so_far_all known clip segments at cuts (record { fault = rw m at h.fault; readable = rw m at h.readable; done = rw m at h.done })
