-- How much of the joined terms there is: past a clip that ends with the file there is nothing more.
use Rattle.std.proofs.Common.{◌≡◌, ◌∙◌, ℕ, ◌+◌, ◌-◌, ◌<◌, ◌≤◌, ◌==◌, ◌&&◌, nat_le, min, max, cond, List, [], ◌∷◌, ◌++◌, length, map, take, drop, sum, refl, sym, ap, arith, ◌⊎◌, inl, inr, true, false, Bool, Some}
use Rattle.std.specs.Bool.{if◌then◌else◌}
use Rattle.std.specs.List.{AllByRecursion, flat_map, concat}
use Rattle.std.proofs.lemmas.Bool.{cases_lt, ltb-true, ltb-false, le-ltb, eqb-true}
use Rattle.std.proofs.lemmas.List.{length-append, length-drop, take_all}
use Rattle.std.proofs.lemmas.List.Sums.{sum_by-cons}
use Rattle.xet_types.specs.declared.range.Range.{Range}
use Rattle.xet_types.specs.declared.range._F.{_F}
use Rattle.xet_shard.specs.declared.listing.Segment.{Segment}
use Rattle.xet_shard.specs.Values.{listed_length, size_of}
use Rattle.xet_plan.specs.declared.place.Reach.TheVariants.{Past, Reversed, Within}
use Rattle.xet_plan.specs.Places.{Interval, Placed, Known, place, meets, met_from, reach}
use Rattle.xet_plan.specs.MetChunks.{kept, term, offset_in}
use Rattle.xet_plan.specs.Cuts.{IsReadable}
use Rattle.xet_plan.specs.FileBytes.{Content, term_bytes, Describes}
use Rattle.xet_plan.proofs.Lay.{is_met-yes, is_met-no, sum-cons}
use Rattle.xet_plan.proofs.SoFar.{met-no}
use Rattle.xet_plan.proofs.Window.{Full, keep, first_kept, keep-yes, keep-no, first-yes, first-no}
use Rattle.xet_plan.proofs.Bytes.{IsHeld, held, kept_bytes}

-- what is kept of chunks is no longer than they are
keep_le : (clip : Interval) (at : ℕ) (ds : List (List ℕ)) → length (concat (keep clip at ds)) ≤ sum (map length ds)
keep_le clip at [] = omega arith
keep_le clip at (d ∷ ds) =
    let rest = keep clip (at + length d) ds in
    let less : length (concat rest) ≤ sum (map length ds) = keep_le clip (at + length d) ds in
    let all : sum (map length (d ∷ ds)) ≡ length d + sum (map length ds) = sum-cons (length d) (map length ds) in
    let more : length (d ++ concat rest) ≡ length d + length (concat rest) = length-append d (concat rest) in
    elim (meets clip at (length d)) as (λ b. length (concat (cond b (d ∷ rest) rest)) ≤ sum (map length (d ∷ ds))) [ true ↦ omega arith | false ↦ omega arith ]

-- the same counted from the first that is kept
first_keep_le : (clip : Interval) (at : ℕ) (ds : List (List ℕ)) → Full ds → max clip.start at < min clip.end (at + sum (map length ds)) → first_kept clip at ds + length (concat (keep clip at ds)) ≤ at + sum (map length ds)
first_keep_le clip at [] p m = absurd (omega arith)
first_keep_le clip at (d ∷ ds) p m =
    let rest = keep clip (at + length d) ds in
    let all : sum (map length (d ∷ ds)) ≡ length d + sum (map length ds) = sum-cons (length d) (map length ds) in
    elim (cases_lt clip.start (at + length d)) as (λ _. first_kept clip at (d ∷ ds) + length (concat (keep clip at (d ∷ ds))) ≤ at + sum (map length (d ∷ ds))) [
      | inl l ↦
          (let yes : meets clip at (length d) ≡ true = is_met-yes clip [] 0 at (length d) p.0 l (omega arith) (omega arith) in
          let less : length (concat rest) ≤ sum (map length ds) = keep_le clip (at + length d) ds in
          let more : length (d ++ concat rest) ≡ length d + length (concat rest) = length-append d (concat rest) in
          let is : at + length (d ++ concat rest) ≤ at + sum (map length (d ∷ ds)) = omega arith in
          rw (first-yes clip at d ds yes, keep-yes clip at d ds yes) is)
      | inr l ↦
          (let no : meets clip at (length d) ≡ false = is_met-no clip [] 0 at (length d) (inr l) in
          let less : first_kept clip (at + length d) ds + length (concat rest) ≤ at + length d + sum (map length ds) = first_keep_le clip (at + length d) ds p.1 (omega arith) in
          let is : first_kept clip (at + length d) ds + length (concat rest) ≤ at + sum (map length (d ∷ ds)) = omega arith in
          rw (first-no clip at d ds no, keep-no clip at d ds no) is)
    ]

-- what is kept of segments is no longer than they are listed
kept_le : (known : Known) (content : Content) (clip : Interval) (at : ℕ) (ss : List Segment) → Describes known content → AllByRecursion (IsReadable known) (met_from clip at ss) → length (kept_bytes known content clip (met_from clip at ss)) ≤ size_of ss
kept_le known content clip at [] f r = omega arith
kept_le known content clip at (s ∷ ss) f r =
    let n = s.unpacked_segment_bytes in
    let ps = met_from clip (at + n) ss in
    let all : size_of (s ∷ ss) ≡ n + size_of ss = sum_by-cons listed_length s ss in
    let by : (b : Bool) → meets clip at n ≡ b → AllByRecursion (IsReadable known) (cond b (place at s ∷ ps) ps) → length (kept_bytes known content clip (cond b (place at s ∷ ps) ps)) ≤ size_of (s ∷ ss)
    = λ b. elim b as (λ b. meets clip at n ≡ b → AllByRecursion (IsReadable known) (cond b (place at s ∷ ps) ps) → length (kept_bytes known content clip (cond b (place at s ∷ ps) ps)) ≤ size_of (s ∷ ss)) [
      | true ↦ λ e q.
          (let x : IsHeld known content clip (place at s) = held known content clip (place at s) f q.0 (ltb-true (max clip.start at) (min clip.end (at + n)) e) in
          let t = term_bytes content (term s.xorb_hash (kept known clip (place at s))) in
          let one : length t ≡ length (concat (keep clip at x.chunks)) = ap length x.term_is in
          let less : length (concat (keep clip at x.chunks)) ≤ sum (map length x.chunks) = keep_le clip at x.chunks in
          let long : sum (map length x.chunks) ≡ n = x.sums in
          let rest : length (kept_bytes known content clip ps) ≤ size_of ss = kept_le known content clip (at + n) ss f q.1 in
          let more : length (t ++ kept_bytes known content clip ps) ≡ length t + length (kept_bytes known content clip ps) = length-append t (kept_bytes known content clip ps) in
          omega arith)
      | false ↦ λ e q. (let rest : length (kept_bytes known content clip ps) ≤ size_of ss = kept_le known content clip (at + n) ss f q in omega arith)
    ] in
    by (meets clip at n) refl r

-- less the offset it reaches at most to the end of the file
pub left_le : (known : Known) (content : Content) (clip : Interval) (at : ℕ) (ss : List Segment) → Describes known content → AllByRecursion (IsReadable known) (met_from clip at ss) → at ≤ clip.start → clip.start < clip.end
    → length (drop (offset_in clip.start (flat_map (kept known clip) (met_from clip at ss))) (kept_bytes known content clip (met_from clip at ss))) ≤ at + size_of ss - clip.start
left_le known content clip at [] f r l o =
    let none : length (drop (clip.start - 0) (kept_bytes known content clip [])) ≡ 0 - (clip.start - 0) = length-drop (clip.start - 0) (kept_bytes known content clip []) in
    let off : length (drop 0 (kept_bytes known content clip [])) ≡ 0 = length-drop 0 (kept_bytes known content clip []) in
    omega arith
left_le known content clip at (s ∷ ss) f r l o =
    let n = s.unpacked_segment_bytes in
    let ps = met_from clip (at + n) ss in
    let all : size_of (s ∷ ss) ≡ n + size_of ss = sum_by-cons listed_length s ss in
    let goal : List Placed → Type 0 = λ qs. length (drop (offset_in clip.start (flat_map (kept known clip) qs)) (kept_bytes known content clip qs)) ≤ at + size_of (s ∷ ss) - clip.start in
    let by : (b : Bool) → meets clip at n ≡ b → AllByRecursion (IsReadable known) (cond b (place at s ∷ ps) ps) → goal (cond b (place at s ∷ ps) ps)
    = λ b. elim b as (λ b. meets clip at n ≡ b → AllByRecursion (IsReadable known) (cond b (place at s ∷ ps) ps) → goal (cond b (place at s ∷ ps) ps)) [
      | true ↦ λ e q.
          (let m : max clip.start at < min clip.end (at + n) = ltb-true (max clip.start at) (min clip.end (at + n)) e in
          let x : IsHeld known content clip (place at s) = held known content clip (place at s) f q.0 m in
          let t = term_bytes content (term s.xorb_hash (kept known clip (place at s))) in
          let k = offset_in clip.start (kept known clip (place at s) ++ flat_map (kept known clip) ps) in
          let off : k ≡ clip.start - first_kept clip at x.chunks = x.some (flat_map (kept known clip) ps) ∙ ap (λ (i : ℕ). clip.start - i) x.first in
          let one : length t ≡ length (concat (keep clip at x.chunks)) = ap length x.term_is in
          let long : sum (map length x.chunks) ≡ n = x.sums in
          let less : first_kept clip at x.chunks + length (concat (keep clip at x.chunks)) ≤ at + sum (map length x.chunks) = first_keep_le clip at x.chunks x.full (omega arith) in
          let rest : length (kept_bytes known content clip ps) ≤ size_of ss = kept_le known content clip (at + n) ss f q.1 in
          let more : length (t ++ kept_bytes known content clip ps) ≡ length t + length (kept_bytes known content clip ps) = length-append t (kept_bytes known content clip ps) in
          let left : length (drop k (t ++ kept_bytes known content clip ps)) ≡ length (t ++ kept_bytes known content clip ps) - k = length-drop k (t ++ kept_bytes known content clip ps) in
          omega arith)
      | false ↦ λ e q.
          (let none : min clip.end (at + n) ≤ max clip.start at = ltb-false (max clip.start at) (min clip.end (at + n)) e in
          let rest : length (drop (offset_in clip.start (flat_map (kept known clip) ps)) (kept_bytes known content clip ps)) ≤ at + n + size_of ss - clip.start = left_le known content clip (at + n) ss f q (omega arith) o in
          omega arith)
    ] in
    by (meets clip at n) refl r

-- an empty interval keeps nothing
pub nothing_kept : (known : Known) (content : Content) (clip : Interval) (at : ℕ) (ss : List Segment) → clip.end ≤ clip.start → kept_bytes known content clip (met_from clip at ss) ≡ []
nothing_kept known content clip at [] o = refl
nothing_kept known content clip at (s ∷ ss) o =
    let no : meets clip at s.unpacked_segment_bytes ≡ false = le-ltb (max clip.start at) (min clip.end (at + s.unpacked_segment_bytes)) (omega arith) in
    rw (met-no clip at s ss no) (nothing_kept known content clip (at + s.unpacked_segment_bytes) ss o)

-- a list that isn't longer is all there
pub take_more : (xs : List ℕ) (m n : ℕ) → length xs ≤ m → m ≤ n → take n xs ≡ take m xs
take_more xs m n l h = take_all n xs (omega arith) ∙ sym (take_all m xs l)

first : {a b s e : ℕ} → Within a b ≡ Within s e → a ≡ s
first h = cc

second : {a b s e : ℕ} → Within a b ≡ Within s e → b ≡ e
second h = cc

both : (a b : Bool) → (a && b) ≡ true → a ≡ true
both true b h = refl
both false b h = let f : ⊥ = cc in absurd f

-- a clip is as long as its range, or ends with the file
asked_by : (n s e : ℕ) (r : Range ℕ _F) (b c d : Bool) → (b ≡ true → n ≡ 0) → (if b then Within 0 0 else (if c then Past else (if d then Reversed else Within r.start (min r.end n)))) ≡ Within s e → (r.end - r.start ≡ e - s) ⊎ ((e ≡ n) × (e - s ≤ r.end - r.start))
asked_by n s e r true c d z h = let p : n ≡ 0 = z refl in let q : 0 ≡ e = second h in inr (omega arith, omega arith)
asked_by n s e r false true d z h = let q : ⊥ = cc in absurd q
asked_by n s e r false false true z h = let q : ⊥ = cc in absurd q
asked_by n s e r false false false z h =
    let p : r.start ≡ s = first h in
    let q : min r.end n ≡ e = second h in
    elim (cases_lt n r.end) as (λ _. (r.end - r.start ≡ e - s) ⊎ ((e ≡ n) × (e - s ≤ r.end - r.start))) [ inl l ↦ inr (omega arith, omega arith) | inr l ↦ inl (omega arith) ]

pub asked_cases : (n s e : ℕ) (r : Range ℕ _F) → reach n (Some r) ≡ Within s e → (r.end - r.start ≡ e - s) ⊎ ((e ≡ n) × (e - s ≤ r.end - r.start))
asked_cases n s e r h = asked_by n s e r (n == 0 && r.start == 0) (nat_le n r.start) (nat_le r.end r.start) (λ t. eqb-true n 0 (both (n == 0) (r.start == 0) t)) h
