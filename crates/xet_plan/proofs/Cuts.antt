-- Cuts of the chunks that lie one behind the other.
use Rattle.std.proofs.Common.{◌≡◌, ◌∙◌, ℕ, ◌+◌, ◌-◌, ◌<◌, ◌≤◌, nat_lt, nat_le, List, [], ◌∷◌, length, get_or, drop, sum, slice_range, refl, ap, sym, arith, suc, true, false, ◌==◌, ◌&&◌, Bool}
use Rattle.std.specs.List.{sum_by}
use Rattle.std.proofs.lemmas.List.{length-drop, length-take}
use Rattle.std.proofs.lemmas.List.Sums.{sum_by-cons}
use Rattle.std.proofs.lemmas.Bool.{ltb-true, leb-true, eqb-true}
use Rattle.xet_xorb.specs.Values.{Xorb}
use Rattle.xet_xorb.specs.Lengths.{packed_before}
use Rattle.xet_shard.specs.declared.listing.Segment.{Segment}
use Rattle.xet_plan.specs.Places.{agrees, lengths_in}
use Rattle.xet_plan.specs.MetChunks.{Chunk, chunk, lay}
use Rattle.xet_plan.specs.Cuts.{cut_from}
use Rattle.xet_plan.proofs.Lay.{range-first, sum-cons}

pub record Agreement (s : Segment) (xorb : Xorb) : Type 0 where
  pub order : s.chunk_index_start < s.chunk_index_end
  pub inside : s.chunk_index_end ≤ length xorb.lengths
  pub sums : sum (lengths_in s xorb) ≡ s.unpacked_segment_bytes

and_true : (a b c : Bool) → (a && b && c) ≡ true → (a ≡ true) × (b ≡ true) × (c ≡ true)
and_true true true true h = (refl, refl, refl)
and_true true true false h = let e : ⊥ = cc in absurd e
and_true true false c h = let e : ⊥ = cc in absurd e
and_true false b c h = let e : ⊥ = cc in absurd e

pub agreed : (s : Segment) (xorb : Xorb) → agrees s xorb ≡ true → Agreement s xorb
agreed s xorb h =
    let t : (nat_lt s.chunk_index_start s.chunk_index_end ≡ true) × (nat_le s.chunk_index_end (length xorb.lengths) ≡ true) × ((sum (lengths_in s xorb) == s.unpacked_segment_bytes) ≡ true)
    = and_true (nat_lt s.chunk_index_start s.chunk_index_end) (nat_le s.chunk_index_end (length xorb.lengths)) (sum (lengths_in s xorb) == s.unpacked_segment_bytes) h in
    record { order = ltb-true s.chunk_index_start s.chunk_index_end t.0; inside = leb-true s.chunk_index_end (length xorb.lengths) t.1; sums = eqb-true (sum (lengths_in s xorb)) s.unpacked_segment_bytes t.2 }

pub length-lay : (h : List ℕ) (n at : ℕ) (xs : List ℕ) → length (lay h n at xs) ≡ length xs
length-lay h n at [] = refl
length-lay h n at (x ∷ xs) = ap suc (length-lay h (n + 1) (at + x) xs)

pub sum-lay : (h : List ℕ) (n at : ℕ) (xs : List ℕ) → sum_by (λ c. c.length) (lay h n at xs) ≡ sum xs
sum-lay h n at [] = refl
sum-lay h n at (x ∷ xs) = sum_by-cons (λ (c : Chunk). c.length) (chunk h n at x) (lay h (n + 1) (at + x) xs) ∙ ap (λ (k : ℕ). x + k) (sum-lay h (n + 1) (at + x) xs) ∙ sym (sum-cons x xs)

pub length-range : (xs : List ℕ) (i j : ℕ) → i ≤ j → j ≤ length xs → length (slice_range xs i j) ≡ j - i
length-range xs i j h l = omega (arith, length-take (j - i) (drop i xs), length-drop i xs)

-- the cut of chunks s..e
pub cut_from-lay : (h xs : List ℕ) (s e at : ℕ) → s < e → e ≤ length xs
    → cut_from h xs (lay h s at (slice_range xs s e)) ≡ record { hash = h; start = s; end = e; at = at; length = sum (slice_range xs s e); byte_start = packed_before xs s; byte_end = packed_before xs e }
cut_from-lay h xs s e at l n =
    let first : slice_range xs s e ≡ get_or xs s 0 ∷ slice_range xs (s + 1) e = range-first xs s e l n in
    let k : s + suc (length (lay h (s + 1) (at + get_or xs s 0) (slice_range xs (s + 1) e))) ≡ e
    = omega (arith, length-lay h (s + 1) (at + get_or xs s 0) (slice_range xs (s + 1) e), length-range xs (s + 1) e (omega arith) n) in
    let m : sum_by (λ (c : Chunk). c.length) (chunk h s at (get_or xs s 0) ∷ lay h (s + 1) (at + get_or xs s 0) (slice_range xs (s + 1) e)) ≡ sum (get_or xs s 0 ∷ slice_range xs (s + 1) e) = sum-lay h s at (get_or xs s 0 ∷ slice_range xs (s + 1) e) in
    rw (first, k, m) refl
