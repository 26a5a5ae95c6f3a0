-- Places of a byte, part by part.
use Rattle.std.proofs.Common.{◌≡◌, ℕ, ◌+◌, ◌-◌, ◌*◌, ◌<◌, ◌≤◌, ◌∙◌, Bool, true, false, not, cond, List, [], ◌∷◌, map, length, drop, get_or, Option, Some, None, inl, inr, sym, ap, arith}
use Rattle.std.specs.List.{prefix_len}
use Rattle.std.proofs.lemmas.Bool.{cases_lt, false≢true}
use Rattle.std.proofs.lemmas.List.{get_or-drop, length-drop}
use Rattle.std.proofs.lemmas.Simd.{length-chunk, run_in_chunk_fails, run_in_chunk_stops}
use lib.Lanes.{mask_l, chunk}
use Rattle.memchr.specs.Find.{Nowhere, NoneBefore, IsFirst, IsFirstByte, Passes}

at_one : (b : Bool) (bits n l : ℕ) → 0 < cond b 1 0 + 2 * bits → (0 < bits → n < l) → cond (not b) (1 + n) 0 < l + 1
at_one true bits n l some later = omega arith
at_one false bits n l some later = let lt = later (omega arith) in omega arith

-- where a bit is set, fewer lanes than all come before the first
pub stops_within : (p : ℕ → Bool) (xs : List ℕ) → 0 < mask_l (map p xs) → prefix_len (λ x. not (p x)) xs < length xs
stops_within p [] some = absurd (omega arith)
stops_within p (x ∷ xs) some = omega (arith, at_one (p x) (mask_l (map p xs)) (prefix_len (λ y. not (p y)) xs) (length xs) some (stops_within p xs))

-- nowhere in one part, and nowhere in the next
pub nowhere_in_both : (P : ℕ → Type 0) (i j k : ℕ) → Nowhere P i j → Nowhere P j k → Nowhere P i k
nowhere_in_both P i j k first second m low high = elim (cases_lt m j) [ inl lt ↦ first m low lt | inr le ↦ second m le high ]

-- the first in the second part is the first of all
pub first_in_both : (P : ℕ → Type 0) (i j k m : ℕ) (end : ℕ) → i ≤ j → k ≤ end → Nowhere P i j → NoneBefore P j k m → NoneBefore P i end m
first_in_both P i j k m end ordered within first found = record {
  low = omega (arith, ordered, found.low);
  high = omega (arith, within, found.high);
  before = nowhere_in_both P i j m first found.before;
}

-- from the places of the rest to those of the whole
pub rest_passes : (test : ℕ → Bool) (text : List ℕ) (from k : ℕ) → from ≤ k → Passes test text k → Passes test (drop from text) (k - from)
rest_passes test text from k low passes =
    let there : from + (k - from) ≡ k = omega (arith, low) in
    ap test (get_or-drop from text (k - from) 0 ∙ ap (λ (i : ℕ). get_or text i 0) there) ∙ passes

pub first_behind : (test : ℕ → Bool) (text : List ℕ) (from m : ℕ) → from ≤ length text → IsFirstByte test (drop from text) (Some m) → IsFirst (Passes test text) from (length text) (Some (from + m))
first_behind test text from m within found = (
  record {
    low = omega arith;
    high = omega (arith, within, found.0.high, length-drop from text);
    before = λ k low high passes. found.0.before (k - from) (omega arith) (omega (arith, low, high)) (rest_passes test text from k low passes);
  },
  ap test (sym (get_or-drop from text m 0)) ∙ found.1,
)

pub none_behind : (test : ℕ → Bool) (text : List ℕ) (from : ℕ) → from ≤ length text → IsFirstByte test (drop from text) None → IsFirst (Passes test text) from (length text) None
none_behind test text from within none =
    λ k low high passes. none (k - from) (omega arith) (omega (arith, low, high, within, length-drop from text)) (rest_passes test text from k low passes)

-- the first from a place on, where nothing stands before that place
pub first_of_all : (P : ℕ → Type 0) (j end : ℕ) (r : Option ℕ) → Nowhere P 0 j → IsFirst P j end r → IsFirst P 0 end r
first_of_all P j end (Some m) first found = (first_in_both P 0 j end m end (omega arith) (omega arith) first found.0, found.1)
first_of_all P j end None first none = nowhere_in_both P 0 j end first none

-- the first lane that passes, among the sixteen from a place on
pub first_lane : (p : ℕ → Bool) (text : List ℕ) (at r : ℕ) → at + 16 ≤ length text → r ≡ prefix_len (λ x. not (p x)) (chunk at 16 text) → 0 < mask_l (map p (chunk at 16 text)) → NoneBefore (Passes p text) at (at + 16) (at + r) × Passes p text (at + r)
first_lane p text at r room counted some =
    let small : r < 16 = omega (arith, counted, stops_within p (chunk at 16 text) some, length-chunk at 16 text room) in (
      record {
        low = omega arith;
        high = omega (arith, small);
        before = λ k low high passes. false≢true (sym (run_in_chunk_fails p text at 16 r 0 room counted k low high) ∙ passes);
      },
      run_in_chunk_stops p text at 16 r 0 room counted small,
    )
