-- Lists of indices that rise to an end.
use Rattle.std.proofs.Common.{◌≡◌, ℕ, zero, suc, ◌+◌, ◌-◌, ◌^◌, ◌<◌, ◌≤◌, List, [], ◌∷◌, ◌++◌, length, get_or, map, take, drop, All, refl, sym, subst, arith}
use Rattle.std.proofs.lemmas.List.{length-append}
use Rattle.std.proofs.lemmas.List.Elements.{All-take}
use Rattle.xet_xorb.specs.JoinedChunks.{RisesTo, IsIndexList, IsIndexListSoFar, CanAppend, continued}

rises_above : (from : ℕ) (xs : List ℕ) (end : ℕ) → RisesTo from xs end → from ≤ end
rises_above from [] end r = omega (arith, r)
rises_above from (x ∷ xs) end r = omega (arith, r.0, rises_above x xs end r.1)

rises_below : (from : ℕ) (xs : List ℕ) (end : ℕ) → RisesTo from xs end → (k d : ℕ) → k < length xs → get_or xs k d ≤ end
rises_below from [] end r k d lt = absurd (omega (arith, lt))
rises_below from (x ∷ xs) end r zero d lt = rises_above x xs end r.1
rises_below from (x ∷ xs) end r (suc k) d lt = rises_below x xs end r.1 k d (omega (arith, lt))

-- the segment's indices from a start on fit
pub segment_fits : (start : ℕ) (chunk_indices content : List ℕ) → IsIndexList chunk_indices (length content) → start + length content < 2 ^ 32 → All (λ index. start + index < 2 ^ 32) (take (length chunk_indices - 1) (drop 1 chunk_indices))
segment_fits start [] content h short = absurd h
segment_fits start (x ∷ xs) content h short = All-take (λ index. start + index < 2 ^ 32) (length (x ∷ xs) - 1) xs (λ k d lt. omega (arith, rises_below x xs (length content) h.1 k d lt, short))

rises-from : (n from : ℕ) (xs : List ℕ) (end : ℕ) → RisesTo from xs end → RisesTo (n + from) (map (λ x. n + x) xs) (n + end)
rises-from n from [] end r = omega (arith, r)
rises-from n from (x ∷ xs) end r = (omega (arith, r.0), rises-from n x xs end r.1)

rises-append : (from : ℕ) (xs : List ℕ) (mid : ℕ) (ys : List ℕ) (end : ℕ) → RisesTo from xs mid → RisesTo mid ys end → RisesTo from (xs ++ ys) end
rises-append from [] mid ys end r s = subst (λ (k : ℕ). RisesTo k ys end) (sym r) s
rises-append from (x ∷ xs) mid ys end r s = (r.0, rises-append x xs mid ys end r.1 s)

rises-shifted : (n : ℕ) (x : ℕ) (xs : List ℕ) (end : ℕ) → x ≡ 0 → RisesTo x xs end → RisesTo n (map (λ x. n + x) xs) (n + end)
rises-shifted n x xs end z r = subst (λ (k : ℕ). RisesTo k (map (λ x. n + x) xs) (n + end)) (omega (arith, z)) (rises-from n x xs end r)

index-append : (indices : List ℕ) (n : ℕ) (chunk_indices : List ℕ) (m : ℕ) → IsIndexListSoFar indices n → IsIndexList chunk_indices m → IsIndexList (continued indices n chunk_indices) (n + m)
index-append [] n [] m h s = absurd s
index-append [] n (x ∷ xs) m h s = (refl, subst (λ (k : ℕ). RisesTo k (map (λ x. n + x) xs) (n + m)) h (rises-shifted n x xs m s.0 s.1))
index-append (i ∷ is) n [] m h s = absurd s
index-append (i ∷ is) n (x ∷ xs) m h s = (h.0, rises-append i is n (map (λ x. n + x) xs) (n + m) h.1 (rises-shifted n x xs m s.0 s.1))

-- After a segment the indices are those of all that is joined.
pub continued-IsIndexList : (all indices content chunk_indices : List ℕ) → CanAppend all indices content chunk_indices → IsIndexList (continued indices (length all) chunk_indices) (length (all ++ content))
continued-IsIndexList all indices content chunk_indices h =
    subst (IsIndexList (continued indices (length all) chunk_indices)) (sym (length-append all content)) (index-append indices (length all) chunk_indices (length content) h.before h.segment)
