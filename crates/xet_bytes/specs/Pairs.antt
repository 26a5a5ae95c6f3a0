-- Values by hash and number, and pairs of hashes.
use Rattle.std.specs.Prelude.{◌≡◌, ℕ, ◌<◌, ◌≤◌, ◌+◌, ◌^◌, List, Option, Some, None, Bool, true, nat_le}
use Rattle.std.specs.Ordering.{nat_cmp, ordering_then}
use Rattle.std.specs.declared.cmp.Ordering.{Ordering}
use Rattle.std.specs.FinMap.{FinMap, get}
use Rattle.xet_types.specs.Names.{hash_cmp}

-- a hash and a number
abbrev pub Pair : Type 0
Pair = List ℕ × ℕ

-- in order of hash, then number
abbrev pub pair_cmp : Pair → Pair → Ordering
pair_cmp a b = ordering_then (hash_cmp a.0 b.0) (nat_cmp a.1 b.1)

-- the hash has no value at the numbers from one up to another, which is excluded
abbrev pub NoneBetween : {V : Type 0} → FinMap pair_cmp V → List ℕ → ℕ → ℕ → Type 0
NoneBetween m hash start end = (n : ℕ) → start ≤ n → n < end → get m (hash, n) ≡ None

-- the greatest number below the end at which the hash has a value, and that value; none where there is no such number
abbrev pub IsLastBelow : {V : Type 0} → FinMap pair_cmp V → List ℕ → ℕ → Option (ℕ × V) → Type 0
IsLastBelow m hash end None = NoneBetween m hash 0 end
IsLastBelow m hash end (Some p) = (p.0 < end) × (get m (hash, p.0) ≡ Some p.1) × NoneBetween m hash (p.0 + 1) end

-- the greatest number of 64 bits at which the hash has a value, and that value; none where it has no value at all
abbrev pub IsLast : {V : Type 0} → FinMap pair_cmp V → List ℕ → Option (ℕ × V) → Type 0
IsLast m hash noted = IsLastBelow m hash (2 ^ 64) noted

-- a note for each hash, which is of its last number
abbrev pub Notes : Type 0 → Type 0
Notes V = FinMap hash_cmp (ℕ × V)

-- the notes are of the last number of each hash
abbrev pub KnowsLast : {V : Type 0} → FinMap pair_cmp V → Notes V → Type 0
KnowsLast m notes = (hash : List ℕ) → IsLast m hash (get notes hash)

-- the notes are of the last number of each hash but one
abbrev pub KnowsLastBut : {V : Type 0} → FinMap pair_cmp V → Notes V → List ℕ → Type 0
KnowsLastBut m notes but = (hash : List ℕ) → (hash ≡ but → ⊥) → IsLast m hash (get notes hash)

-- no number that is noted is above this one
abbrev pub is_at_end : {V : Type 0} → Option (ℕ × V) → ℕ → Bool
is_at_end None n = true
is_at_end (Some p) n = nat_le p.0 n

-- two hashes
abbrev pub TwoHashes : Type 0
TwoHashes = List ℕ × List ℕ

-- in order of the first hash, then the second
abbrev pub hashes_cmp : TwoHashes → TwoHashes → Ordering
hashes_cmp a b = ordering_then (hash_cmp a.0 b.0) (hash_cmp a.1 b.1)
