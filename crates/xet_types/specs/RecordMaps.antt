-- Entries of maps by hash as values.
use Rattle.std.specs.Prelude.{ℕ, List}
use Rattle.std.specs.Global.{Vec}
use Rattle.std.specs.declared.cmp.Ordering.{Ordering}
use Rattle.xet_types.specs.Names.{hash_cmp}
use Rattle.xet_types.specs.declared.key.HexMerkleHash.{HexMerkleHash}

-- a hash, and a list as the list that it is
abbrev pub listed : {A : Type 0} → (HexMerkleHash × Vec A) → (List ℕ × List A)
listed e = (e.0.0, e.1.items)

-- in order of the hashes
abbrev pub hex_cmp : HexMerkleHash → HexMerkleHash → Ordering
hex_cmp x y = hash_cmp x.0 y.0
