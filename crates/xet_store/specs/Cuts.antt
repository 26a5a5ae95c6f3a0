-- Chunks of a stored xorb.
use Rattle.std.specs.Prelude.{ℕ, ◌&&◌, nat_lt, nat_le, List, length, Option, Some, None, Result, Ok, Err, if◌then◌else◌, slice_range}
use Rattle.xet_types.specs.declared.error.Refusal.{Refusal}
use Rattle.xet_types.specs.declared.error.Refusal.TheVariants.{XORBNotFound, InvalidRange}
use Rattle.xet_store.specs.StoreModel.{StoreModel, Chunks, stored}

-- the chunks from start up to end of a chunk list that has them
abbrev pub cut_of_chunks : Chunks → ℕ → ℕ → Result Chunks Refusal
cut_of_chunks chunks start end = if nat_lt start end && nat_le end (length chunks) then Ok (slice_range chunks start end) else Err InvalidRange

abbrev pub cut_in : List ℕ → ℕ → ℕ → Option Chunks → Result Chunks Refusal
cut_in hash start end None = Err (XORBNotFound hash)
cut_in hash start end (Some chunks) = cut_of_chunks chunks start end

-- the same of a xorb, where it is stored
abbrev pub cut_of : StoreModel → List ℕ → ℕ → ℕ → Result Chunks Refusal
cut_of m hash start end = cut_in hash start end (stored m hash)
