-- Chunk ranges in order of hash, then chunk.
use Rattle.std.specs.Prelude.{Bool, true, false, ◌&&◌, nat_le, nat_lt, List, [], ◌∷◌}
use Rattle.std.specs.declared.cmp.Ordering.{Ordering}
use Rattle.std.specs.declared.cmp.Ordering.TheVariants.{Less, Equal, Greater}
use Rattle.xet_types.specs.Names.{hash_cmp}
use Rattle.xet_types.specs.declared.record.XorbReconstructionTerm.{XorbReconstructionTerm}
use Rattle.xet_service.specs.declared.reader.held.LinkRange.{LinkRange}

abbrev pub has_chunks : LinkRange → Bool
has_chunks r = nat_lt r.chunks.start r.chunks.end

abbrev pub ends_in : Ordering → LinkRange → LinkRange → Bool
ends_in Less a b = true
ends_in Equal a b = nat_lt a.chunks.end b.chunks.start
ends_in Greater a b = false

-- a's chunks end before b's begin, in order of hash
abbrev pub ends_before : LinkRange → LinkRange → Bool
ends_before a b = ends_in (hash_cmp a.hash b.hash) a b

abbrev pub in_order_after : LinkRange → List LinkRange → Bool
in_order_after r [] = true
in_order_after r (q ∷ qs) = (ends_before r q && has_chunks q) && in_order_after q qs

-- each range has chunks, and they end before those of the next one begin
abbrev pub are_in_order : List LinkRange → Bool
are_in_order [] = true
are_in_order (r ∷ rs) = has_chunks r && in_order_after r rs

abbrev pub begins_in : Ordering → LinkRange → XorbReconstructionTerm → Bool
begins_in Less r t = true
begins_in Equal r t = nat_le r.chunks.start t.range.start
begins_in Greater r t = false

-- the range's chunks begin no later than the term's, in order of hash
abbrev pub begins_by : LinkRange → XorbReconstructionTerm → Bool
begins_by r t = begins_in (hash_cmp r.hash t.hash) r t
