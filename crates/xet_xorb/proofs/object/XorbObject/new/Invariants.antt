use Rattle.std.proofs.Common.{◌≡◌, ◌+◌, ◌*◌, ◌++◌, drop, take, sum}
use Rattle.xet_xorb.proofs.Offsets.{ends}
use Rattle.xet_xorb.proofs.object.XorbObject.new.Given as goal

abbrev pub invariant-loop-length : goal.invariant-loop-length
invariant-loop-length l =
    (l.unpacked_chunk_offsets.items ++ ends 0 l.end (drop l.length-index l.lengths) ≡ ends 0 0 l.lengths)
    × (l.chunk_boundary_offsets.items ++ ends 8 l.boundary (drop l.length-index l.lengths) ≡ ends 8 0 l.lengths)
    × (l.end ≡ sum (take l.length-index l.lengths))
    × (l.boundary ≡ l.end + 8 * l.length-index)
