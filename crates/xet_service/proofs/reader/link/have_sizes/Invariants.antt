use Rattle.std.proofs.Common.{◌≡◌, ◌+◌, map, length, sum}
use Rattle.xet_service.proofs.reader.link.have_sizes.Given as goal

abbrev pub invariant-loop-chunk : goal.invariant-loop-chunk
invariant-loop-chunk l = (length l.fn.chunks + l.count ≡ l.fn.count + length l.walk) × (sum (map length l.fn.chunks) + l.bytes ≡ l.fn.bytes + sum (map length l.walk))

abbrev pub decreases-loop-chunk : goal.decreases-loop-chunk
decreases-loop-chunk l = length l.walk
