use Rattle.std.proofs.Common.{◌≡◌, ◌+◌, drop, map, length, sum}
use Rattle.xet_service.proofs.reader.link.are_long.Given as goal

abbrev pub invariant-loop-chunk : goal.invariant-loop-chunk
invariant-loop-chunk l = sum (map length l.chunks) + l.left ≡ l.bytes + sum (map length (drop l.chunk-index l.chunks))
