use Rattle.std.proofs.Common.{◌≡◌, ◌++◌, take, map}
use Rattle.std.specs.Prelude.{filter}
use Rattle.xet_shard.specs.Eligible.{is_marked}
use Rattle.xet_shard.proofs.eligible.push_marked.Given as goal

abbrev pub invariant-loop-chunk : goal.invariant-loop-chunk
invariant-loop-chunk l = l.hashes.items ≡ l.fn.hashes.items ++ filter is_marked (map (λ c. c.chunk_hash) (take l.chunk-index l.chunks))
