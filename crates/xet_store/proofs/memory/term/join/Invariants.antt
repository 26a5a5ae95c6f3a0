use Rattle.std.proofs.Common.{◌≡◌, length, take, vec_len}
use Rattle.xet_xorb.specs.ChunkLists.{lengths_of, joined}
use Rattle.xet_xorb.specs.JoinedChunks.{offsets_of}
use Rattle.xet_store.proofs.memory.term.join.Given as goal

abbrev pub invariant-loop-chunk : goal.invariant-loop-chunk
invariant-loop-chunk l = (l.bytes.items ≡ joined (take l.chunk-index l.chunks)) × (l.offsets.items ≡ offsets_of (lengths_of (take l.chunk-index l.chunks))) × (vec_len l.bytes ≡ length l.bytes.items)
