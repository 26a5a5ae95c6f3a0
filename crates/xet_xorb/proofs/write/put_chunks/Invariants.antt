use Rattle.std.proofs.Common.{◌≡◌, ◌++◌, take}
use Rattle.xet_xorb.specs.XorbBytes.{xorb_text}
use Rattle.xet_xorb.proofs.write.put_chunks.Given as goal

abbrev pub invariant-loop-chunk : goal.invariant-loop-chunk
invariant-loop-chunk l = l.out.items ≡ l.fn.out.items ++ xorb_text (take l.chunk-index l.chunks)
