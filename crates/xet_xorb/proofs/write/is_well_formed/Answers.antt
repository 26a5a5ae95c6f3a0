use Rattle.std.proofs.Common.{◌<◌, ◌≤◌, ◌^◌, ◌+◌, take, subst, refl, sym, arith}
use Rattle.std.proofs.lemmas.Bool.{false≢true}
use Rattle.std.proofs.lemmas.List.Elements.{All-more}
use Rattle.xet_xorb.specs.Lengths.{IsChunkLength, serialized_length}
use Rattle.xet_xorb.specs.ChunkLists.{IsChunk, lengths_of}
use Rattle.xet_xorb.proofs.WellFormed.{false_iff, chunk_of_formed, serialized-more, too_big, is_formed, empty_iff}
use Rattle.xet_xorb.proofs.write.is_well_formed.Goals as goal

pub returns-then-not-is_chunk_length : goal.returns-then-not-is_chunk_length
returns-then-not-is_chunk_length c =
    false_iff (λ formed.
    let chunk = chunk_of_formed c.args.chunks.now c.loop-chunk.chunk-index c.chunk-item.result formed c.loop-chunk-test.true c.chunk-item.is in
    false≢true (c.if-not-is_chunk_length.ensures.1 (subst IsChunkLength (sym c.len.ensures.value) chunk)))

pub returns-then-serialized_length : goal.returns-then-serialized_length
returns-then-serialized_length c =
    let more = serialized-more c.args.chunks.now c.loop-chunk.chunk-index c.chunk-item.result c.loop-chunk-test.true c.chunk-item.is in
    let long : 2 ^ 32 ≤ serialized_length (lengths_of (take (c.loop-chunk.chunk-index + 1) c.args.chunks.now)) = omega (arith, more, c.loop-chunk.invariant.total, c.len-in-loop-chunk.ensures.value, c.if-serialized_length.true) in
    false_iff (too_big c.args.chunks.now (c.loop-chunk.chunk-index + 1) long)

pub loop-chunk-preserved : goal.loop-chunk-preserved
loop-chunk-preserved c =
    let more = serialized-more c.args.chunks.now c.loop-chunk.chunk-index c.chunk-item.result c.loop-chunk-test.true c.chunk-item.is in
    let chunk : IsChunk c.chunk-item.result = subst IsChunkLength c.len.ensures.value (c.if-not-is_chunk_length.ensures.0 refl) in
    record {
      each = All-more IsChunk c.args.chunks.now c.loop-chunk.chunk-index c.chunk-item.result c.loop-chunk-test.true c.loop-chunk.invariant.each (subst IsChunk c.chunk-item.is chunk);
      total = omega (arith, more, c.loop-chunk.invariant.total, c.len-in-loop-chunk.ensures.value);
      short = c.if-serialized_length.false;
    }

pub returns : goal.returns
returns c =
    let short : serialized_length (lengths_of (take c.loop-chunk.chunk-index c.args.chunks.now)) < 2 ^ 32 = omega (arith, c.loop-chunk.invariant.total, c.loop-chunk.invariant.short) in
    empty_iff c.args.chunks.now c.is_empty.result c.is_empty.ensures (is_formed c.args.chunks.now c.loop-chunk.chunk-index c.loop-chunk-test.false c.loop-chunk.invariant.each short)
