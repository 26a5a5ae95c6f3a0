use Rattle.std.proofs.Common.{length, ap, [], ◌∷◌, arith, length-append}
use Rattle.std.proofs.lemmas.Result.{err_from_is_err_and}
use Rattle.std.specs.Global.{Vec}
use Rattle.xet_shard.specs.declared.listing.ChunkListing.{ChunkListing}
use Rattle.xet_bytes.specs.Reading.{times_at}
use Rattle.xet_bytes.proofs.Times.{goes_on, ends, is_done}
use Rattle.xet_shard.specs.ShardReading.{chunk_at}
use Rattle.xet_shard.proofs.read.chunks.Goals as goal

pub returns-in_err-chunk-clause-value : goal.returns-in_err-chunk-clause-value
returns-in_err-chunk-clause-value c =
    let p = err_from_is_err_and c.from_residual-in_err-chunk.result c.from_residual-in_err-chunk.ensures.1 in
    rw (p.1, p.2) (ends (λ (v : Vec ChunkListing). v.items) (λ (x : ChunkListing). x) c.in_err-chunk.field-0.0 chunk_at c.loop.chunks.items c.args.count c.loop.counter c.loop.cursor c.chunk.new.cursor c.chunk.new.cursor (times_at c.args.count chunk_at c.args.cursor.now) c.loop-test.true c.in_err-chunk.ensures c.loop.invariant.value)

pub loop-preserved : goal.loop-preserved
loop-preserved c = record {
  value = rw c.in_ok-push.ensures.items (goes_on chunk_at c.loop.chunks.items c.args.count c.loop.counter c.loop.cursor c.in_ok-chunk.field-0 c.chunk.new.cursor (times_at c.args.count chunk_at c.args.cursor.now) c.loop-test.true c.in_ok-chunk.ensures c.loop.invariant.value);
  count = omega (arith, ap length c.in_ok-push.ensures.items, length-append c.loop.chunks.items (c.in_ok-chunk.field-0 ∷ []));
}

pub returns-clause-value : goal.returns-clause-value
returns-clause-value c = is_done chunk_at c.loop.chunks.items c.args.count c.loop.counter c.loop.cursor (times_at c.args.count chunk_at c.args.cursor.now) c.loop-test.false c.loop.invariant.value
