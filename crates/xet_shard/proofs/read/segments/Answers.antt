use Rattle.std.proofs.Common.{length, ap, [], ◌∷◌, arith, length-append}
use Rattle.std.proofs.lemmas.Result.{err_from_is_err_and}
use Rattle.std.specs.Global.{Vec}
use Rattle.xet_shard.specs.declared.listing.Segment.{Segment}
use Rattle.xet_bytes.specs.Reading.{times_at}
use Rattle.xet_bytes.proofs.Times.{goes_on, ends, is_done}
use Rattle.xet_shard.specs.ShardReading.{segment_at}
use Rattle.xet_shard.proofs.read.segments.Goals as goal

pub returns-in_err-segment-clause-value : goal.returns-in_err-segment-clause-value
returns-in_err-segment-clause-value c =
    let p = err_from_is_err_and c.from_residual-in_err-segment.result c.from_residual-in_err-segment.ensures.1 in
    rw (p.1, p.2) (ends (λ (v : Vec Segment). v.items) (λ (x : Segment). x) c.in_err-segment.field-0.0 segment_at c.loop.segments.items c.args.count c.loop.counter c.loop.cursor c.segment.new.cursor c.segment.new.cursor (times_at c.args.count segment_at c.args.cursor.now) c.loop-test.true c.in_err-segment.ensures c.loop.invariant.value)

pub loop-preserved : goal.loop-preserved
loop-preserved c = record {
  value = rw c.in_ok-push.ensures.items (goes_on segment_at c.loop.segments.items c.args.count c.loop.counter c.loop.cursor c.in_ok-segment.field-0 c.segment.new.cursor (times_at c.args.count segment_at c.args.cursor.now) c.loop-test.true c.in_ok-segment.ensures c.loop.invariant.value);
  count = omega (arith, ap length c.in_ok-push.ensures.items, length-append c.loop.segments.items (c.in_ok-segment.field-0 ∷ []));
}

pub returns-clause-value : goal.returns-clause-value
returns-clause-value c = is_done segment_at c.loop.segments.items c.args.count c.loop.counter c.loop.cursor (times_at c.args.count segment_at c.args.cursor.now) c.loop-test.false c.loop.invariant.value
