use Rattle.std.proofs.Common.{length, ap, [], ◌∷◌, arith, length-append}
use Rattle.std.proofs.lemmas.Result.{err_from_is_err_and}
use Rattle.std.specs.Global.{Vec}
use Rattle.xet_shard.specs.Values.{Listing}
use Rattle.xet_bytes.specs.Reading.{times_at}
use Rattle.xet_bytes.proofs.Times.{goes_on, ends, is_done}
use Rattle.xet_shard.specs.ShardReading.{listing_at}
use Rattle.xet_shard.proofs.read.files.Goals as goal

pub returns-in_err-file-clause-value : goal.returns-in_err-file-clause-value
returns-in_err-file-clause-value c =
    let p = err_from_is_err_and c.from_residual-in_err-file.result c.from_residual-in_err-file.ensures.1 in
    rw (p.1, p.2) (ends (λ (v : Vec Listing). v.items) (λ (x : Listing). x) c.in_err-file.field-0.0 listing_at c.loop.files.items c.args.count c.loop.counter c.loop.cursor c.file.new.cursor c.file.new.cursor (times_at c.args.count listing_at c.args.cursor.now) c.loop-test.true c.in_err-file.ensures c.loop.invariant.value)

pub loop-preserved : goal.loop-preserved
loop-preserved c = record {
  value = rw c.in_ok-push.ensures.items (goes_on listing_at c.loop.files.items c.args.count c.loop.counter c.loop.cursor c.in_ok-file.field-0 c.file.new.cursor (times_at c.args.count listing_at c.args.cursor.now) c.loop-test.true c.in_ok-file.ensures c.loop.invariant.value);
  count = omega (arith, ap length c.in_ok-push.ensures.items, length-append c.loop.files.items (c.in_ok-file.field-0 ∷ []));
}

pub returns-clause-value : goal.returns-clause-value
returns-clause-value c = is_done listing_at c.loop.files.items c.args.count c.loop.counter c.loop.cursor (times_at c.args.count listing_at c.args.cursor.now) c.loop-test.false c.loop.invariant.value
