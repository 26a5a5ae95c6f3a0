use Rattle.std.proofs.Common.{length, ap, [], ◌∷◌, arith, length-append}
use Rattle.std.proofs.lemmas.Result.{err_from_is_err_and}
use Rattle.std.specs.Global.{Vec}
use Rattle.xet_shard.specs.Values.{ListedXorb}
use Rattle.xet_bytes.specs.Reading.{times_at}
use Rattle.xet_bytes.proofs.Times.{goes_on, ends, is_done}
use Rattle.xet_shard.specs.ShardReading.{listed_xorb_at}
use Rattle.xet_shard.proofs.read.xorbs.Goals as goal

pub returns-in_err-xorb-clause-value : goal.returns-in_err-xorb-clause-value
returns-in_err-xorb-clause-value c =
    let p = err_from_is_err_and c.from_residual-in_err-xorb.result c.from_residual-in_err-xorb.ensures.1 in
    rw (p.1, p.2) (ends (λ (v : Vec ListedXorb). v.items) (λ (x : ListedXorb). x) c.in_err-xorb.field-0.0 listed_xorb_at c.loop.xorbs.items c.args.count c.loop.counter c.loop.cursor c.xorb.new.cursor c.xorb.new.cursor (times_at c.args.count listed_xorb_at c.args.cursor.now) c.loop-test.true c.in_err-xorb.ensures c.loop.invariant.value)

pub loop-preserved : goal.loop-preserved
loop-preserved c = record {
  value = rw c.in_ok-push.ensures.items (goes_on listed_xorb_at c.loop.xorbs.items c.args.count c.loop.counter c.loop.cursor c.in_ok-xorb.field-0 c.xorb.new.cursor (times_at c.args.count listed_xorb_at c.args.cursor.now) c.loop-test.true c.in_ok-xorb.ensures c.loop.invariant.value);
  count = omega (arith, ap length c.in_ok-push.ensures.items, length-append c.loop.xorbs.items (c.in_ok-xorb.field-0 ∷ []));
}

pub returns-clause-value : goal.returns-clause-value
returns-clause-value c = is_done listed_xorb_at c.loop.xorbs.items c.args.count c.loop.counter c.loop.cursor (times_at c.args.count listed_xorb_at c.args.cursor.now) c.loop-test.false c.loop.invariant.value
