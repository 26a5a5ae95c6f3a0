use Rattle.std.proofs.Common.{ap, arith}
use Rattle.xet_xorb.specs.Lengths.{serialized_length}
use Rattle.xet_xorb.specs.Values.{Xorb}
use Rattle.xet_xorb.proofs.Generating.{at_hand}
use Rattle.xet_xorb.proofs.MetRanges.{length-xorb_bytes}
use Rattle.xet_xorb.proofs.random.RandomXorb.serialized_length.Goals as goal

pub returns : goal.returns
returns c =
    let is = ap (λ (x : Xorb). serialized_length x.lengths) (at_hand c.self.inside c.args.self.now c.self.invariant c.self.view_is).object in
    omega (arith, c.from.ensures, c.serialized_length.ensures, is, length-xorb_bytes c.args.self.now)
