use Rattle.std.proofs.Common.{◌≡◌, take, sum, ap, arith}
use Rattle.std.proofs.lemmas.List.{take_all}
use Rattle.xet_xorb.specs.Values.{Xorb}
use Rattle.xet_xorb.specs.ChunkLists.{lengths_of}
use Rattle.xet_xorb.proofs.Generating.{at_hand}
use Rattle.xet_xorb.proofs.MetRanges.{length-joined}
use Rattle.xet_xorb.proofs.random.RandomXorb.total_uncompressed_size.Goals as goal

pub returns : goal.returns
returns c =
    let ns = c.self.inside.object.lengths in
    let is : ns ≡ lengths_of c.args.self.now = ap (λ (x : Xorb). x.lengths) (at_hand c.self.inside c.args.self.now c.self.invariant c.self.view_is).object in
    let all : take c.num_chunks.result ns ≡ ns = take_all c.num_chunks.result ns (omega (arith, c.num_chunks.ensures.count)) in
    omega (arith, c.from.ensures, c.unpacked_before.ensures, ap sum all, ap sum is, length-joined c.args.self.now)
