use Rattle.std.proofs.Common.{◌<◌, ◌-◌, length, drop, arith}
use Rattle.std.proofs.lemmas.List.{length-take, length-drop}
use Rattle.xet_xorb.proofs.ChunkText.{too_short}
use Rattle.xet_xorb.proofs.deserialize.split_chunk.Goals as goal

pub returns-then-rest-length-clause-value : goal.returns-then-rest-length-clause-value
returns-then-rest-length-clause-value c =
    let short : length (drop 8 c.args.content.now) < c.in_ok-length.length = omega (arith, c.if-rest-length.true, length-take (length c.args.content.now - 8) (drop 8 c.args.content.now), length-drop 8 c.args.content.now) in
    too_short c.args.content.now c.in_ok-length.length c.in_ok-length.ensures.value short
