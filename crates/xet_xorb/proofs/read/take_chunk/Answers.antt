use Rattle.std.proofs.Common.{◌<◌, length, drop, arith, ap, subst, List, ℕ}
use Rattle.xet_xorb.specs.Steps.{HasHeader}
use Rattle.xet_xorb.proofs.ChunkText.{too_short}
use Rattle.xet_xorb.proofs.read.take_chunk.Goals as goal

pub returns-then-len-length : goal.returns-then-len-length
returns-then-len-length c =
    let header : HasHeader c.args.rest.now c.in_ok-length.length = subst (λ (bytes : List ℕ). HasHeader bytes c.in_ok-length.length) c.as_slice.ensures c.in_ok-length.ensures.value in
    let short : length (drop 8 c.args.rest.now) < c.in_ok-length.length = omega (arith, ap length c.advance.ensures, c.len.ensures.value, c.if-len-length.true) in
    too_short c.args.rest.now c.in_ok-length.length header short
