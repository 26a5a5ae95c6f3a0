use Rattle.std.proofs.Common.{◌+◌, ◌<◌, ◌^◌, ap, length, refl, arith}
use Rattle.xet_xorb.specs.JoinedChunks.{CanAppend}
use Rattle.xet_xorb.proofs.Indices.{segment_fits}
use Rattle.xet_xorb.proofs.segment.append_chunk_segment.Goals as goal

pub push_from-requires-clause-fit : goal.push_from-requires-clause-fit
push_from-requires-clause-fit c =
    let can : CanAppend c.as_slice.result.now c.as_slice-2.result.now c.args.content.now c.args.chunk_indices.now = c.if-not-can_append.ensures.0 refl in
    let short : c.len.result + length c.args.content.now < 2 ^ 32 = omega (arith, can.short, c.len.ensures, c.in_ok-reserve.ensures.len, ap length c.as_slice.ensures.value) in
    segment_fits c.len.result c.args.chunk_indices.now c.args.content.now can.segment short
