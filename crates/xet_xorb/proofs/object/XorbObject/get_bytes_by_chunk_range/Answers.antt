use Rattle.std.proofs.Common.{arith}
use Rattle.xet_xorb.proofs.Offsets.{before_le}
use Rattle.xet_xorb.proofs.object.XorbObject.get_bytes_by_chunk_range.Goals as goal

pub overflow_sub-room : goal.overflow_sub-room
overflow_sub-room c = omega (arith, before_le c.args.self.now.lengths c.args.start c.args.end (omega arith), c.unpacked_before.ensures, c.unpacked_before-2.ensures)
