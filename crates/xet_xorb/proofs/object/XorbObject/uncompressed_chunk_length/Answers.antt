use Rattle.std.proofs.Common.{ℕ, arith}
use Rattle.std.proofs.lemmas.List.Sums.{sum_by_more}
use Rattle.xet_xorb.proofs.object.XorbObject.uncompressed_chunk_length.Goals as goal

pub overflow_sub-result : goal.overflow_sub-result
overflow_sub-result c = omega (arith, sum_by_more (λ (x : ℕ). x) c.args.self.now.lengths c.args.index 0 (omega arith))
