use Rattle.std.proofs.Common.{◌≡◌, ◌+◌, ◌-◌, sum, take, slice_range, arith, refl, length}
use Rattle.std.proofs.lemmas.Bool.{lt-ltb, le-leb}
use Rattle.xet_plan.proofs.Lay.{sum-range}
use Rattle.xet_plan.proofs.place.is_agreed.Goals as goal

pub overflow_sub-result : goal.overflow_sub-result
overflow_sub-result c = omega (arith, sum-range c.args.object.now.lengths c.args.segment.now.chunk_index_start c.args.segment.now.chunk_index_end (omega arith))

pub returns : goal.returns
returns c =
    let e : sum (take c.args.segment.now.chunk_index_start c.args.object.now.lengths) + sum (slice_range c.args.object.now.lengths c.args.segment.now.chunk_index_start c.args.segment.now.chunk_index_end) ≡ sum (take c.args.segment.now.chunk_index_end c.args.object.now.lengths)
    = sum-range c.args.object.now.lengths c.args.segment.now.chunk_index_start c.args.segment.now.chunk_index_end (omega arith) in
    let d : c.unpacked_before-end.result - c.unpacked_before-start.result ≡ sum (slice_range c.args.object.now.lengths c.args.segment.now.chunk_index_start c.args.segment.now.chunk_index_end) = omega arith in
    record { nonempty = λ i d l. (c.num_chunks-count.ensures.lengths.each i d l).0; value = rw (d, lt-ltb c.args.segment.now.chunk_index_start c.args.segment.now.chunk_index_end (omega arith), le-leb c.args.segment.now.chunk_index_end (length c.args.object.now.lengths) (omega arith)) refl }
