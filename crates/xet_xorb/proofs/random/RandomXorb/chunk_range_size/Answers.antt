use Rattle.std.proofs.Common.{◌≡◌, ◌∙◌, ◌+◌, List, ℕ, length, min, slice_range, take, sum, ap, sym, arith}
use Rattle.xet_xorb.specs.Values.{Xorb}
use Rattle.xet_xorb.specs.ChunkLists.{lengths_of, joined}
use Rattle.xet_xorb.proofs.Generating.{at_hand}
use Rattle.xet_xorb.proofs.Joining.{sum-append}
use Rattle.xet_xorb.proofs.Offsets.{before_le}
use Rattle.xet_xorb.proofs.Slices.{clipped, slice_range-map, take_split}
use Rattle.xet_xorb.proofs.MetRanges.{length-joined}
use Rattle.xet_xorb.proofs.random.RandomXorb.chunk_range_size.Goals as goal

pub overflow_sub-unpacked_before : goal.overflow_sub-unpacked_before
overflow_sub-unpacked_before c =
    omega (arith, before_le c.self.inside.object.lengths c.args.start c.min-end.result (omega arith), c.unpacked_before.ensures, c.unpacked_before-2.ensures)

pub returns : goal.returns
returns c =
    let cs = c.args.self.now in
    let s = c.args.start in
    let e = c.min-end.result in
    let ns = c.self.inside.object.lengths in
    let is : ns ≡ lengths_of cs = ap (λ (x : Xorb). x.lengths) (at_hand c.self.inside c.args.self.now c.self.invariant c.self.view_is).object in
    let end : e ≡ min c.args.end (length ns) = omega (arith, c.min-end.ensures, c.num_chunks.ensures.count) in
    let clip : slice_range ns s e ≡ slice_range ns s c.args.end = clipped ns s c.args.end s e end (omega arith) in
    let whole : sum (take e ns) ≡ sum (take s ns) + sum (slice_range ns s e) = ap sum (take_split ns s e (omega arith)) ∙ sum-append (take s ns) (slice_range ns s e) in
    let goes : sum (slice_range ns s e) ≡ length (joined (slice_range cs s c.args.end)) =
    ap sum clip ∙ ap (λ (t : List ℕ). sum (slice_range t s c.args.end)) is ∙ ap sum (slice_range-map length cs s c.args.end) ∙ sym (length-joined (slice_range cs s c.args.end)) in
    omega (arith, c.from.ensures, c.unpacked_before.ensures, c.unpacked_before-2.ensures, whole, goes)
