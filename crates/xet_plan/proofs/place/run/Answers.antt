use Rattle.std.proofs.Common.{◌≡◌, ◌∙◌, ◌+◌, ◌<◌, sum, take, slice_range, arith, sym, ap, get_or, List, filter, [], ◌++◌}
use Rattle.std.proofs.lemmas.List.{append-nil}
use Rattle.xet_plan.specs.MetChunks.{Chunk, lay, is_met}
use Rattle.xet_plan.proofs.Lay.{sum-range, all_met, sum_range_first, sum_range_last, sum_more, run_more, is_met-yes, none_past, run_past}
use Rattle.xet_plan.proofs.place.run.Goals as goal

pub overflow_sub-length : goal.overflow_sub-length
overflow_sub-length c = omega (arith, sum-range c.args.object.now.lengths c.args.first c.args.end (omega arith))

pub overflow_add-at : goal.overflow_add-at
overflow_add-at c = omega (arith, sum-range c.args.object.now.lengths c.args.first c.args.end (omega arith))

-- all of them lie before the interval's end
pub returns-then-at-from-clause-chunks : goal.returns-then-at-from-clause-chunks
returns-then-at-from-clause-chunks c = λ h clip e o p.
    let xs = c.args.object.now.lengths in
    all_met clip h xs c.args.first c.args.end c.args.at (omega arith) (omega arith) c.requires.nonempty o p (omega (arith, sum-range xs c.args.first c.args.end (omega arith)))

pub loop-last-preserved : goal.loop-last-preserved
loop-last-preserved c =
    let xs = c.args.object.now.lengths in
    let i = c.loop-last.last in
    let more : sum (take (i + 1) xs) ≡ sum (take i xs) + get_or xs i 0 = sum_more xs i (omega arith) in
    let x : c.from-to.result ≡ get_or xs i 0 = omega arith in
    let first : sum (slice_range xs i c.args.end) ≡ get_or xs i 0 + sum (slice_range xs (i + 1) c.args.end) = sum_range_first xs i c.args.end (omega arith) (omega arith) in
    let last : sum (slice_range xs c.args.first (i + 1)) ≡ sum (slice_range xs c.args.first i) + get_or xs i 0 = sum_range_last xs c.args.first i (omega arith) (omega arith) in
    let some : 0 < get_or xs i 0 = c.requires.nonempty i 0 (omega arith) in (
      omega arith,
      omega arith,
      omega arith,
      omega arith,
      λ h clip e o p.
          rw x (run_more clip h xs c.args.first i c.args.end c.args.at c.loop-last.to (omega arith) (omega arith) (omega arith) (omega arith)
          (is_met-yes clip h i c.loop-last.to (get_or xs i 0) some (run_past xs c.args.first i clip.start c.args.at c.loop-last.to (omega arith) (omega arith) (omega arith) (p (omega arith))) (omega arith) o)
          ∙ c.loop-last.invariant.4 h clip e o p),
    )

-- past the interval nothing more meets it
pub returns-else-to-clip_end-clause-chunks : goal.returns-else-to-clip_end-clause-chunks
returns-else-to-clip_end-clause-chunks c = λ h clip e o p.
    let xs = c.args.object.now.lengths in
    let none : filter (is_met clip) (lay h c.loop-last.last c.loop-last.to (slice_range xs c.loop-last.last c.args.end)) ≡ [] = none_past clip h c.loop-last.last c.loop-last.to (slice_range xs c.loop-last.last c.args.end) (omega arith) in
    let front = lay h c.args.first c.args.at (slice_range xs c.args.first c.loop-last.last) in
    sym (c.loop-last.invariant.4 h clip e o p) ∙ ap (λ (cs : List Chunk). front ++ cs) none ∙ append-nil front
