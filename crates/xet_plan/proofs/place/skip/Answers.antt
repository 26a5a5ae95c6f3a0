use Rattle.std.proofs.Common.{◌≡◌, ◌∙◌, ◌+◌, ◌-◌, ◌/◌, sum, slice_range, arith}
use Rattle.xet_plan.proofs.Lay.{sum-range, sum-range-range, skip_to}
use Rattle.xet_plan.proofs.place.skip.Goals as goal

pub overflow_sub-length : goal.overflow_sub-length
overflow_sub-length c =
    let xs = c.args.object.now.lengths in
    omega (arith, sum-range xs c.loop-start.start (c.loop-start.start + (c.loop-start.past - c.loop-start.start) / 2 + 1) (omega arith))

pub overflow_add-next : goal.overflow_add-next
overflow_add-next c =
    let xs = c.args.object.now.lengths in
    let i = c.loop-start.start in
    let m = i + (c.loop-start.past - i) / 2 in
    omega (arith, sum-range xs i (m + 1) (omega arith), sum-range-range xs i (m + 1) c.args.end (omega arith) (omega arith))

-- the first of them that ends past the place is the middle one, or one before it
pub loop-start-preserved-then-next-clip_start : goal.loop-start-preserved-then-next-clip_start
loop-start-preserved-then-next-clip_start c =
    let xs = c.args.object.now.lengths in
    let i = c.loop-start.start in
    let m = i + (c.loop-start.past - i) / 2 in
    let reached : c.from.result ≡ sum (slice_range xs i (m + 1)) = omega (arith, sum-range xs i (m + 1) (omega arith)) in
    (omega arith, omega arith, omega arith, omega arith, omega arith, λ h. omega arith, c.loop-start.invariant.6)

-- all up to the middle one end by the place
pub loop-start-preserved : goal.loop-start-preserved
loop-start-preserved c =
    let xs = c.args.object.now.lengths in
    let i = c.loop-start.start in
    let m = i + (c.loop-start.past - i) / 2 in
    let past = c.loop-start.past in
    let reached : c.from.result ≡ sum (slice_range xs i (m + 1)) = omega (arith, sum-range xs i (m + 1) (omega arith)) in
    let rest : sum (slice_range xs i (m + 1)) + sum (slice_range xs (m + 1) c.args.end) ≡ sum (slice_range xs i c.args.end) = sum-range-range xs i (m + 1) c.args.end (omega arith) (omega arith) in
    let last : sum (slice_range xs i (m + 1)) + sum (slice_range xs (m + 1) (past + 1)) ≡ sum (slice_range xs i (past + 1)) = sum-range-range xs i (m + 1) (past + 1) (omega arith) (omega arith) in (
      omega arith,
      omega arith,
      omega arith,
      omega arith,
      omega arith,
      λ h. omega (arith, c.loop-start.invariant.5 h),
      λ h clip e. rw reached (skip_to clip h xs i (m + 1) c.args.end c.loop-start.at (omega arith) (omega arith) (omega arith) (omega arith) ∙ c.loop-start.invariant.6 h clip e),
    )
