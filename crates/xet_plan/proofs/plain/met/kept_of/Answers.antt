use Rattle.std.proofs.Common.{◌≡◌, ◌∙◌, ℕ, ◌+◌, ◌-◌, List, [], ◌∷◌, ◌++◌, length, get_or, take, drop, min, sum, filter, slice_range, ap, sym, arith, append_assoc}
use Rattle.std.proofs.lemmas.List.{append-nil}
use Rattle.std.proofs.lemmas.List.Sums.{sum_by_push}
use Rattle.xet_shard.specs.declared.listing.Segment.{Segment}
use Rattle.xet_plan.specs.Places.{Placed, interval}
use Rattle.xet_plan.specs.MetChunks.{Chunk, chunk, lay, is_met}
use Rattle.xet_plan.proofs.SoFar.{meets-no, meets-yes}
use Rattle.xet_plan.proofs.Lay.{sum_more, sum_range_first}
use Rattle.xet_plan.proofs.Plainly.{range_past, sum_range_le, chunk_passed, chunk_met, span_push}
use Rattle.xet_plan.proofs.plain.met.kept_of.Goals as goal

pub overflow_sub-unpacked_length : goal.overflow_sub-unpacked_length
overflow_sub-unpacked_length c = omega (arith, sum_more c.args.object.now.lengths c.loop-number.number (omega arith))

pub overflow_add-at : goal.overflow_add-at
overflow_add-at c =
    let xs = c.args.object.now.lengths in
    let i = c.loop-number.number in
    let j = c.min-past.result in
    let at : c.args.placed.now.at ≡ c.placed.inside.at = sym (ap (λ (p : Placed). p.at) c.placed.view_is) in
    omega (arith, sum_more xs i (omega arith), sum_range_first xs i j (omega arith) (omega arith), c.loop-number.invariant.places, sum_range_le xs c.args.placed.now.segment.chunk_index_start j, c.num_chunks.ensures.lengths.short)

pub loop-number-preserved-then-max-min : goal.loop-number-preserved-then-max-min
loop-number-preserved-then-max-min c =
    let xs = c.args.object.now.lengths in
    let i = c.loop-number.number in
    let j = c.min-past.result in
    let h = c.args.placed.now.segment.xorb_hash in
    let clip = interval c.args.start c.args.end in
    let x : c.from-at.result ≡ get_or xs i 0 = omega (arith, sum_more xs i (omega arith)) in
    let first : sum (slice_range xs i j) ≡ get_or xs i 0 + sum (slice_range xs (i + 1) j) = sum_range_first xs i j (omega arith) (omega arith) in
    let step = chunk_passed clip h xs i j c.loop-number.at (omega arith) (omega arith) (meets-no c.args.start c.args.end c.loop-number.at (get_or xs i 0) (omega arith)) in
    record {
      places = omega (arith, c.loop-number.invariant.places);
      done = rw x (ap (λ (cs : List Chunk). c.loop-number.kept.items ++ cs) step ∙ c.loop-number.invariant.done);
      short = omega (arith, c.loop-number.invariant.short);
      last = omega (arith, c.loop-number.invariant.last);
    }

pub loop-number-preserved : goal.loop-number-preserved
loop-number-preserved c =
    let xs = c.args.object.now.lengths in
    let i = c.loop-number.number in
    let j = c.min-past.result in
    let h = c.args.placed.now.segment.xorb_hash in
    let at = c.loop-number.at in
    let clip = interval c.args.start c.args.end in
    let kept = c.loop-number.kept.items in
    let n : c.unpacked_before.result - c.unpacked_before-in-loop-number.result ≡ get_or xs i 0 = omega (arith, sum_more xs i (omega arith)) in
    let x : c.from-at.result ≡ get_or xs i 0 = omega arith in
    let one : Chunk = chunk h i at (get_or xs i 0) in
    let rest = filter (is_met clip) (lay h (i + 1) (at + get_or xs i 0) (slice_range xs (i + 1) j)) in
    let first : sum (slice_range xs i j) ≡ get_or xs i 0 + sum (slice_range xs (i + 1) j) = sum_range_first xs i j (omega arith) (omega arith) in
    let step = chunk_met clip h xs i j at (omega arith) (omega arith) (meets-yes c.args.start c.args.end at (get_or xs i 0) (omega arith)) in
    let seg : c.placed.inside.segment ≡ c.args.placed.now.segment = ap (λ (p : Placed). p.segment) c.placed.view_is in
    let items : c.push.new.self.items ≡ kept ++ one ∷ [] =
    c.in_ok-push.ensures.items
    ∙ ap (λ (s : Segment). kept ++ chunk s.xorb_hash i at (c.unpacked_before.result - c.unpacked_before-in-loop-number.result) ∷ []) seg
    ∙ ap (λ (k : ℕ). kept ++ chunk h i at k ∷ []) n in
    record {
      places = omega (arith, c.loop-number.invariant.places);
      done = rw (x, items) (append_assoc kept (one ∷ []) rest ∙ ap (λ (cs : List Chunk). kept ++ cs) step ∙ c.loop-number.invariant.done);
      short = rw items (omega (arith, sum_by_push (λ (c : Chunk). c.length) kept one, c.loop-number.invariant.short));
      last = rw items (span_push kept one c.loop-number.invariant.last);
    }

pub returns-clause-value : goal.returns-clause-value
returns-clause-value c =
    let xs = c.args.object.now.lengths in
    let i = c.loop-number.number in
    let j = c.min-past.result in
    let s = c.args.placed.now.segment in
    let clip = interval c.args.start c.args.end in
    let kept = c.loop-number.kept.items in
    let zero : j - i ≡ 0 = omega arith in
    let none : slice_range xs i j ≡ [] = ap (λ (k : ℕ). take k (drop i xs)) zero in
    let seg : c.placed.inside.segment ≡ s = ap (λ (p : Placed). p.segment) c.placed.view_is in
    let inside : j ≡ min c.placed.inside.segment.chunk_index_end (length xs) = omega arith in
    let end : j ≡ min s.chunk_index_end (length xs) = inside ∙ ap (λ (t : Segment). min t.chunk_index_end (length xs)) seg in
    let all : slice_range xs s.chunk_index_start j ≡ slice_range xs s.chunk_index_start s.chunk_index_end = ap (λ (k : ℕ). slice_range xs s.chunk_index_start k) end ∙ range_past xs s.chunk_index_start s.chunk_index_end in
    sym (append-nil kept)
    ∙ sym (ap (λ (ns : List ℕ). kept ++ filter (is_met clip) (lay s.xorb_hash i c.loop-number.at ns)) none)
    ∙ c.loop-number.invariant.done
    ∙ ap (λ (ns : List ℕ). filter (is_met clip) (lay s.xorb_hash s.chunk_index_start c.args.placed.now.at ns)) all

pub returns-clause-short : goal.returns-clause-short
returns-clause-short c =
    let xs = c.args.object.now.lengths in
    let j = c.min-past.result in
    omega (arith, c.loop-number.invariant.places, c.loop-number.invariant.short, sum_range_le xs c.args.placed.now.segment.chunk_index_start j, c.num_chunks.ensures.lengths.short)
