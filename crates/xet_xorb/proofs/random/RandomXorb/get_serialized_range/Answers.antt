use Rattle.std.proofs.Common.{◌≡◌, ◌∙◌, ◌++◌, ◌+◌, ◌-◌, ℕ, List, length, min, slice_range, ap, arith}
use Rattle.xet_xorb.specs.Lengths.{packed_before}
use Rattle.xet_xorb.specs.Values.{Xorb}
use Rattle.xet_xorb.specs.ChunkLists.{lengths_of}
use Rattle.xet_xorb.specs.XorbBytes.{xorb_bytes}
use Rattle.xet_xorb.specs.Generated.{met_bytes}
use Rattle.xet_xorb.proofs.ChunkText.{lengths-length}
use Rattle.xet_xorb.proofs.Generating.{at_hand}
use Rattle.xet_xorb.proofs.MetRanges.{is_met, length-xorb_bytes}
use Rattle.xet_xorb.proofs.Slices.{clipped}
use Rattle.xet_xorb.proofs.random.RandomXorb.get_serialized_range.Goals as goal

pub overflow_cast-start : goal.overflow_cast-start
overflow_cast-start c = omega (arith, c.if-start-end.false, c.min-end.ensures, c.serialized_length.ensures, length-xorb_bytes c.args.self.now, (at_hand c.self.inside c.args.self.now c.self.invariant c.self.view_is).formed.lengths.short)

pub overflow_cast-end : goal.overflow_cast-end
overflow_cast-end c = omega (arith, c.min-end.ensures, c.serialized_length.ensures, length-xorb_bytes c.args.self.now, (at_hand c.self.inside c.args.self.now c.self.invariant c.self.view_is).formed.lengths.short)

pub slice-requires-clause-in_bounds : goal.slice-requires-clause-in_bounds
slice-requires-clause-in_bounds c =
    let cs = c.args.self.now in
    let first = c.chunk_at-first.result in
    let last = c.chunk_at-last.result in
    let end = c.min-end.result in
    let is : c.self.inside.object.lengths ≡ lengths_of cs = ap (λ (x : Xorb). x.lengths) (at_hand c.self.inside c.args.self.now c.self.invariant c.self.view_is).object in
    let count = ap length is ∙ lengths-length cs in
    let low = ap (λ (ns : List ℕ). packed_before ns first) is in
    let met = is_met cs first last c.args.start end (omega (arith, c.chunk_at-first.ensures.within, count)) (omega (arith, c.chunk_at-last.ensures.within, count)) (omega (arith, c.chunk_at-first.ensures.from, low)) c.if-start-end.false (omega (arith, c.min-end.ensures, c.serialized_length.ensures))
    (λ l. let upto = ap (λ (ns : List ℕ). packed_before ns (last + 1)) is in omega (arith, c.chunk_at-last.ensures.before (omega (arith, l, count)), upto)) in
    let text : c.in_ok-met-2.met ≡ met_bytes cs first last =
    c.in_ok-met-2.ensures.ok ∙ c.in_ok-put_met.ensures ∙ ap (λ (t : List ℕ). t ++ met_bytes cs first last) c.in_ok-met.ensures.items in
    omega (arith, met.fits, ap length text, c.from-before.ensures, c.packed_before.ensures, low)

pub returns : goal.returns
returns c =
    let cs = c.args.self.now in
    let first = c.chunk_at-first.result in
    let last = c.chunk_at-last.result in
    let start = c.args.start in
    let end = c.min-end.result in
    let before = c.from-before.result in
    let is : c.self.inside.object.lengths ≡ lengths_of cs = ap (λ (x : Xorb). x.lengths) (at_hand c.self.inside c.args.self.now c.self.invariant c.self.view_is).object in
    let count = ap length is ∙ lengths-length cs in
    let low = ap (λ (ns : List ℕ). packed_before ns first) is in
    let met = is_met cs first last start end (omega (arith, c.chunk_at-first.ensures.within, count)) (omega (arith, c.chunk_at-last.ensures.within, count)) (omega (arith, c.chunk_at-first.ensures.from, low)) c.if-start-end.false (omega (arith, c.min-end.ensures, c.serialized_length.ensures))
    (λ l. let upto = ap (λ (ns : List ℕ). packed_before ns (last + 1)) is in omega (arith, c.chunk_at-last.ensures.before (omega (arith, l, count)), upto)) in
    let text : c.in_ok-met-2.met ≡ met_bytes cs first last =
    c.in_ok-met-2.ensures.ok ∙ c.in_ok-put_met.ensures ∙ ap (λ (t : List ℕ). t ++ met_bytes cs first last) c.in_ok-met.ensures.items in
    let from : before ≡ packed_before (lengths_of cs) first = c.from-before.ensures ∙ c.packed_before.ensures ∙ low in
    let clip : end ≡ min c.args.end (length (xorb_bytes cs)) = omega (arith, c.min-end.ensures, c.serialized_length.ensures) in
    c.in_ok-slice.ensures.ok
    ∙ ap (λ (t : List ℕ). slice_range t (start - before) (end - before)) text
    ∙ ap (λ (n : ℕ). slice_range (met_bytes cs first last) (start - n) (end - n)) from
    ∙ met.bytes
    ∙ clipped (xorb_bytes cs) start c.args.end start end clip (omega (arith, c.if-start-end.false))
