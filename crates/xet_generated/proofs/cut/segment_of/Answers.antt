use Rattle.std.proofs.Common.{◌∙◌, ◌-◌, ℕ, List, length, slice_range, ap, arith}
use Rattle.xet_types.specs.Names.{xorb_name}
use Rattle.xet_xorb.specs.ChunkLists.{joined}
use Rattle.xet_shard.specs.declared.listing.Segment.{Segment}
use Rattle.xet_generated.specs.Terms.{Chunks}
use Rattle.xet_generated.proofs.Pieces.{cut_order, cut_length}
use Rattle.xet_generated.proofs.cut.segment_of.Goals as goal

pub overflow_sub-result : goal.overflow_sub-result
overflow_sub-result c =
    cut_order c.xorb_of-xorb.result.now c.args.term.now.1.0 c.args.term.now.1.1 c.unpacked_before.result c.unpacked_before-2.result (omega (arith, c.requires.some)) c.unpacked_before.ensures c.unpacked_before-2.ensures

pub returns : goal.returns
returns c =
    let t = c.args.term.now in
    let made : List ℕ → ℕ → Segment = λ h n. record { xorb_hash = h; xorb_flags = 0; chunk_index_start = t.1.0; chunk_index_end = t.1.1; unpacked_segment_bytes = n } in
    let name = c.xorb_hash.ensures ∙ ap xorb_name c.xorb_of-xorb.ensures in
    let long = cut_length c.xorb_of-xorb.result.now t.1.0 t.1.1 c.unpacked_before.result c.unpacked_before-2.result (omega (arith, c.requires.some)) c.unpacked_before.ensures c.unpacked_before-2.ensures in
    let cut = ap (λ (cs : Chunks). length (joined (slice_range cs t.1.0 t.1.1))) c.xorb_of-xorb.ensures in
    ap (λ h. made h (c.unpacked_before.result - c.unpacked_before-2.result)) name ∙ ap (made _) (long ∙ cut)
