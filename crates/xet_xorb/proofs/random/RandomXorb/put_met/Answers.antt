use Rattle.std.proofs.Common.{◌≡◌, ◌∙◌, ◌++◌, ◌+◌, ◌<◌, ◌^◌, ℕ, true, List, All, length, slice_range, append_assoc, subst, sym, ap, arith}
use Rattle.std.specs.List.{flat_map}
use Rattle.xet_xorb.specs.declared.generate.RandomChunkInfo.{RandomChunkInfo}
use Rattle.xet_xorb.specs.Values.{Xorb}
use Rattle.xet_xorb.specs.ChunkLists.{object_of}
use Rattle.xet_xorb.specs.XorbBytes.{xorb_text}
use Rattle.xet_xorb.specs.Footers.{tail_bytes}
use Rattle.xet_xorb.specs.Generated.{packed_of_info}
use Rattle.xet_xorb.proofs.ChunkText.{lengths-length}
use Rattle.xet_xorb.proofs.Generating.{at_hand, small_part, packed_text}
use Rattle.xet_xorb.proofs.MetRanges.{met_without, met_with}
use Rattle.xet_xorb.proofs.random.RandomXorb.put_met.Goals as goal

pub put_all_packed-requires : goal.put_all_packed-requires
put_all_packed-requires c =
    let items = c.self.inside.chunks.items in
    let part : c.part-chunks.result.now ≡ slice_range items c.args.first (c.args.last + 1) = c.part-chunks.ensures ∙ ap (λ (is : List RandomChunkInfo). slice_range is c.args.first (c.args.last + 1)) c.as_slice.ensures.value in
    subst (All (λ (i : RandomChunkInfo). i.size < 2 ^ 24)) (sym part) (small_part items c.args.first (c.args.last + 1) c.self.invariant.formed.lengths.each)

pub returns-then-last-num_chunks : goal.returns-then-last-num_chunks
returns-then-last-num_chunks c =
    let cs = c.args.self.now in
    let items = c.self.inside.chunks.items in
    let part : c.part-chunks.result.now ≡ slice_range items c.args.first (c.args.last + 1) = c.part-chunks.ensures ∙ ap (λ (is : List RandomChunkInfo). slice_range is c.args.first (c.args.last + 1)) c.as_slice.ensures.value in
    let count : c.num_chunks.result ≡ length cs = c.num_chunks.ensures.count ∙ ap (λ (x : Xorb). length x.lengths) (at_hand c.self.inside c.args.self.now c.self.invariant c.self.view_is).object ∙ lengths-length cs in
    c.in_ok-put_all_packed.ensures
    ∙ ap (λ (is : List RandomChunkInfo). c.args.out.now.items ++ flat_map packed_of_info is) part
    ∙ ap (λ (t : List ℕ). c.args.out.now.items ++ t) (packed_text items cs c.args.first (c.args.last + 1) c.self.view_is ∙ met_without cs c.args.first c.args.last (omega (arith, count, c.if-last-num_chunks.true)))

pub returns : goal.returns
returns c =
    let cs = c.args.self.now in
    let out = c.args.out.now.items in
    let items = c.self.inside.chunks.items in
    let h = (at_hand c.self.inside c.args.self.now c.self.invariant c.self.view_is) in
    let part : c.part-chunks.result.now ≡ slice_range items c.args.first (c.args.last + 1) = c.part-chunks.ensures ∙ ap (λ (is : List RandomChunkInfo). slice_range is c.args.first (c.args.last + 1)) c.as_slice.ensures.value in
    let count : c.num_chunks.result ≡ length cs = c.num_chunks.ensures.count ∙ ap (λ (x : Xorb). length x.lengths) h.object ∙ lengths-length cs in
    let chunks : c.put_all_packed.new.out.items ≡ out ++ xorb_text (slice_range cs c.args.first (c.args.last + 1)) =
    c.in_ok-put_all_packed.ensures ∙ ap (λ (is : List RandomChunkInfo). out ++ flat_map packed_of_info is) part ∙ ap (λ (t : List ℕ). out ++ t) (packed_text items cs c.args.first (c.args.last + 1) c.self.view_is) in
    c.in_ok-put_footer.ensures
    ∙ ap (λ (x : Xorb). c.put_all_packed.new.out.items ++ tail_bytes true x) h.object
    ∙ ap (λ (t : List ℕ). t ++ tail_bytes true (object_of cs)) chunks
    ∙ append_assoc out (xorb_text (slice_range cs c.args.first (c.args.last + 1))) (tail_bytes true (object_of cs))
    ∙ ap (λ (t : List ℕ). out ++ t) (met_with cs c.args.first c.args.last (omega (arith, count, c.if-last-num_chunks.false)))
