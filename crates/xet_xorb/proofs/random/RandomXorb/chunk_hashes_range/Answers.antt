use Rattle.std.proofs.Common.{◌≡◌, ◌∙◌, map, slice_range, List, ℕ, subst, sym, ap, IfOk}
use Rattle.xet_types.specs.Names.{chunk_hash}
use Rattle.xet_xorb.specs.declared.generate.RandomChunkInfo.{RandomChunkInfo}
use Rattle.xet_xorb.proofs.Slices.{slice_range-map}
use Rattle.xet_xorb.proofs.Generating.{at_hand}
use Rattle.xet_xorb.proofs.random.RandomXorb.chunk_hashes_range.Goals as goal

pub returns : goal.returns
returns c =
    let h = (at_hand c.self.inside c.args.self.now c.self.invariant c.self.view_is) in
    let s = c.args.start in
    let e = c.args.end in
    let items = c.self.inside.chunks.items in
    let part : c.part.result.now ≡ slice_range items s e = c.part.ensures ∙ ap (λ (is : List RandomChunkInfo). slice_range is s e) c.as_slice.ensures.value in
    let is : map (λ (i : RandomChunkInfo). i.hash) c.part.result.now ≡ slice_range (map chunk_hash c.args.self.now) s e =
    ap (map (λ (i : RandomChunkInfo). i.hash)) part ∙ sym (slice_range-map (λ (i : RandomChunkInfo). i.hash) items s e) ∙ ap (λ (t : List (List ℕ)). slice_range t s e) h.hashes in
    subst (λ (t : List (List ℕ)). IfOk c.hashes_of.result (λ hashes. hashes.items ≡ t)) is c.hashes_of.ensures
