use Rattle.std.proofs.Common.{◌≡◌, ◌∙◌, map, subst, sym, ap}
use Rattle.xet_xorb.specs.declared.generate.RandomChunkInfo.{RandomChunkInfo}
use Rattle.xet_xorb.specs.Lengths.{AreLengths}
use Rattle.xet_xorb.specs.Values.{Xorb}
use Rattle.xet_xorb.specs.Generated.{chunk_of_info}
use Rattle.xet_xorb.proofs.Generating.{chunks_of_infos, sizes_of_infos, is_random}
use Rattle.xet_xorb.proofs.random.xorb_of.Goals as goal

pub new-requires-clause-lengths : goal.new-requires-clause-lengths
new-requires-clause-lengths c =
    let ss = c.args.chunk_specs.now in
    let is : c.as_slice-3.result.now ≡ map (λ s. s.1) ss =
    c.as_slice-3.ensures.value ∙ c.in_ok-sizes.ensures ∙ ap (map (λ (i : RandomChunkInfo). i.size)) (c.as_slice-2.ensures.value ∙ c.in_ok-chunks.ensures) ∙ sizes_of_infos ss in
    subst AreLengths (sym is) c.requires

pub invariant_of-result : goal.invariant_of-result
invariant_of-result c =
    is_random c.args.chunk_specs.now c.in_ok-chunks.chunks c.in_ok-object.object c.requires c.in_ok-chunks.ensures
    (ap (λ (x : Xorb). x.hashes) c.in_ok-object.ensures ∙ c.in_ok-hashes.ensures ∙ ap (map (λ (i : RandomChunkInfo). i.hash)) c.as_slice.ensures.value)
    (ap (λ (x : Xorb). x.lengths) c.in_ok-object.ensures ∙ c.as_slice-3.ensures.value ∙ c.in_ok-sizes.ensures ∙ ap (map (λ (i : RandomChunkInfo). i.size)) c.as_slice-2.ensures.value)

pub returns : goal.returns
returns c = ap (map chunk_of_info) c.in_ok-chunks.ensures ∙ chunks_of_infos c.args.chunk_specs.now
