use Rattle.std.proofs.Common.{◌≡◌, ◌∙◌, ◌++◌, List, ℕ, slice_range, ap, sym, arith}
use Rattle.std.specs.List.{flat_map}
use Rattle.std.proofs.lemmas.List.Folds.{flat_map-map}
use Rattle.xet_xorb.specs.declared.generate.RandomChunkInfo.{RandomChunkInfo}
use Rattle.xet_xorb.specs.ChunkLists.{joined}
use Rattle.xet_xorb.specs.Generated.{chunk_of_info}
use Rattle.xet_xorb.proofs.Slices.{slice_range-map}
use Rattle.xet_xorb.proofs.random.RandomXorb.get_chunk_range_data.Goals as goal

pub returns : goal.returns
returns c =
    let cs = c.args.self.now in
    let s = c.args.start in
    let e = c.args.end in
    let items = c.self.inside.chunks.items in
    let part : c.part-chunks.result.now ≡ slice_range items s e = c.part-chunks.ensures ∙ ap (λ (is : List RandomChunkInfo). slice_range is s e) c.as_slice.ensures.value in
    let text : flat_map chunk_of_info c.part-chunks.result.now ≡ joined (slice_range cs s e) =
    ap (flat_map chunk_of_info) part ∙ sym (flat_map-map (λ (t : List ℕ). t) chunk_of_info (slice_range items s e)) ∙ ap joined (sym (slice_range-map chunk_of_info items s e) ∙ ap (λ (ds : List (List ℕ)). slice_range ds s e) c.self.view_is) in (
      (omega arith, omega (arith, c.num_chunks.ensures.count)),
      c.in_ok-from_vec.ensures.ok ∙ c.in_ok-put_all_generated.ensures ∙ ap (λ (t : List ℕ). t ++ flat_map chunk_of_info c.part-chunks.result.now) c.in_ok-bytes.ensures.items ∙ text,
    )
