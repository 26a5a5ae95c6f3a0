use Rattle.std.proofs.Common.{◌≡◌, ◌∙◌, ◌++◌, ap, List, ℕ}
use Rattle.std.specs.List.{flat_map}
use Rattle.xet_bytes.specs.Fields.{le32}
use Rattle.xet_xorb.specs.XorbBytes.{footer_mark}
use Rattle.xet_xorb.proofs.FooterText.{footer_written}
use Rattle.xet_xorb.proofs.write.put_footer.Goals as goal

pub returns : goal.returns
returns c =
    let info = c.object.inside.info in
    let mark : c.extend_from_slice.new.self.items ≡ c.args.out.now.items ++ footer_mark = c.in_ok-extend_from_slice.ensures.items in
    let hashes : c.put_hashes.new.out.items ≡ c.put_u32.new.out.items ++ flat_map (λ hash. hash) info.chunk_hashes.items = c.in_ok-put_hashes.ensures ∙ ap (λ (x : List (List ℕ)). c.put_u32.new.out.items ++ flat_map (λ hash. hash) x) c.as_slice.ensures.value in
    let bounds : c.put_numbers.new.out.items ≡ c.put_hashes.new.out.items ++ flat_map le32 info.chunk_boundary_offsets.items = c.in_ok-put_numbers.ensures ∙ ap (λ (x : List ℕ). c.put_hashes.new.out.items ++ flat_map le32 x) c.as_slice-2.ensures.value in
    let ends : c.put_numbers-2.new.out.items ≡ c.put_numbers.new.out.items ++ flat_map le32 info.unpacked_chunk_offsets.items = c.in_ok-put_numbers-2.ensures ∙ ap (λ (x : List ℕ). c.put_numbers.new.out.items ++ flat_map le32 x) c.as_slice-3.ensures.value in
    c.in_ok-put_u32-2.ensures.ok
    ∙ ap (λ (t : List ℕ). t ++ le32 c.object.inside.info_length)
    (ends
    ∙ ap (λ (t : List ℕ). t ++ flat_map le32 info.unpacked_chunk_offsets.items)
    (bounds
    ∙ ap (λ (t : List ℕ). t ++ flat_map le32 info.chunk_boundary_offsets.items)
    (hashes
    ∙ ap (λ (t : List ℕ). t ++ flat_map (λ hash. hash) info.chunk_hashes.items)
    (c.in_ok-put_u32.ensures.ok ∙ ap (λ (t : List ℕ). t ++ le32 info.num_chunks) (c.in_ok-put_hash.ensures.ok ∙ ap (λ (t : List ℕ). t ++ info.xorb_hash) mark)))))
    ∙ footer_written c.object.inside c.args.object.now c.object.invariant c.object.view_is c.args.out.now.items
