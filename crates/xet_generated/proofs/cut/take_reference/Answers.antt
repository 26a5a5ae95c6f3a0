use Rattle.std.proofs.Common.{◌∙◌, ℕ, List, length, take, ap}
use Rattle.xet_types.specs.Names.{xorb_name}
use Rattle.xet_xorb.specs.ChunkLists.{joined}
use Rattle.xet_shard.specs.declared.listing.Segment.{Segment}
use Rattle.xet_generated.specs.Contents.{TermModel}
use Rattle.xet_generated.specs.Making.{chunks_at, cut_of}
use Rattle.xet_generated.proofs.cut.take_reference.Goals as goal

pub returns-clause-reference : goal.returns-clause-reference
returns-clause-reference c =
    let es = c.args.xorbs.now.entries in
    let t = c.args.term.now in
    let seg = c.segment_of-segment.result in
    let is = c.segment_of-segment.ensures in
    let made : List ℕ → ℕ → ℕ → List ℕ → List (List ℕ) → TermModel = λ h a b bs hs. record { xorb_hash = h; chunk_start = a; chunk_end = b; content = bs; chunk_hashes = hs } in
    let bytes = c.in_ok-content.ensures.front ∙ ap (λ (s : Segment). take s.unpacked_segment_bytes c.args.rest.now) is in
    ap (λ (s : Segment). made s.xorb_hash s.chunk_index_start s.chunk_index_end c.in_ok-content.content c.in_ok-from_slice.field-0.items) is
    ∙ ap (λ bs. made (xorb_name (chunks_at es t.0)) t.1.0 t.1.1 bs c.in_ok-from_slice.field-0.items) bytes
    ∙ ap (made (xorb_name (chunks_at es t.0)) t.1.0 t.1.1 (take (length (joined (cut_of es t))) c.args.rest.now)) (c.in_ok-from_slice.ensures.items ∙ c.hashes_of.ensures)
