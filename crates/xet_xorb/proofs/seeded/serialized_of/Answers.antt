use Rattle.std.proofs.Common.{◌≡◌, ◌∙◌, ◌++◌, ◌+◌, ◌*◌, ℕ, List, length, map, replicate, ap, sym, arith}
use Rattle.std.proofs.lemmas.List.{length-map, length-replicate}
use Rattle.xet_bytes.specs.Fields.{le32}
use Rattle.xet_types.specs.Names.{chunk_hash}
use Rattle.xet_xorb.specs.Values.{Xorb}
use Rattle.xet_xorb.specs.ChunkLists.{object_of}
use Rattle.xet_xorb.specs.XorbBytes.{xorb_text, footer_bytes}
use Rattle.xet_xorb.specs.Generated.{seeded_chunks, chunk_seeds, stream_of_seed}
use Rattle.xet_xorb.proofs.Footing.{known_of}
use Rattle.xet_xorb.proofs.FooterText.{xorb_written}
use Rattle.xet_xorb.proofs.Generating.{generated_of, length-words, seeded_formed, seeded_sizes}
use Rattle.xet_xorb.proofs.seeded.serialized_of.Goals as goal

pub new-requires-clause-hashes : goal.new-requires-clause-hashes
new-requires-clause-hashes c =
    let seeds : List ℕ = chunk_seeds c.args.seed c.args.count in
    let chunks : List (List ℕ) = seeded_chunks c.args.seed c.args.count c.args.size in
    let hashes : c.put_all_hashed.new.hashes.items ≡ map chunk_hash chunks = c.in_ok-put_all_hashed.ensures.hashes ∙ ap (λ (hs : List (List ℕ)). hs ++ map chunk_hash chunks) c.in_ok-hashes.ensures.items in
    let sizes : c.as_slice.result.now ≡ replicate c.args.count c.args.size = c.as_slice.ensures.value ∙ c.in_ok-sizes.ensures.items_if_clones_equal (λ y e. e) in
    ap length hashes ∙ length-map chunks chunk_hash ∙ length-map seeds _ ∙ length-words c.args.count (stream_of_seed c.args.seed) ∙ sym (length-replicate c.args.count c.args.size) ∙ sym (ap length sizes)

pub returns : goal.returns
returns c =
    let chunks : List (List ℕ) = seeded_chunks c.args.seed c.args.count c.args.size in
    let object : Xorb = c.in_ok-object.object in
    let text : c.put_all_hashed.new.out.items ≡ xorb_text chunks = c.in_ok-put_all_hashed.ensures.text ∙ ap (λ (t : List ℕ). t ++ xorb_text chunks) c.in_ok-out.ensures.items in
    let hashes : c.put_all_hashed.new.hashes.items ≡ map chunk_hash chunks = c.in_ok-put_all_hashed.ensures.hashes ∙ ap (λ (hs : List (List ℕ)). hs ++ map chunk_hash chunks) c.in_ok-hashes.ensures.items in
    let sizes : c.as_slice.result.now ≡ replicate c.args.count c.args.size = c.as_slice.ensures.value ∙ c.in_ok-sizes.ensures.items_if_clones_equal (λ y e. e) in
    let is : object ≡ object_of chunks = known_of object c.put_all_hashed.new.hashes.items c.as_slice.result.now chunks c.in_ok-object.ensures hashes (sizes ∙ sym (seeded_sizes c.args.seed c.args.count c.args.size)) in
    record {
      formed = (seeded_formed c.args.seed c.args.count c.args.size).1 c.requires;
      object = c.object.view_is ∙ is;
      text = c.in_ok-from_vec.ensures.ok ∙ c.in_ok-put_footer.ensures ∙ ap (λ (t : List ℕ). t ++ (footer_bytes object ++ le32 (44 + 40 * length object.lengths))) text ∙ xorb_written chunks object is;
    }
