use Rattle.std.proofs.Common.{◌≡◌, ◌+◌, ◌∷◌, ◌++◌, ◌∙◌, [], take, refl, sym, ap, append_assoc}
use Rattle.std.proofs.lemmas.List.{flat_map_more, take_more}
use Rattle.xet_types.specs.Names.{sized_chunk}
use Rattle.xet_types.proofs.hash.file_hash_with_salt.Goals as goal

pub loop-hash-preserved : goal.loop-hash-preserved
unfolding sized_chunk
loop-hash-preserved c =
    let chunk = c.loop-hash-item.result in
    let i = c.loop-hash.hash-index in
    let chunks = c.args.chunks.now in
    let held = c.update-in-loop-hash.ensures _ (c.update.ensures _ c.loop-hash.invariant) in
    let more : take (i + 1) chunks ≡ take i chunks ++ chunk ∷ [] = take_more chunks i chunk c.loop-hash-test.true ∙ ap (λ x. take i chunks ++ x ∷ []) (sym c.loop-hash-item.is) in
    let piece : c.as_bytes.result.now ++ c.to_le_bytes.result ≡ sized_chunk chunk = rw (c.as_bytes.ensures.value, c.to_le_bytes.ensures) refl in
    rw (more, ← flat_map_more sized_chunk [] (take i chunks) chunk, ← piece, ← append_assoc) held
