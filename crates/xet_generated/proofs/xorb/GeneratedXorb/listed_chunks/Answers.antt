use Rattle.std.proofs.Common.{◌≡◌, ◌∙◌, ℕ, ◌+◌, ◌-◌, ◌<◌, List, length, ap, arith}
use Rattle.xet_xorb.specs.Lengths.{unpacked_before}
use Rattle.xet_xorb.specs.Values.{Xorb}
use Rattle.xet_xorb.specs.ChunkLists.{lengths_of}
use Rattle.xet_xorb.proofs.ChunkText.{lengths-length}
use Rattle.xet_generated.proofs.Pieces.{cut_order, hash_at, size_at, listed_more}
use Rattle.xet_generated.proofs.xorb.GeneratedXorb.listed_chunks.Goals as goal

pub overflow_sub-unpacked_before : goal.overflow_sub-unpacked_before
overflow_sub-unpacked_before c =
    let cs = c.args.self.now in
    let k = c.loop-k.k in
    let lens : c.self.inside.object.lengths ≡ lengths_of cs = ap (λ (x : Xorb). x.lengths) c.self.invariant.object ∙ ap lengths_of c.self.view_is in
    let start : c.unpacked_before-start.result ≡ unpacked_before (lengths_of cs) k = c.unpacked_before-start.ensures ∙ ap (λ ns. unpacked_before ns k) lens in
    let end : c.unpacked_before.result ≡ unpacked_before (lengths_of cs) (k + 1) = c.unpacked_before.ensures ∙ ap (λ ns. unpacked_before ns (k + 1)) lens in
    cut_order cs k (k + 1) c.unpacked_before.result c.unpacked_before-start.result (omega arith) end start

pub loop-k-preserved : goal.loop-k-preserved
loop-k-preserved c =
    let cs = c.args.self.now in
    let k = c.loop-k.k in
    let lens : c.self.inside.object.lengths ≡ lengths_of cs = ap (λ (x : Xorb). x.lengths) c.self.invariant.object ∙ ap lengths_of c.self.view_is in
    let start : c.unpacked_before-start.result ≡ unpacked_before (lengths_of cs) k = c.unpacked_before-start.ensures ∙ ap (λ ns. unpacked_before ns k) lens in
    let end : c.unpacked_before.result ≡ unpacked_before (lengths_of cs) (k + 1) = c.unpacked_before.ensures ∙ ap (λ ns. unpacked_before ns (k + 1)) lens in
    let count : c.num_chunks-k-end.result ≡ length cs = c.num_chunks-k-end.ensures.count ∙ ap (λ (ns : List ℕ). length ns) lens ∙ lengths-length cs in
    let inside : k < length cs = omega (arith, c.loop-k-test.true, count) in
    listed_more cs k c.loop-k.listed.items c.push.new.self.items c.index-chunk_hashes-k.result c.unpacked_before-start.result (c.unpacked_before.result - c.unpacked_before-start.result) inside c.loop-k.invariant
    (hash_at cs k c.chunk_hashes.result.now c.index-chunk_hashes-k.result inside c.chunk_hashes.ensures c.index-chunk_hashes-k.is) start (size_at cs k c.unpacked_before.result c.unpacked_before-start.result inside end start) c.in_ok-push.ensures.items
