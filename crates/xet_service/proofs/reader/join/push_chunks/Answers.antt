use Rattle.std.proofs.Common.{◌≡◌, ◌∙◌, ◌++◌, ◌+◌, List, ℕ, ap, sym, take, append_assoc}
use Rattle.std.specs.List.{concat}
use Rattle.xet_service.proofs.Holding.{concat_more}
use Rattle.xet_service.proofs.reader.join.push_chunks.Goals as goal

pub loop-chunk-preserved : goal.loop-chunk-preserved
loop-chunk-preserved c =
    let i = c.loop-chunk.chunk-index in
    let chunks = c.args.chunks.now in
    let chunk = c.chunk-item.result in
    let more : concat (take (i + 1) chunks) ≡ concat (take i chunks) ++ chunk = concat_more chunks i chunk c.loop-chunk-test.true ∙ ap (λ (b : List ℕ). concat (take i chunks) ++ b) (sym c.chunk-item.is) in
    c.in_ok-extend_from_slice.ensures.items ∙ ap (λ (b : List ℕ). c.loop-chunk.out.items ++ b) c.deref.ensures ∙ ap (λ (b : List ℕ). b ++ chunk) c.loop-chunk.invariant
    ∙ append_assoc c.args.out.now.items (concat (take i chunks)) chunk ∙ ap (λ (b : List ℕ). c.args.out.now.items ++ b) (sym more)
