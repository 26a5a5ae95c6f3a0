use Rattle.std.proofs.Common.{◌≡◌, ◌∙◌, ◌++◌, ◌+◌, List, ℕ, ap, sym, take}
use Rattle.std.specs.List.{concat}
use Rattle.xet_service.specs.Gathering.{Gathered, after_text}
use Rattle.xet_service.proofs.Gathered.{after_both, after_none}
use Rattle.xet_service.proofs.Holding.{concat_more}
use Rattle.xet_service.proofs.reader.gather.Gathering.push_all.Goals as goal

pub loop-chunk-init : goal.loop-chunk-init
loop-chunk-init c = sym (after_none c.args.self.now)

pub loop-chunk-preserved : goal.loop-chunk-preserved
loop-chunk-preserved c =
    let start = c.args.self.now in
    let i = c.loop-chunk.chunk-index in
    let chunks = c.args.chunks.now in
    let chunk = c.chunk-item.result in
    let more : concat (take (i + 1) chunks) ≡ concat (take i chunks) ++ chunk = concat_more chunks i chunk c.loop-chunk-test.true ∙ ap (λ (b : List ℕ). concat (take i chunks) ++ b) (sym c.chunk-item.is) in
    c.in_ok-push.ensures ∙ ap (λ (g : Gathered). after_text g chunk) c.loop-chunk.invariant ∙ after_both start (concat (take i chunks)) chunk ∙ ap (λ (b : List ℕ). after_text start b) (sym more)
