use Rattle.std.proofs.Common.{◌≡◌, ◌++◌, List, ℕ, sym, subst}
use Rattle.xet_demo.specs.Pages.{Output, output}
use Rattle.xet_demo.specs.Blocks.{PrintsBlocks}
use Rattle.xet_demo.proofs.Encoding.{blocks_then, blocks_wait}
use Rattle.xet_demo.proofs.print.encoder.Encoder.put_long.Goals as goal

pub returns : goal.returns
returns g c =
    let start : Output = output (g.K.Sink.taken c.args.sink.now) (g.K.Sink.faults c.args.sink.now) c.args.page.now in
    let end : Output = output (g.K.Sink.taken c.put_blocks.new.sink) (g.K.Sink.faults c.put_blocks.new.sink) c.put_blocks.new.page in
    let before : List ℕ = c.args.self.now in
    let first : List ℕ = c.split_at.result.0.now in
    let whole : first ++ c.split_at.result.1.now ≡ c.args.bytes.now = sym c.split_at.ensures.by_index.0 in
    let filled : PrintsBlocks start start before c.add.new.self first = subst (λ (now : List ℕ). PrintsBlocks start start before now first) (sym c.add.ensures) (blocks_wait start before first) in
    subst (λ (t : List ℕ). PrintsBlocks start end before c.put_blocks.new.self t) whole (blocks_then filled (blocks_then c.empty.ensures.prints c.put_blocks.ensures))
