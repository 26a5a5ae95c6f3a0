use Rattle.std.proofs.Common.{List, ℕ, sym, subst}
use Rattle.xet_demo.specs.Pages.{Output, output}
use Rattle.xet_demo.specs.Blocks.{PrintsBlocks}
use Rattle.xet_demo.proofs.Encoding.{blocks_wait}
use Rattle.xet_demo.proofs.print.encoder.Encoder.put.Goals as goal

pub returns-then-bytes-self : goal.returns-then-bytes-self
returns-then-bytes-self g c =
    let here : Output = output (g.K.Sink.taken c.args.sink.now) (g.K.Sink.faults c.args.sink.now) c.args.page.now in
    subst (λ (now : List ℕ). PrintsBlocks here here c.args.self.now now c.args.bytes.now) (sym c.add.ensures) (blocks_wait here c.args.self.now c.args.bytes.now)
