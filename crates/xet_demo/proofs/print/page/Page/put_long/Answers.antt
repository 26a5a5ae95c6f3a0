use Rattle.std.proofs.Common.{◌≡◌, ◌++◌, List, ℕ, sym, subst}
use Rattle.xet_demo.specs.Pages.{Prints, PageText, output}
use Rattle.xet_demo.proofs.Printing.{prints_then, prints_on_page}
use Rattle.xet_demo.proofs.print.page.Page.put_long.Goals as goal

pub pieces-preserved : goal.pieces-preserved
pieces-preserved g c =
    let taken = g.K.Sink.taken c.pieces.sink in
    let faults = g.K.Sink.faults c.pieces.sink in
    let piece : List ℕ = c.split_at.result.0.now in
    let added : Prints (output taken faults c.pieces.self) (output taken faults c.add.new.self) piece =
    subst (λ (page : PageText). Prints (output taken faults c.pieces.self) (output taken faults page) piece) (sym c.add.ensures) (prints_on_page taken faults c.pieces.self piece) in
    let whole : piece ++ c.split_at.result.1.now ≡ c.pieces.rest.now = sym c.split_at.ensures.by_index.0 in
    record {
      prints = λ out rest. c.pieces.invariant.prints out (subst (λ (t : List ℕ). Prints (output taken faults c.pieces.self) out t) whole (prints_then added (prints_then c.flush-in-pieces.ensures.prints rest)));
      empty = c.flush-in-pieces.ensures.empty;
    }

pub returns : goal.returns
returns g c =
    let taken = g.K.Sink.taken c.pieces.sink in
    let faults = g.K.Sink.faults c.pieces.sink in
    let rest : List ℕ = c.pieces.rest.now in
    c.pieces.invariant.prints (output taken faults c.add-2.new.self)
    (subst (λ (page : PageText). Prints (output taken faults c.pieces.self) (output taken faults page) rest) (sym c.add-2.ensures) (prints_on_page taken faults c.pieces.self rest))
