use Rattle.std.proofs.Common.{List, ℕ, sym, subst}
use Rattle.std.proofs.lemmas.Fmt.{decimal_digit}
use Rattle.xet_demo.specs.Pages.{Prints, output}
use Rattle.xet_demo.proofs.print.page.Page.put_number.Goals as goal

pub returns-then-number-lt10 : goal.returns-then-number-lt10
returns-then-number-lt10 g c =
    subst (λ (t : List ℕ). Prints (output (g.K.Sink.taken c.args.sink.now) (g.K.Sink.faults c.args.sink.now) c.args.self.now) (output (g.K.Sink.taken c.put.new.sink) (g.K.Sink.faults c.put.new.sink) c.put.new.self) t) (sym (decimal_digit c.args.number c.if-number-lt10.true)) c.put.ensures
