use Rattle.std.proofs.Common.{List, ℕ, [], true, take, subst}
use Rattle.xet_demo.specs.Pages.{Prints, WritesFront, PageText, output}
use Rattle.xet_demo.proofs.Printing.{prints_failed}
use Rattle.xet_demo.proofs.print.page.Page.flush.Goals as goal

pub returns-in-Err-clause-prints : goal.returns-in-Err-clause-prints
returns-in-Err-clause-prints g c =
    let old = g.K.Sink.taken c.args.sink.now in
    let new = g.K.Sink.taken c.write_all.new.sink in
    let before = g.K.Sink.faults c.args.sink.now in
    let now = g.K.Sink.faults c.write_all.new.sink in
    let page : PageText = record { text = take c.self.inside.used c.self.inside.bytes.items; failed = c.self.inside.failed } in
    let front = subst (λ (t : List ℕ). WritesFront old new (take c.self.inside.used t)) c.as_slice.ensures.value c.in-Err.ensures.0 in
    let failed = prints_failed old new before now page c.if-self.false front c.in-Err.ensures.1 in
    subst (λ (p : PageText). Prints (output old before p) (output new now (record { text = []; failed = true })) []) c.self.view_is failed
