use Rattle.std.proofs.Common.{List, ℕ, [], sym, subst, ◌∙◌}
use Rattle.std.proofs.lemmas.List.{append-nil}
use Rattle.xet_demo.specs.Pages.{Holds, PageText, output}
use Rattle.xet_demo.specs.Summaries.{report_text}
use Rattle.xet_demo.proofs.Printing.{holds_nothing, all_written, front_written}
use Rattle.xet_demo.proofs.run.write_report.Goals as goal

pub returns-then-has_failed : goal.returns-then-has_failed
returns-then-has_failed g c =
    let start = g.K.Sink.taken c.args.sink.now in
    let before = g.K.Sink.faults c.args.sink.now in
    let last = output (g.K.Sink.taken c.flush.new.sink) (g.K.Sink.faults c.flush.new.sink) c.flush.new.self in
    let text : List ℕ = report_text c.args.report c.args.replies.now in
    let first : Holds start before [] (output start before c.in-Ok.page) = subst (λ (p : PageText). Holds start before [] (output start before p)) (sym c.in-Ok.ensures) (holds_nothing start before) in
    let printed = c.print_report.ensures.holds start before [] first in
    let flushed = c.flush.ensures.prints.holds start before text printed in
    let whole = subst (λ (t : List ℕ). Holds start before t last) (append-nil text) flushed in
    front_written start (g.K.Sink.taken c.flush.new.sink) before (g.K.Sink.faults c.flush.new.sink) text c.flush.new.self whole (sym c.has_failed.ensures ∙ c.if-has_failed.true)

pub returns : goal.returns
returns g c =
    let start = g.K.Sink.taken c.args.sink.now in
    let before = g.K.Sink.faults c.args.sink.now in
    let last = output (g.K.Sink.taken c.flush.new.sink) (g.K.Sink.faults c.flush.new.sink) c.flush.new.self in
    let text : List ℕ = report_text c.args.report c.args.replies.now in
    let first : Holds start before [] (output start before c.in-Ok.page) = subst (λ (p : PageText). Holds start before [] (output start before p)) (sym c.in-Ok.ensures) (holds_nothing start before) in
    let printed = c.print_report.ensures.holds start before [] first in
    let flushed = c.flush.ensures.prints.holds start before text printed in
    let whole = subst (λ (t : List ℕ). Holds start before t last) (append-nil text) flushed in
    all_written start (g.K.Sink.taken c.flush.new.sink) before (g.K.Sink.faults c.flush.new.sink) text c.flush.new.self whole c.flush.ensures.empty (sym c.has_failed.ensures ∙ c.if-has_failed.false)
