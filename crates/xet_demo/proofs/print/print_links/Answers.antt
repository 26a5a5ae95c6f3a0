use Rattle.std.proofs.Common.{rules, List, sym, subst}
use Rattle.xet_service.specs.Links.{LinkModel}
use Rattle.xet_demo.specs.Pages.{Output, Prints, output}
use Rattle.xet_demo.specs.Printed.{links_text}
use Rattle.xet_demo.proofs.Printing.{prints_then}
use Rattle.xet_demo.proofs.print.print_links.Goals as goal

pub loop-link-preserved : goal.loop-link-preserved
loop-link-preserved g c =
    let here : Output = output (g.K.Sink.taken c.loop-link.sink) (g.K.Sink.faults c.loop-link.sink) c.loop-link.page in
    record {
      prints = λ out rest. c.loop-link.invariant.prints out (subst (λ (ls : List LinkModel). Prints here out (links_text c.loop-link.number ls)) (sym c.in-Some.ensures) (prints_then {a = here} c.print_link.ensures rest));
      counted = search rules;
    }
