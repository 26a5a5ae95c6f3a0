use Rattle.xet_demo.specs.Printed.{term_line}
use Rattle.xet_demo.proofs.Printing.{prints_then, prints_nothing}
use Rattle.xet_demo.proofs.print.print_term.Goals as goal

pub returns : goal.returns
unfolding term_line
returns g c =
    let start = rw c.from.ensures at c.put_number.ensures in
    let end = rw c.from-2.ensures at c.put_number-2.ensures in
    let length = rw c.from-3.ensures at c.put_number-3.ensures in
    prints_then c.put.ensures (prints_then c.put_hash.ensures (prints_then c.put-2.ensures (prints_then start (prints_then c.put-3.ensures (prints_then end (prints_then c.put-4.ensures (prints_then length (prints_then c.put-5.ensures (prints_nothing _)))))))))
