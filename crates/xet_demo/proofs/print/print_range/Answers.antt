use Rattle.xet_demo.specs.Printed.{range_text}
use Rattle.xet_demo.proofs.Printing.{prints_then, prints_nothing}
use Rattle.xet_demo.proofs.print.print_range.Goals as goal

pub returns : goal.returns
unfolding range_text
returns g c =
    let start = rw c.from.ensures at c.put_number.ensures in
    let end = rw c.from-2.ensures at c.put_number-2.ensures in
    prints_then c.put.ensures (prints_then start (prints_then c.put-2.ensures (prints_then end (prints_then c.put-3.ensures (prints_then c.put_number-3.ensures (prints_then c.put-4.ensures (prints_then c.put_number-4.ensures (prints_nothing _))))))))
