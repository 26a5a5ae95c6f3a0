use Rattle.xet_demo.specs.Printed.{fetched_start}
use Rattle.xet_demo.proofs.Printing.{prints_then, prints_nothing}
use Rattle.xet_demo.proofs.print.print_fetched_start.Goals as goal

pub returns : goal.returns
unfolding fetched_start
returns g c =
    let link = rw c.from.ensures at c.put_number-2.ensures in
    let left = rw c.from-2.ensures at c.put_number-3.ensures in
    prints_then c.put.ensures (prints_then c.put_number.ensures (prints_then c.put-2.ensures (prints_then link (prints_then c.put-3.ensures (prints_then left (prints_then c.put-4.ensures (prints_nothing _)))))))
