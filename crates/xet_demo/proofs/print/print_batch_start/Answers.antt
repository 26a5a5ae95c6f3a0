use Rattle.xet_demo.specs.Printed.{batch_start}
use Rattle.xet_demo.proofs.Printing.{prints_then, prints_nothing}
use Rattle.xet_demo.proofs.print.print_batch_start.Goals as goal

pub returns : goal.returns
unfolding batch_start
returns g c =
    prints_then c.put.ensures (prints_then c.put_number.ensures (prints_then c.put-2.ensures (prints_then c.put_number-2.ensures (prints_then c.put-3.ensures (prints_nothing _)))))
