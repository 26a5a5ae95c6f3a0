use Rattle.xet_demo.specs.Printed.{plan_line}
use Rattle.xet_demo.proofs.Printing.{prints_then, prints_nothing}
use Rattle.xet_demo.proofs.print.print_plan_line.Goals as goal

pub returns : goal.returns
unfolding plan_line
returns g c =
    let version = rw c.version_word.ensures at c.put-3.ensures in
    prints_then c.put.ensures (prints_then c.put_number.ensures (prints_then c.put-2.ensures (prints_then version (prints_then c.put-4.ensures (prints_then c.put_number-2.ensures (prints_then c.put-5.ensures (prints_then c.put_number-3.ensures (prints_then c.put-6.ensures (prints_then c.put_number-4.ensures (prints_then c.put-7.ensures (prints_nothing _)))))))))))
