use Rattle.xet_demo.proofs.Printing.{prints_then}
use Rattle.xet_demo.proofs.print.summary.print_summary.Goals as goal

pub returns : goal.returns
returns g c =
    let files = rw c.all_files.ensures at c.print_count.ensures in
    let finished = rw c.all_finished.ensures at c.print_count-2.ensures in
    let bytes = rw c.all_bytes.ensures at c.print_count-3.ensures in
    let wire = rw c.all_wire.ensures at c.print_count-4.ensures in
    prints_then (prints_then (prints_then files finished) bytes) wire
