use Rattle.xet_demo.specs.Printed.{note_text}
use Rattle.xet_demo.proofs.Printing.{prints_then, prints_nothing}
use Rattle.xet_demo.proofs.print.print_note.Goals as goal

pub returns : goal.returns
unfolding note_text
returns g c =
    let hits = rw c.from.ensures at c.put_number-2.ensures in
    let stored = rw c.from-2.ensures at c.put_number-3.ensures in
    let refused = rw c.cache_word.ensures at c.put-5.ensures in
    prints_then c.put.ensures (prints_then c.put_number.ensures (prints_then c.put-2.ensures (prints_then hits (prints_then c.put-3.ensures (prints_then stored (prints_then c.put-4.ensures (prints_then refused (prints_nothing _))))))))
