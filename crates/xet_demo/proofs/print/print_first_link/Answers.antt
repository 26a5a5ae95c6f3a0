use Rattle.xet_wire.specs.Links.{link_text}
use Rattle.xet_demo.proofs.Printing.{prints_then}
use Rattle.xet_demo.proofs.print.print_first_link.Goals as goal

pub returns : goal.returns
unfolding link_text
returns g c = prints_then (prints_then (prints_then c.put_hash.ensures c.print_behind_colon.ensures) c.print_behind_colon-2.ensures) c.print_behind_colon-3.ensures
