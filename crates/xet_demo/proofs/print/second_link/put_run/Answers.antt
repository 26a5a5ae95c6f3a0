use Rattle.xet_demo.proofs.Encoding.{blocks_then}
use Rattle.xet_demo.proofs.print.second_link.put_run.Goals as goal

pub returns : goal.returns
returns g c =
    let start = rw c.descriptor.ensures at c.put_number.ensures in
    let end = rw c.descriptor.ensures at c.put_number-2.ensures in
    blocks_then c.put.ensures (blocks_then (blocks_then start c.put-2.ensures) end)
