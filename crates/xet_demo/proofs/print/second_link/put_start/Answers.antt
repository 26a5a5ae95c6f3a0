use Rattle.xet_demo.proofs.Encoding.{blocks_then}
use Rattle.xet_demo.proofs.print.second_link.put_start.Goals as goal

pub returns : goal.returns
returns g c = blocks_then (blocks_then c.put_hash.ensures (blocks_then c.put.ensures c.put_number.ensures)) c.put-2.ensures
