use Rattle.xet_wire.proofs.MultipartReads.{line_cut}
use Rattle.xet_wire.proofs.multipart.read.cut_line.Goals as goal

pub returns : goal.returns
returns c = line_cut c.args.text.now c.split_once.result c.split_once.ensures.cases
