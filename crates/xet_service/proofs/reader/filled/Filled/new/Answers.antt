use Rattle.std.proofs.Common.{[]}
use Rattle.xet_service.proofs.ReaderLinks.{filled_past}
use Rattle.xet_service.proofs.reader.filled.Filled.new.Goals as goal

pub returns : goal.returns
returns c = filled_past c.args.links.now []
