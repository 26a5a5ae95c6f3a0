use Rattle.xet_service.specs.Reading.{left_link}
use Rattle.xet_service.proofs.ReaderLinks.{given_left}
use Rattle.xet_service.proofs.reader.Reader.accept.Goals as goal

pub put-requires : goal.put-requires
put-requires c = given_left (left_link c.args.self.now.links c.args.link) c.args.content_type.now c.args.body c.in_ok-got.got c.in_ok-got.ensures

pub returns : goal.returns
returns c = (c.in_ok-got.got, (c.in_ok-got.ensures, c.put.ensures))
