use Rattle.xet_service.proofs.Serving.{open_there, puts_at}
use Rattle.xet_service.proofs.service.put.Goals as goal

pub replace-requires : goal.replace-requires
replace-requires c = record { present = open_there _ _ _ _ c.replace-open.ensures.put }

pub returns : goal.returns
returns c =
    puts_at c.args.reads.now c.replace-open.new.reads c.replace.new.reads c.args.read c.args.link c.replace-open.result _ c.args.got c.put.new.self c.replace-open.ensures.value c.replace-open.ensures.put c.put.ensures
    c.replace.ensures.put
