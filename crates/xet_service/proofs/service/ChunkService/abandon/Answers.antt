use Rattle.std.proofs.Common.{refl}
use Rattle.xet_service.specs.World.{state}
use Rattle.xet_service.proofs.Serving.{none_gone, abandons_none}
use Rattle.xet_service.proofs.service.ChunkService.abandon.Goals as goal

pub returns-in_default-clause-abandons : goal.returns-in_default-clause-abandons
returns-in_default-clause-abandons g c = λ m. abandons_none (state m c.args.self.now.reads c.args.self.now.next) c.args.read c.remove.new.self c.in_default.ensures.value c.remove.ensures.removed

pub returns-in_default-clause-kept : goal.returns-in_default-clause-kept
returns-in_default-clause-kept g c = (none_gone c.args.self.now.reads c.remove.new.self c.args.read c.in_default.ensures.value c.remove.ensures.removed, refl)
