use Rattle.xet_store.proofs.Accepting.{accepts_xorb}
use Rattle.xet_store.proofs.memory.MemoryClientClient.upload_xorb.Goals as goal

pub returns-clause-accepts : goal.returns-clause-accepts
returns-clause-accepts c = accepts_xorb c.args.self.now c.args.serialized_xorb_object.hash c.args.serialized_xorb_object.serialized_data c.upload_xorb.result c.upload_xorb.new.self c.upload_xorb.ensures
