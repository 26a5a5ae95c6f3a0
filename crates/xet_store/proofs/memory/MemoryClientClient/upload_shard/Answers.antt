use Rattle.xet_store.proofs.Accepting.{accepts_shard}
use Rattle.xet_store.proofs.memory.MemoryClientClient.upload_shard.Goals as goal

pub returns-clause-accepts : goal.returns-clause-accepts
returns-clause-accepts c = accepts_shard c.args.self.now c.args.shard_data c.upload_shard.result c.upload_shard.new.self c.upload_shard.ensures
