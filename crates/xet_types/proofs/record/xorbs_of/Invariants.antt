use Rattle.xet_types.specs.Records.{fetches_of}
use Rattle.xet_types.proofs.Rising.{IsMade}
use Rattle.xet_types.proofs.record.xorbs_of.Given as goal

abbrev pub invariant-loop-hash : goal.invariant-loop-hash
invariant-loop-hash l = IsMade fetches_of l.xorbs.entries l.hash-iterator l.fn.fetch_info.entries
