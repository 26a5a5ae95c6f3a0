use Rattle.std.proofs.Common.{◌≡◌, ◌++◌}
use Rattle.xet_types.specs.Records.{fetches_of}
use Rattle.xet_types.proofs.record.fetches_of.Given as goal

abbrev pub invariant-loop-info : goal.invariant-loop-info
invariant-loop-info l = l.fetches.items ++ fetches_of l.info-iterator.rest.items ≡ fetches_of l.fn.infos.items
