use Rattle.std.proofs.Common.{◌≡◌, map, take}
use Rattle.xet_store.specs.Responses.{descriptor_of}
use Rattle.xet_service.proofs.links.descriptors.Given as goal

abbrev pub invariant-loop-run : goal.invariant-loop-run
invariant-loop-run l = l.ranges.items ≡ map descriptor_of (take l.run-index l.runs)
