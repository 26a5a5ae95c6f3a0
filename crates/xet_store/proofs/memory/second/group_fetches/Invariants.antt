use Rattle.std.proofs.Common.{◌≡◌, map, take}
use Rattle.xet_plan.specs.Groups.{items_of}
use Rattle.xet_store.specs.Responses.{ranges_fetch}
use Rattle.xet_store.proofs.memory.second.group_fetches.Given as goal

abbrev pub invariant-loop-group : goal.invariant-loop-group
invariant-loop-group l = l.fetches.items ≡ map (ranges_fetch l.at l.hash) (map items_of (take l.group-index l.groups))
