use Rattle.std.proofs.Common.{◌≡◌, ◌++◌, map, drop}
use Rattle.std.specs.List.{flat_map}
use Rattle.xet_plan.specs.Merging.{ranges_shown}
use Rattle.xet_service.specs.RunLinks.{fresh_groups}
use Rattle.xet_service.proofs.reader.link.fresh_groups.Given as goal

abbrev pub invariant-loop-hash : goal.invariant-loop-hash
invariant-loop-hash l = l.links.items ++ flat_map (fresh_groups l.max) (map ranges_shown (drop l.hash-index l.merged)) ≡ flat_map (fresh_groups l.max) (map ranges_shown l.merged)
