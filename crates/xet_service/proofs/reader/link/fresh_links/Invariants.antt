use Rattle.std.proofs.Common.{◌≡◌, ◌++◌, map}
use Rattle.xet_types.specs.RecordMaps.{listed}
use Rattle.xet_service.specs.ReadingPlans.{fresh_links}
use Rattle.xet_service.proofs.reader.link.fresh_links.Given as goal

abbrev pub invariant-loop-hash : goal.invariant-loop-hash
invariant-loop-hash l = l.links.items ++ fresh_links (map listed l.hash-iterator) ≡ fresh_links (map listed l.fn.xorbs.entries)
