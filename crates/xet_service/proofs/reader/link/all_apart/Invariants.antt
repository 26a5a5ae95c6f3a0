use Rattle.std.proofs.Common.{◌≡◌, drop}
use Rattle.xet_service.specs.ReadingPlans.{all_apart}
use Rattle.xet_service.proofs.reader.link.all_apart.Given as goal

abbrev pub invariant-loop-link : goal.invariant-loop-link
invariant-loop-link l = all_apart (drop l.link-index l.links) ≡ all_apart l.links
