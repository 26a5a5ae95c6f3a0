use Rattle.std.proofs.Common.{◌≡◌, ◌≤◌, take}
use Rattle.xet_service.specs.Reading.{count_left}
use Rattle.xet_service.proofs.reader.link.count_left.Given as goal

abbrev pub invariant-loop-link : goal.invariant-loop-link
invariant-loop-link l = record {
  count : l.left ≡ count_left (take l.link-index l.links);
  small : l.left ≤ l.link-index;
}
