use Rattle.std.proofs.Common.{◌≡◌, take}
use Rattle.xet_service.specs.Steps.{asked_bytes}
use Rattle.xet_service.proofs.service.asked_bytes.Given as goal

abbrev pub invariant-loop-range : goal.invariant-loop-range
invariant-loop-range l = l.asked.items ≡ asked_bytes (take l.range-index l.ranges)
