use Rattle.std.proofs.Common.{◌≡◌, take}
use Rattle.std.specs.List.{flat_map}
use Rattle.xet_service.specs.Reading.{held_text}
use Rattle.xet_service.proofs.reader.joined.Given as goal

abbrev pub invariant-loop-held : goal.invariant-loop-held
invariant-loop-held l = l.joined.items ≡ flat_map (held_text l.fn.filled) (take l.held-index l.terms)
