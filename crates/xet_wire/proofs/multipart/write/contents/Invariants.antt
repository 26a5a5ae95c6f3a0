use Rattle.std.proofs.Common.{◌≡◌, take, map}
use Rattle.xet_wire.specs.Multipart.{content_of, part_of}
use Rattle.xet_wire.proofs.multipart.write.contents.Given as goal

abbrev pub invariant-loop-part : goal.invariant-loop-part
invariant-loop-part l = l.contents.items ≡ map content_of (map part_of (take l.part-index l.parts))
