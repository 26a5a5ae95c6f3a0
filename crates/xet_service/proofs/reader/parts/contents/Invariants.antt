use Rattle.std.proofs.Common.{◌≡◌, ◌++◌, map}
use Rattle.xet_wire.specs.Multipart.{content_of}
use Rattle.xet_service.proofs.reader.parts.contents.Given as goal

abbrev pub invariant-loop-part : goal.invariant-loop-part
invariant-loop-part l = l.parts.items ++ map content_of l.part-iterator.rest.items ≡ map content_of l.fn.read.items
