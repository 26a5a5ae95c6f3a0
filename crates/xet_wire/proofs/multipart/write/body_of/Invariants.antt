use Rattle.std.proofs.Common.{◌≡◌, take, map}
use Rattle.std.specs.List.{All, flat_map}
use Rattle.xet_types.specs.Ranges.{http_range_of}
use Rattle.xet_wire.specs.Texts.{Fits64}
use Rattle.xet_wire.specs.Multipart.{part_of, part_text}
use Rattle.xet_wire.proofs.multipart.write.body_of.Given as goal

abbrev pub invariant-loop-part : goal.invariant-loop-part
invariant-loop-part l = (l.body.items ≡ flat_map (part_text l.boundary l.total) (map part_of (take l.part-index l.parts))) × All (λ p. Fits64 (http_range_of p.0)) (take l.part-index l.parts)
