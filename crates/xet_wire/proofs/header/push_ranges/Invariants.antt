use Rattle.std.proofs.Common.{◌≡◌, ◌++◌, take, drop, string_bytes}
use Rattle.std.specs.List.{All}
use Rattle.xet_wire.specs.Texts.{Fits64, ranges_text, ranges_text_from}
use Rattle.xet_wire.proofs.header.push_ranges.Given as goal

abbrev pub invariant-loop-place : goal.invariant-loop-place
invariant-loop-place l = (string_bytes l.text ++ ranges_text_from l.place (drop l.place l.ranges) ≡ string_bytes l.initial.text ++ ranges_text l.ranges) × All (λ r. Fits64 r) (take l.place l.ranges)
