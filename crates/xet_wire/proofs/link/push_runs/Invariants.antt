use Rattle.std.proofs.Common.{◌≡◌, ◌++◌, take, drop, string_bytes}
use Rattle.std.specs.Prelude.{map}
use Rattle.std.specs.List.{All}
use Rattle.xet_wire.specs.Texts.{Fits64, ranges_text, ranges_text_from}
use Rattle.xet_wire.specs.Links.{bytes_of}
use Rattle.xet_wire.proofs.link.push_runs.Given as goal

abbrev pub invariant-loop-place : goal.invariant-loop-place
invariant-loop-place l = (string_bytes l.payload ++ ranges_text_from l.place (map bytes_of (drop l.place l.ranges)) ≡ string_bytes l.initial.payload ++ ranges_text (map bytes_of l.ranges)) × All (λ d. Fits64 (bytes_of d)) (take l.place l.ranges)
