use Rattle.std.proofs.Common.{◌≡◌, ltb, take}
use Rattle.std.specs.List.{list_all}
use Rattle.std.specs.Char.{is_ascii}
use Rattle.xet_demo.proofs.script.line.is_ascii_word.Given as goal

abbrev pub invariant-loop-byte : goal.invariant-loop-byte
invariant-loop-byte l = ltb l.greatest 128 ≡ list_all is_ascii (take l.byte-index l.text)
