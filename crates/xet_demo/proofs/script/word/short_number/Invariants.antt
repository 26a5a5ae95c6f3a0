use Rattle.std.proofs.Common.{◌≡◌, ◌<◌, ◌^◌, take, true}
use Rattle.std.specs.List.{list_all}
use Rattle.std.specs.Char.{is_ascii_digit}
use Rattle.xet_demo.specs.Words.{value_of}
use Rattle.xet_demo.proofs.script.word.short_number.Given as goal

abbrev pub invariant-loop-digit : goal.invariant-loop-digit
invariant-loop-digit l = record {
  digits : list_all is_ascii_digit (take l.digit-index l.word) ≡ true;
  small : l.value < 10 ^ l.digit-index;
  value : l.value ≡ value_of (take l.digit-index l.word);
}
