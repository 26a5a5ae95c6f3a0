use Rattle.std.proofs.Common.{◌≡◌, ◌-◌, ◌≤◌, true, length, take}
use Rattle.std.specs.List.{list_all}
use Rattle.std.specs.Char.{is_ascii}
use Rattle.xet_demo.proofs.script.line.is_ascii_text.Given as goal

abbrev pub invariant-parts : goal.invariant-parts
invariant-parts l = record {
  within : l.at ≤ length l.text;
  ascii : list_all is_ascii (take l.at l.text) ≡ true;
}

abbrev pub decreases-parts : goal.decreases-parts
decreases-parts l = l.last - l.at
