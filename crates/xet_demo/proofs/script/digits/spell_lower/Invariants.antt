use Rattle.std.proofs.Common.{◌-◌, ◌≡◌, ◌*◌, ◌≤◌, length, take}
use Rattle.hex.specs.Hex.{encode_lower}
use Rattle.xet_demo.proofs.script.digits.spell_lower.Given as goal

abbrev pub invariant-parts : goal.invariant-parts
invariant-parts l = record {
  room : length l.text ≡ 2 * length l.out;
  within : l.at ≤ length l.out;
  spelled : take (2 * l.at) l.text ≡ encode_lower (take l.at l.out);
}

abbrev pub decreases-parts : goal.decreases-parts
decreases-parts l = l.last - l.at
