use Rattle.std.proofs.Common.{◌-◌, ◌≡◌, ◌*◌, ◌≤◌, length, take}
use Rattle.hex.specs.Hex.{encode_lower}
use Rattle.xet_demo.proofs.print.digits.spell.Given as goal

abbrev pub invariant-blocks-2 : goal.invariant-blocks-2
invariant-blocks-2 l = record {
  room : length l.out ≡ 2 * length l.bytes;
  within : l.at ≤ length l.bytes;
  put : take (2 * l.at) l.out ≡ encode_lower (take l.at l.bytes);
}

abbrev pub decreases-blocks-2 : goal.decreases-blocks-2
decreases-blocks-2 l = l.last - l.at
