use Rattle.std.proofs.Common.{◌-◌, ◌<◌, ◌≤◌, length}
use Rattle.memchr.specs.Find.{Nowhere, Passes, is_byte}
use Rattle.xet_demo.proofs.script.places.place_of.Given as goal

abbrev pub invariant-parts : goal.invariant-parts
invariant-parts l = record {
  within : l.at ≤ length l.text;
  near : l.at < 128;
  before : Nowhere (Passes (is_byte l.byte) l.text) 0 l.at;
}

abbrev pub decreases-parts : goal.decreases-parts
decreases-parts l = 128 - l.at
