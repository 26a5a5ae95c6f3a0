use Rattle.std.proofs.Common.{◌≡◌, map, take, drop, length}
use Rattle.xet_store.specs.Questions.{any_past, range_bytes}
use Rattle.xet_store.proofs.memory.xorb.StoredXorb.ranges.Given as goal

abbrev pub invariant-loop-range : goal.invariant-loop-range
invariant-loop-range l = record {
  texts : l.texts.items ≡ map (range_bytes l.self) (take l.range-index l.ranges);
  past : any_past (length l.self) (drop l.range-index l.ranges) ≡ any_past (length l.self) l.ranges;
}
