use Rattle.std.proofs.Common.{◌≡◌, ◌+◌, ◌≤◌, ◌++◌, length, map, take, vec_len, vec_capacity}
use Rattle.xet_xorb.proofs.segment.push_from.Given as goal

abbrev pub invariant-loop-index : goal.invariant-loop-index
invariant-loop-index l = record {
  room : vec_len l.indices + length l.others ≤ vec_capacity l.indices + l.index-index;
  items : l.indices.items ≡ l.fn.indices.items ++ map (λ index. l.start + index) (take l.index-index l.others);
}
