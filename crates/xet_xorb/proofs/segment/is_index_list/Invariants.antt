use Rattle.std.proofs.Common.{drop}
use Rattle.xet_xorb.specs.JoinedChunks.{RisesTo}
use Rattle.xet_xorb.proofs.segment.is_index_list.Given as goal

abbrev pub invariant-loop-index : goal.invariant-loop-index
invariant-loop-index l = record {
  on : RisesTo 0 l.others l.end → RisesTo l.last (drop l.index-index l.others) l.end;
  back : RisesTo l.last (drop l.index-index l.others) l.end → RisesTo 0 l.others l.end;
}
