use Rattle.std.proofs.Common.{◌≡◌, map, take}
use Rattle.xet_store.specs.Responses.{fetch_info_of}
use Rattle.xet_store.proofs.memory.first.fetch_infos.Given as goal

abbrev pub invariant-loop-run : goal.invariant-loop-run
invariant-loop-run l = l.infos.items ≡ map (fetch_info_of l.at l.hash) (take l.run-index l.runs)
