use Rattle.std.proofs.Common.{◌≡◌}
use Rattle.xet_store.specs.Commands.{with_all_absent}
use Rattle.xet_store.specs.Undoing.{without_xorbs}
use Rattle.xet_store.proofs.memory.MemoryClient.put_all_absent.Given as goal

abbrev pub invariant-loop-xorb : goal.invariant-loop-xorb
invariant-loop-xorb l = record {
  put : with_all_absent l.self l.xorb-iterator.rest.items ≡ with_all_absent l.fn.self l.fn.xorbs.items;
  undone : without_xorbs l.self l.added.items ≡ without_xorbs l.fn.self l.fn.added.items;
}
