use Rattle.std.proofs.Common.{◌≡◌, ◌≤◌, take, Some, Ok}
use Rattle.xet_store.specs.StoreModel.{StoreModel}
use Rattle.xet_service.specs.Bodies.{CutsStored}
use Rattle.xet_service.proofs.body.fetch_pieces.Given as goal

abbrev pub invariant-loop-range : goal.invariant-loop-range
invariant-loop-range g l = record {
  told : (m : StoreModel) → g.K.Client.told l.fn.store ≡ Some m → CutsStored m l.hash (take l.range-index l.ranges) (Ok l.pieces.items);
  stays : g.K.Client.told l.store ≡ g.K.Client.told l.fn.store;
  later : g.K.Client.faults l.fn.store ≤ g.K.Client.faults l.store;
}
