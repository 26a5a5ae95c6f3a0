use Rattle.std.proofs.Common.{◌≡◌, ◌≤◌, take, Some}
use Rattle.xet_store.specs.StoreModel.{StoreModel}
use Rattle.xet_store.specs.Commands.{with_all_absent}
use Rattle.xet_store.proofs.upload.upload_all.Given as goal

abbrev pub invariant-loop-xorb : goal.invariant-loop-xorb
invariant-loop-xorb g l = record {
  told : (m : StoreModel) → g.C.Client.told l.fn.client ≡ Some m → g.C.Client.told l.client ≡ Some (with_all_absent m (take l.xorb-index l.xorbs));
  later : g.C.Client.faults l.fn.client ≤ g.C.Client.faults l.client;
}
