use Rattle.std.proofs.Common.{◌≡◌, take, Some}
use Rattle.xet_store.specs.StoreModel.{StoreModel}
use Rattle.xet_store.specs.Told.{Leaves}
use Rattle.xet_service.specs.World.{state}
use Rattle.xet_service.specs.Runs.{Ran}
use Rattle.xet_service.specs.Traces.{sight, Saw}
use Rattle.xet_service.proofs.run.do_steps.Given as goal

abbrev pub invariant-loop-next : goal.invariant-loop-next
invariant-loop-next g l = record {
  told : (m : StoreModel) → g.K.Client.told l.fn.service.store ≡ Some m
      → Leaves (λ after. Ran (state m l.fn.service.reads l.fn.service.next) (g.K.Client.faults l.fn.service.store) (take l.next-index l.steps) l.fn.replies.items l.replies.items (state after l.service.reads l.service.next) (g.K.Client.faults l.service.store)) (g.K.Client.told l.service.store);
  seen : Saw (sight l.fn.service.reads l.fn.service.next (g.K.Client.faults l.fn.service.store)) (take l.next-index l.steps) l.fn.replies.items l.replies.items (sight l.service.reads l.service.next (g.K.Client.faults l.service.store));
}
