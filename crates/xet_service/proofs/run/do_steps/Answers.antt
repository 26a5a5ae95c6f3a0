use Rattle.std.proofs.Common.{◌≡◌, ◌≤◌, ◌+◌, ◌++◌, ◌∷◌, [], take, sym, subst}
use Rattle.std.proofs.lemmas.Result.{err_from_is_err_and}
use Rattle.xet_service.specs.declared.reply.Reply.{Reply}
use Rattle.xet_service.specs.World.{State, state}
use Rattle.xet_service.specs.Runs.{Ran, RanInPart, StepsTo}
use Rattle.xet_service.specs.Traces.{sight}
use Rattle.xet_service.proofs.Doing.{leaves_same, leaves_more, leaves_by}
use Rattle.xet_service.proofs.Running.{none_ran, ran_to, none_saw, saw_to, saw_same}
use Rattle.xet_service.proofs.run.do_steps.Goals as goal

pub loop-next-init : goal.loop-next-init
loop-next-init g c =
    let s = c.args.service.now in
    record {
      told = λ m t. leaves_same m (λ n. Ran (state m s.reads s.next) (g.K.Client.faults s.store) [] c.args.replies.now.items c.args.replies.now.items (state n s.reads s.next) (g.K.Client.faults s.store)) (g.K.Client.told s.store) t
          (none_ran (state m s.reads s.next) (g.K.Client.faults s.store) c.args.replies.now.items);
      seen = none_saw (sight s.reads s.next (g.K.Client.faults s.store)) c.args.replies.now.items;
    }

pub returns-in_err-step-clause-told : goal.returns-in_err-step-clause-told
returns-in_err-step-clause-told g c = λ m t.
    let s = c.args.service.now in
    let mid = c.loop-next.service in
    let new = c.step.new.service in
    let old = state m s.reads s.next in
    let faults = g.K.Client.faults s.store in
    let between = g.K.Client.faults mid.store in
    let after = g.K.Client.faults new.store in
    let steps = c.args.steps.now in
    let before = c.args.replies.now.items in
    let so_far = c.loop-next.replies.items in
    let p = err_from_is_err_and c.from_residual.result c.from_residual.ensures.1 in
    rw p.1
    (leaves_by _ (λ n. Ran old faults (take c.loop-next.next-index steps) before so_far (state n mid.reads mid.next) between) (g.K.Client.told mid.store) (c.loop-next.invariant.told m t) (λ k told ran.
    leaves_more (λ n. (c.step.new.replies.items ≡ so_far) × (state n new.reads new.next ≡ state k mid.reads mid.next) × (between ≤ after)) (λ n. RanInPart old faults steps before c.step.new.replies.items (state n new.reads new.next) after) (g.K.Client.told new.store)
    (λ n d. rw d.0 (record {
      done = c.loop-next.next-index;
      not_all = c.loop-next-test.true;
      faults_then = between;
      later = d.2;
      ran = subst (λ (u : State). Ran old faults (take c.loop-next.next-index steps) before so_far u between) (sym d.1) ran;
    }))
    (c.in_err-step.ensures.told k told)))

pub returns-in_err-step-clause-seen : goal.returns-in_err-step-clause-seen
returns-in_err-step-clause-seen g c =
    let s = c.args.service.now in
    let mid = c.loop-next.service in
    let new = c.step.new.service in
    let e = c.in_err-step.ensures.seen in
    let p = err_from_is_err_and c.from_residual.result c.from_residual.ensures.1 in
    rw (p.1, e.0)
    (record {
      done = c.loop-next.next-index;
      not_all = c.loop-next-test.true;
      faults_then = g.K.Client.faults mid.store;
      later = e.3;
      saw = saw_same (sight s.reads s.next (g.K.Client.faults s.store)) (sight mid.reads mid.next (g.K.Client.faults mid.store)) (take c.loop-next.next-index c.args.steps.now) c.args.replies.now.items c.loop-next.replies.items new.reads new.next e.1 e.2 c.loop-next.invariant.seen;
    })

pub loop-next-preserved : goal.loop-next-preserved
loop-next-preserved g c =
    let s = c.args.service.now in
    let mid = c.loop-next.service in
    let new = c.step.new.service in
    let faults = g.K.Client.faults s.store in
    let between = g.K.Client.faults mid.store in
    let after = g.K.Client.faults new.store in
    let steps = c.args.steps.now in
    let before = c.args.replies.now.items in
    let so_far = c.loop-next.replies.items in
    record {
      told = λ m t.
          leaves_by _ (λ n. Ran (state m s.reads s.next) faults (take c.loop-next.next-index steps) before so_far (state n mid.reads mid.next) between) (g.K.Client.told mid.store) (c.loop-next.invariant.told m t) (λ k told ran.
          leaves_more (λ n. (reply : Reply) × (c.step.new.replies.items ≡ so_far ++ reply ∷ []) × StepsTo (state k mid.reads mid.next) between c.next-item.result reply (state n new.reads new.next) after)
          (λ n. Ran (state m s.reads s.next) faults (take (c.loop-next.next-index + 1) steps) before c.step.new.replies.items (state n new.reads new.next) after) (g.K.Client.told new.store)
          (λ n d. rw d.1 (ran_to (state m s.reads s.next) (state k mid.reads mid.next) (state n new.reads new.next) faults between after steps c.loop-next.next-index c.next-item.result d.0 before so_far c.loop-next-test.true c.next-item.is ran d.2))
          (c.in_ok-step.ensures.told k told));
      seen =
          let d = c.in_ok-step.ensures.seen in
          rw d.1
          (saw_to (sight s.reads s.next faults) (sight mid.reads mid.next between) (sight new.reads new.next after) steps c.loop-next.next-index c.next-item.result d.0 before so_far c.loop-next-test.true c.next-item.is c.loop-next.invariant.seen d.2);
    }
