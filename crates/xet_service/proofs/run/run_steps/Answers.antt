use Rattle.xet_service.specs.World.{state}
use Rattle.xet_service.specs.Runs.{Runs}
use Rattle.xet_service.specs.Headline.{RunsKeeping}
use Rattle.xet_service.proofs.Doing.{leaves_more}
use Rattle.xet_service.proofs.Heading.{runs_keep}
use Rattle.xet_service.proofs.run.run_steps.Goals as goal

pub returns-clause-told : goal.returns-clause-told
returns-clause-told g c = λ m told.
    let s = c.args.service.now in
    let t = c.do_steps.new.service in
    let old = state m s.reads s.next in
    let faults = g.K.Client.faults s.store in
    let after = g.K.Client.faults t.store in
    let steps = c.args.steps.now in
    let before = c.args.replies.now.items in
    let replies = c.do_steps.new.replies.items in
    leaves_more (λ n. Runs old faults steps before c.do_steps.result replies (state n t.reads t.next) after) (λ n. RunsKeeping old faults steps before c.do_steps.result replies (state n t.reads t.next) after) (g.K.Client.told t.store)
    (λ n r. runs_keep old faults steps before c.do_steps.result replies (state n t.reads t.next) after r) (c.do_steps.ensures.told m told)
