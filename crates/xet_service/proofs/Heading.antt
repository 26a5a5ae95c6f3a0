-- What every run keeps.
use Rattle.std.proofs.Common.{ℕ, List, [], take, Result, Ok, Err}
use Rattle.xet_service.specs.declared.step.Step.{Step}
use Rattle.xet_service.specs.declared.reply.Reply.{Reply}
use Rattle.xet_service.specs.World.{State}
use Rattle.xet_service.specs.Runs.{World, world, Event, Chain, Ran, Runs}
use Rattle.xet_service.specs.Headline.{Headline, RanKeeping, RunsKeeping}
use Rattle.xet_service.proofs.Facts.{plan_facts, good_facts}
use Rattle.xet_service.proofs.Keeping.{keeps_chain, order_chain}
use Rattle.xet_service.proofs.Finishing.{finishes, none_good}
use Rattle.xet_service.proofs.Serviced.{run_succeeds}
use Rattle.xet_service.proofs.Readable.{readable_serve}

pub headline : (start : World) (events : List Event) (end : World) → Chain start events end → Headline start events
headline start events end chain = record {
  keeps = keeps_chain plan_facts start events end chain;
  finishes = λ m valid. finishes good_facts start events end chain m valid.none_open valid.agreed;
  succeeds = λ m valid. run_succeeds m start events end chain valid.agreed (none_good m start valid.none_open);
  readable = readable_serve start events end chain;
}

ran_keeps : (old : State) (faults : ℕ) (steps : List Step) (before after : List Reply) (new : State) (faults_after : ℕ) → Ran old faults steps before after new faults_after → RanKeeping old faults steps before after new faults_after
ran_keeps old faults steps before after new faults_after ran = record {
  replies = ran.replies;
  appended = ran.appended;
  run = λ fixed.
      let r = ran.run fixed in
      (r.0, r.1, r.2, headline (world old faults fixed) r.0 (world new faults_after r.1) r.2.chain);
  in_order = λ given.
      let r = ran.run (λ n. []) in
      order_chain plan_facts (world old faults (λ n. [])) r.0 (world new faults_after r.1) r.2.chain given;
}

pub runs_keep : {T E : Type 0} → (old : State) (faults : ℕ) (steps : List Step) (before : List Reply) (result : Result T E) (after : List Reply) (new : State) (faults_after : ℕ) → Runs old faults steps before result after new faults_after
    → RunsKeeping old faults steps before result after new faults_after
runs_keep old faults steps before (Ok x) after new faults_after ran = ran_keeps old faults steps before after new faults_after ran
runs_keep old faults steps before (Err e) after new faults_after part =
    record { done = part.done; not_all = part.not_all; faults_then = part.faults_then; later = part.later; ran = ran_keeps old faults (take part.done steps) before after new part.faults_then part.ran }
