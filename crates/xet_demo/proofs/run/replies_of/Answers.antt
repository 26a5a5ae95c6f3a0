use Rattle.std.proofs.Common.{◌≡◌, List, [], refl, sym, subst}
use Rattle.xet_service.specs.declared.reply.Reply.{Reply}
use Rattle.xet_service.specs.World.{State, state, start}
use Rattle.xet_service.specs.Runs.{World, world, Event}
use Rattle.xet_service.specs.Runs as runs
use Rattle.xet_service.specs.Headline.{RanKeeping}
use Rattle.xet_service.proofs.Keeping.{none_in_order}
use Rattle.xet_demo.specs.TopCall.{no_bytes}
use Rattle.xet_demo.proofs.Quiet.{quiet_chain}
use Rattle.xet_demo.proofs.run.replies_of.Goals as goal

pub returns : goal.returns
returns c =
    let steps = c.args.steps.now in
    let replies = c.run_steps.new.replies.items in
    let s = c.new-service.result in
    let t = c.run_steps.new.service in
    let end : State = state t.store t.reads t.next in
    let is : state s.store s.reads s.next ≡ start = rw (c.new-service.ensures.store, c.new.ensures, c.new-service.ensures.reads, c.new-service.ensures.next) refl in
    let told : RanKeeping start 0 steps c.in_ok-replies.replies.items replies end 0 = subst (λ (u : State). RanKeeping u 0 steps c.in_ok-replies.replies.items replies end 0) is (c.in_ok-run_steps.ensures.told s.store refl) in
    let ran : RanKeeping start 0 steps [] replies end 0 = subst (λ (rs : List Reply). RanKeeping start 0 steps rs replies end 0) c.in_ok-replies.ensures.items told in
    let here : World = world start 0 no_bytes in
    let found = ran.run no_bytes in
    let events : List Event = found.0 in
    let there : World = world end 0 found.1 in
    record {
      events = events;
      end = there;
      run = subst (λ (rs : List Reply). runs.IsRun here steps rs events there) (sym ran.appended) found.2;
      keeps = found.3.keeps (none_in_order start refl);
      finishes = λ m agreed. found.3.finishes m (record { none_open = refl; agreed = agreed });
      succeeds = λ m agreed. found.3.succeeds m (record { none_open = refl; agreed = agreed });
      readable = found.3.readable (none_in_order start refl);
      quiet = (quiet_chain here events there found.2.chain refl).1;
    }
