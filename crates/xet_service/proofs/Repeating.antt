-- Two runs of the same steps from one state have the same replies.
use Rattle.std.proofs.Common.{◌≡◌, ◌∙◌, inl, inr, List, [], ◌∷◌, map, refl, sym, ap, subst}
use Rattle.std.specs.List.{AllByRecursion}
use Rattle.xet_service.specs.declared.step.Step.{Step}
use Rattle.xet_service.specs.declared.reply.Reply.{Reply}
use Rattle.xet_service.specs.declared.reply.Reply.TheVariants.{Uploaded, ShardTaken, NoPlan, Done, Planned, Fetched, Finished, NoShard, ShardBytes, Size, Data, Refused, Hashes, Files, Random, Lazy}
use Rattle.xet_service.specs.declared.reply.Reply.TheVariants as replies
use Rattle.xet_service.specs.World.{State}
use Rattle.xet_service.specs.Steps.{Acts}
use Rattle.xet_service.specs.Runs.{World, world, Event, IsStep, Chain, outcome_of, step_of, reply_of}
use Rattle.xet_service.specs.Determined.{IsNoFailure, IsDetermined}
use Rattle.xet_service.proofs.Keeping.{reply_is, refusal_is}
use Rattle.xet_service.proofs.Determining.{acts_same}

outcome_same : (r x : Reply) → outcome_of r ≡ outcome_of x → r ≡ x
outcome_same r (Uploaded n) e = reply_is r (Uploaded n) e
outcome_same r (ShardTaken b) e = reply_is r (ShardTaken b) e
outcome_same r NoPlan e = reply_is r NoPlan e
outcome_same r Done e = reply_is r Done e
outcome_same r (Planned v n o t l) e = reply_is r (Planned v n o t l) e
outcome_same r (Fetched n l c w k) e = reply_is r (Fetched n l c w k) e
outcome_same r (Finished n b w k) e = reply_is r (Finished n b w k) e
outcome_same r NoShard e = reply_is r NoShard e
outcome_same r (ShardBytes b) e = reply_is r (ShardBytes b) e
outcome_same r (Hashes hs) e = reply_is r (Hashes hs) e
outcome_same r (Files fs) e = reply_is r (Files fs) e
outcome_same r (Random h) e = reply_is r (Random h) e
outcome_same r (Size n) e = reply_is r (Size n) e
outcome_same r (Data b) e = reply_is r (Data b) e
outcome_same r (replies.Batch files links) e = reply_is r (replies.Batch files links) e
outcome_same r (Lazy f n) e = reply_is r (Lazy f n) e
outcome_same r (Refused why) e = refusal_is r why e

-- a step in which the outside doesn't fail was done
did : (e : Event) → IsStep e → IsNoFailure e.reply → Acts e.before.state e.step.at e.step.act (outcome_of e.reply) e.after.state
did e h quiet = elim h.steps.does as (λ _. Acts e.before.state e.step.at e.step.act (outcome_of e.reply) e.after.state) [
  | inl d ↦ d
  | inr f ↦ absurd (quiet f.reply_is)
]

step_same : (e d : Event) → e.before.state ≡ d.before.state → e.step ≡ d.step → IsStep e → IsStep d → IsNoFailure e.reply → IsNoFailure d.reply → (e.reply ≡ d.reply) × (e.after.state ≡ d.after.state)
step_same e d state step h g quiet still =
    let moved : Acts d.before.state d.step.at d.step.act (outcome_of e.reply) e.after.state
    = subst (λ (s : Step). Acts d.before.state s.at s.act (outcome_of e.reply) e.after.state) step (subst (λ (s : State). Acts s e.step.at e.step.act (outcome_of e.reply) e.after.state) state (did e h quiet)) in
    let same = acts_same d.before.state e.after.state d.after.state d.step.at d.step.act (outcome_of e.reply) (outcome_of d.reply) moved (did d g still) in
    (outcome_same e.reply d.reply same.0, same.1)

chains_same : (w v : World) (es ds : List Event) (end last : World) → w.state ≡ v.state → map step_of es ≡ map step_of ds → Chain w es end → Chain v ds last → AllByRecursion IsNoFailure (map reply_of es) → AllByRecursion IsNoFailure (map reply_of ds)
    → (map reply_of es ≡ map reply_of ds) × (end.state ≡ last.state)
chains_same w v [] [] end last state steps h g quiet still = (refl, ap (λ (x : World). x.state) h ∙ state ∙ sym (ap (λ (x : World). x.state) g))
chains_same w v [] (d ∷ ds) end last state steps h g quiet still = absurd cc
chains_same w v (e ∷ es) [] end last state steps h g quiet still = absurd cc
chains_same w v (e ∷ es) (d ∷ ds) end last state steps h g quiet still =
    let head : step_of e ≡ step_of d = cc in
    let tail : map step_of es ≡ map step_of ds = cc in
    let from : e.before.state ≡ d.before.state = ap (λ (x : World). x.state) h.0 ∙ state ∙ sym (ap (λ (x : World). x.state) g.0) in
    let one = step_same e d from head h.1 g.1 quiet.0 still.0 in
    let rest = chains_same e.after d.after es ds end last one.1 tail h.2 g.2 quiet.1 still.1 in
    (ap (λ (r : Reply). r ∷ map reply_of es) one.0 ∙ ap (λ (rs : List Reply). d.reply ∷ rs) rest.0, rest.1)

pub determined : IsDetermined
determined old faults counts fixed fixes steps replies answers events others end last h g quiet still =
    let same = chains_same (world old faults fixed) (world old counts fixes) events others end last refl (sym h.of_steps ∙ g.of_steps) h.chain g.chain (subst (AllByRecursion IsNoFailure) h.of_replies quiet) (subst (AllByRecursion IsNoFailure) g.of_replies still) in
    (h.of_replies ∙ same.0 ∙ sym g.of_replies, same.1)
