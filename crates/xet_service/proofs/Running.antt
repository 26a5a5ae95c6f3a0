-- A run that goes on by one step.
use Rattle.std.proofs.Common.{◌≡◌, ℕ, ◌+◌, ◌<◌, List, [], ◌∷◌, ◌++◌, length, get_or, take, refl, sym, ap, subst, ◌∙◌, append_assoc}
use Rattle.std.proofs.lemmas.List.{append-nil, take_more, map-append}
use Rattle.xet_service.specs.declared.step.Step.{Step}
use Rattle.xet_service.specs.declared.reply.Reply.{Reply}
use Rattle.xet_service.specs.World.{State, Reads}
use Rattle.xet_service.specs.Runs.{World, world, fixed_after, StepsTo, Event, IsStep, Chain, Ran, step_of, reply_of}
use Rattle.xet_service.specs.Traces.{Sight, sight, IsSeen, Sees, Saw}

-- ---- where the store tells its model

abbrev pub event : World → Step → Reply → World → Event
event before step reply after = record { before = before; step = step; reply = reply; after = after }

chain_more : (w : World) (es : List Event) (mid : World) (e : Event) → Chain w es mid → e.before ≡ mid → IsStep e → Chain w (es ++ e ∷ []) e.after
chain_more w [] mid e c b s = (b ∙ c, s, refl)
chain_more w (d ∷ es) mid e c b s = (c.0, c.1, chain_more d.after es mid e c.2 b s)

pub none_ran : (s : State) (faults : ℕ) (before : List Reply) → Ran s faults [] before before s faults
none_ran s faults before = record { replies = []; appended = sym (append-nil before); run = λ fixed. ([], fixed, record { chain = refl; of_steps = refl; of_replies = refl }) }

module _ (old mid new : State) (faults between faults_after : ℕ) where
  one_more : (done : List Step) (s : Step) (r : Reply) (before after : List Reply) → Ran old faults done before after mid between → StepsTo mid between s r new faults_after → Ran old faults (done ++ s ∷ []) before (after ++ r ∷ []) new faults_after
  one_more done s r before after ran step = record {
    replies = ran.replies ++ r ∷ [];
    appended = ap (λ (rs : List Reply). rs ++ r ∷ []) ran.appended ∙ append_assoc before ran.replies (r ∷ []);
    run = λ fixed.
        let so_far = ran.run fixed in
        let here : World = world mid between so_far.1 in
        let there : World = world new faults_after (fixed_after here s.act) in
        let e : Event = event here s r there in (
          so_far.0 ++ e ∷ [],
          fixed_after here s.act,
          record {
            chain = chain_more (world old faults fixed) so_far.0 here e so_far.2.chain refl (record { steps = step; fixes = refl });
            of_steps = ap (λ (ss : List Step). ss ++ s ∷ []) so_far.2.of_steps ∙ sym (map-append step_of so_far.0 (e ∷ []));
            of_replies = ap (λ (rs : List Reply). rs ++ r ∷ []) so_far.2.of_replies ∙ sym (map-append reply_of so_far.0 (e ∷ []));
          },
        );
  }

  pub ran_to : (steps : List Step) (i : ℕ) (s : Step) (r : Reply) (before after : List Reply) → i < length steps → s ≡ get_or steps i s → Ran old faults (take i steps) before after mid between → StepsTo mid between s r new faults_after
      → Ran old faults (take (i + 1) steps) before (after ++ r ∷ []) new faults_after
  ran_to steps i s r before after lt is ran step =
      let more : take (i + 1) steps ≡ take i steps ++ s ∷ [] = take_more steps i s lt ∙ ap (λ (t : Step). take i steps ++ t ∷ []) (sym is) in
      rw more (one_more (take i steps) s r before after ran step)

-- ---- whatever the store tells

sees_more : (s : Sight) (steps : List Step) (replies : List Reply) (mid : Sight) (step : Step) (reply : Reply) (end : Sight) → Sees s steps replies mid → IsSeen mid step reply end → Sees s (steps ++ step ∷ []) (replies ++ reply ∷ []) end
sees_more s [] [] mid step reply end h seen = (end, (subst (λ (t : Sight). IsSeen t step reply end) h seen, refl))
sees_more s (x ∷ steps) (y ∷ replies) mid step reply end h seen = (h.0, (h.1.0, sees_more h.0 steps replies mid step reply end h.1.1 seen))
sees_more s [] (y ∷ replies) mid step reply end h seen = absurd h
sees_more s (x ∷ steps) [] mid step reply end h seen = absurd h

pub none_saw : (s : Sight) (before : List Reply) → Saw s [] before before s
none_saw s before = record { replies = []; appended = sym (append-nil before); seen = refl }

pub saw_to : (old mid new : Sight) (steps : List Step) (i : ℕ) (s : Step) (r : Reply) (before after : List Reply) → i < length steps → s ≡ get_or steps i s → Saw old (take i steps) before after mid → IsSeen mid s r new
    → Saw old (take (i + 1) steps) before (after ++ r ∷ []) new
saw_to old mid new steps i s r before after lt is saw seen =
    let more : take (i + 1) steps ≡ take i steps ++ s ∷ [] = take_more steps i s lt ∙ ap (λ (t : Step). take i steps ++ t ∷ []) (sym is) in
    rw more (record {
      replies = saw.replies ++ r ∷ [];
      appended = ap (λ (rs : List Reply). rs ++ r ∷ []) saw.appended ∙ append_assoc before saw.replies (r ∷ []);
      seen = sees_more old (take i steps) saw.replies mid s r new saw.seen seen;
    })

-- with the same reads and number
pub saw_same : (old mid : Sight) (steps : List Step) (before after : List Reply) (reads : Reads) (next : ℕ) → reads ≡ mid.reads → next ≡ mid.next → Saw old steps before after mid → Saw old steps before after (sight reads next mid.faults)
saw_same old mid steps before after reads next same number saw =
    subst (λ (r : Reads). Saw old steps before after (sight r next mid.faults)) (sym same) (subst (λ (n : ℕ). Saw old steps before after (sight mid.reads n mid.faults)) (sym number) saw)
