-- Each step keeps what every run keeps.
use Rattle.std.proofs.Common.{◌≡◌, ◌∙◌, ℕ, ◌⊎◌, inl, inr, List, [], ◌∷◌, Option, Some, None, sym, ap, subst}
use Rattle.std.specs.List.{AllByRecursion}
use Rattle.std.specs.Ordering.{nat_cmp}
use Rattle.std.specs.FinMap.{get, get-empty}
use Rattle.xet_types.specs.declared.error.Refusal.{Refusal}
use Rattle.xet_types.specs.declared.error.Refusal.TheVariants.{FormatError, InvalidRange, InvalidArguments, FileNotFound, XORBNotFound, PresignedUrlExpirationError, IOError, Other, InvalidKey, CacheError, HttpStatus}
use Rattle.xet_service.specs.declared.reply.Reply.{Reply}
use Rattle.xet_service.specs.declared.reply.Reply.TheVariants.{Uploaded, ShardTaken, NoPlan, Done, Planned, Fetched, Finished, NoShard, ShardBytes, Size, Data, Refused, Hashes, Files, Random, Lazy}
use Rattle.xet_service.specs.declared.reply.Reply.TheVariants as replies
use Rattle.xet_service.specs.declared.step.Act.TheVariants.{Fetch}
use Rattle.xet_service.specs.declared.read.OpenRead.{OpenRead}
use Rattle.xet_service.specs.World.{State, Reads, IsInOrder}
use Rattle.xet_service.specs.Steps.{Acts}
use Rattle.xet_service.specs.Runs.{World, Event, IsStep, Fails, Chain, outcome_of}
use Rattle.xet_service.specs.Causes.{HasCause, IsAsked, IsLeft}
use Rattle.xet_service.specs.Validity.{NoneOpen}
use Rattle.xet_service.specs.Headline.{Keeps, Brings, Ends, Cause}
use Rattle.xet_service.proofs.Stepping.{PlanFacts, ok_reply, err_why, Kept, IsEnded, act_kept}

abbrev some_read : OpenRead → Option OpenRead
some_read r = Some r

-- ---- replies

pub reply_is : (r x : Reply) → outcome_of r ≡ ok_reply x → r ≡ x
reply_is (Uploaded n) x e = cc
reply_is (ShardTaken b) x e = cc
reply_is NoPlan x e = cc
reply_is Done x e = cc
reply_is (Planned v n o t l) x e = cc
reply_is (Fetched n l c w k) x e = cc
reply_is (Finished n b w k) x e = cc
reply_is NoShard x e = cc
reply_is (ShardBytes b) x e = cc
reply_is (Hashes hs) x e = cc
reply_is (Files fs) x e = cc
reply_is (Random h) x e = cc
reply_is (Size n) x e = cc
reply_is (Data b) x e = cc
reply_is (replies.Batch files links) x e = cc
reply_is (Lazy f n) x e = cc
reply_is (Refused why) x e = absurd cc

pub refusal_is : (r : Reply) (why : Refusal) → outcome_of r ≡ err_why why → r ≡ Refused why
refusal_is (Uploaded n) x e = absurd cc
refusal_is (ShardTaken b) x e = absurd cc
refusal_is NoPlan x e = absurd cc
refusal_is Done x e = absurd cc
refusal_is (Planned v n o t l) x e = absurd cc
refusal_is (Fetched n l c w k) x e = absurd cc
refusal_is (Finished n b w k) x e = absurd cc
refusal_is NoShard x e = absurd cc
refusal_is (ShardBytes b) x e = absurd cc
refusal_is (Hashes hs) x e = absurd cc
refusal_is (Files fs) x e = absurd cc
refusal_is (Random h) x e = absurd cc
refusal_is (Size n) x e = absurd cc
refusal_is (Data b) x e = absurd cc
refusal_is (replies.Batch files links) x e = absurd cc
refusal_is (Lazy f n) x e = absurd cc
refusal_is (Refused why) x e = cc

-- ---- a step that was done

-- no act is refused with the outside's failure
cause_of : (e : Event) (why : Refusal) → HasCause e.before.state e.step.at e.step.act why → Cause e why
cause_of e (FormatError f) h = h
cause_of e InvalidRange h = h
cause_of e InvalidArguments h = h
cause_of e (FileNotFound f) h = h
cause_of e (XORBNotFound f) h = h
cause_of e PresignedUrlExpirationError h = h
cause_of e IOError h = absurd h
cause_of e Other h = h
cause_of e InvalidKey h = h
cause_of e CacheError h = h
cause_of e (HttpStatus n) h = h

module _ (facts : PlanFacts) (e : Event) where
  ends : (read link : ℕ) → IsLeft e.after.state read link ⊎ IsEnded e.step.act read link (outcome_of e.reply) → IsLeft e.after.state read link ⊎ Ends e read link
  ends read link (inl l) = inl l
  ends read link (inr (inl b)) = inr (inl (b.0, subst (Brings read link) (sym (reply_is e.reply b.1.0 b.1.1)) b.1.2))
  ends read link (inr (inr b)) = inr (inr (b.0, reply_is e.reply Done b.1))

  done_keeps : Acts e.before.state e.step.at e.step.act (outcome_of e.reply) e.after.state → IsInOrder e.before.state → Keeps e × IsInOrder e.after.state
  done_keeps h o =
      let k : Kept e.before.state e.step.at e.step.act (outcome_of e.reply) e.after.state = act_kept facts e.before.state e.step.at e.step.act (outcome_of e.reply) e.after.state h o in (
        record {
          links = λ version file range read of offset terms ls a r. k.links version file range read of offset terms ls a (ap outcome_of r);
          refused = λ why r. k.refused why (ap outcome_of r);
          cause = λ why r. cause_of e why (k.cause why (ap outcome_of r));
          no_plan = λ r. k.no_plan (ap outcome_of r);
          left = λ read link l. ends read link (k.left read link l);
          gone = λ read link a g. refusal_is e.reply InvalidArguments (k.gone read link a g);
        },
        k.in_order,
      )

  -- a fetch of a link that isn't left asks no outside
  not_asked : (read link : ℕ) → e.step.act ≡ Fetch read link → IsAsked e.before.state e.step.at e.step.act → IsLeft e.before.state read link
  not_asked read link a h = (subst (IsAsked e.before.state e.step.at) a h).0

  fails_keeps : Fails e.before.state e.before.faults e.step e.reply e.after.state e.after.faults → IsInOrder e.before.state → Keeps e × IsInOrder e.after.state
  fails_keeps h o = (
    record {
      links = λ version file range read of offset terms ls a r. absurd (let f : ◌≡◌ {A = Reply} (Refused IOError) (Planned of read offset terms ls) = sym h.reply_is ∙ r in cc);
      refused = λ why r. h.same;
      cause = λ why r. let f : ◌≡◌ {A = Reply} (Refused IOError) (Refused why) = sym h.reply_is ∙ r in let same : IOError ≡ why = cc in subst (Cause e) same h.rose;
      no_plan = λ r. absurd (let f : ◌≡◌ {A = Reply} (Refused IOError) NoPlan = sym h.reply_is ∙ r in cc);
      left = λ read link l. inl (subst (λ (s : State). IsLeft s read link) (sym h.same) l);
      gone = λ read link a g. absurd (g (not_asked read link a h.asked));
    },
    subst IsInOrder (sym h.same) o,
  )

  pub keeps_step : IsStep e → IsInOrder e.before.state → Keeps e × IsInOrder e.after.state
  keeps_step h o = elim h.steps.does as (λ _. Keeps e × IsInOrder e.after.state) [
    | inl d ↦ done_keeps d o
    | inr f ↦ fails_keeps f o
  ]

-- ---- a chain of steps

-- where no read is open, all are in order
pub none_in_order : (s : State) → NoneOpen s → IsInOrder s
none_in_order s none = record { numbered = λ n r e. absurd (closed n r e); orderly = λ n r e. absurd (closed n r e) }
  where
    closed : (n : ℕ) (r : OpenRead) → get s.reads n ≡ Some r → ⊥
    closed n r e = let f : None ≡ some_read r = sym (get-empty nat_cmp n) ∙ ap (λ (m : Reads). get m n) (sym none) ∙ e in absurd cc

pub order_chain : PlanFacts → (start : World) (events : List Event) (end : World) → Chain start events end → IsInOrder start.state → IsInOrder end.state
order_chain facts start [] end h o = subst (λ (w : World). IsInOrder w.state) (sym h) o
order_chain facts start (e ∷ es) end h o =
    let before : IsInOrder e.before.state = subst (λ (w : World). IsInOrder w.state) (sym h.0) o in
    order_chain facts e.after es end h.2 (keeps_step facts e h.1 before).1

pub keeps_chain : PlanFacts → (start : World) (events : List Event) (end : World) → Chain start events end → IsInOrder start.state → AllByRecursion Keeps events
keeps_chain facts start [] end h o = tt
keeps_chain facts start (e ∷ es) end h o =
    let before : IsInOrder e.before.state = subst (λ (w : World). IsInOrder w.state) (sym h.0) o in
    let k = keeps_step facts e h.1 before in
    (k.0, keeps_chain facts e.after es end h.2 k.1)
