-- What the calls of the store in memory owe, from what they answer.
use Rattle.std.proofs.Common.{◌≡◌, ◌∙◌, ℕ, arith, cond, true, false, List, [], ◌∷◌, Option, Some, None, Result, Ok, Err, refl, sym, ap, subst}
use Rattle.std.specs.Prelude.{⊤}
use Rattle.xet_types.specs.declared.error.ClientError.{ClientError}
use Rattle.xet_types.specs.declared.error.Refusal.{Refusal}
use Rattle.xet_types.specs.declared.error.Refusal.TheVariants.{FormatError, InvalidRange, InvalidArguments, FileNotFound, XORBNotFound, PresignedUrlExpirationError, IOError, Other, InvalidKey, CacheError, HttpStatus}
use Rattle.xet_types.specs.Faults.{refusal_of}
use Rattle.xet_types.specs.declared.error.FormatFault.TheVariants as faults
use Rattle.xet_types.specs.declared.range.Range.{Range}
use Rattle.xet_types.specs.declared.range._F.{_F}
use Rattle.xet_bytes.proofs.Maps.{some_is}
use Rattle.xet_xorb.specs.Values.{Xorb}
use Rattle.xet_shard.specs.declared.listing.Segment.{Segment}
use Rattle.xet_shard.specs.Values.{size_of}
use Rattle.xet_plan.specs.declared.place.Reach.{Reach}
use Rattle.xet_plan.specs.declared.place.Reach.TheVariants.{Past, Reversed, Within}
use Rattle.xet_plan.specs.Places.{Interval, interval, Known, Placed, reach, agrees, fault_at, or_else, first_of, first_fault, met_segments}
use Rattle.xet_plan.specs.Plans.{PlanModel}
use Rattle.xet_plan.specs.Footers.{FailsOnlyByFault}
use Rattle.xet_store.specs.StoreModel.{StoreModel, listing, known_of}
use Rattle.xet_store.specs.Plans.{PlansFile, PlansListed, PlansReached, PlansWithin}
use Rattle.xet_store.specs.Questions.{data_at, data_agreed}
use Rattle.xet_store.proofs.Data.{refusing}
use Rattle.xet_store.specs.Answered.{Answered, AnsweredErr}
use Rattle.xet_store.specs.Told.{Asks, AsksErr, Follows, FollowsErr}
use Rattle.xet_store.specs.Refusals.{RefusedBy, IsRefused, OfPlan}

asks_err : {T : Type 0} (P : Result T Refusal → Type 0) (o : Option Refusal) → AnsweredErr o P ⊤ → AsksErr P o
asks_err P None a = tt
asks_err P (Some (FormatError f)) a = a
asks_err P (Some InvalidRange) a = a
asks_err P (Some InvalidArguments) a = a
asks_err P (Some (FileNotFound h)) a = a
asks_err P (Some (XORBNotFound h)) a = a
asks_err P (Some PresignedUrlExpirationError) a = a
asks_err P (Some IOError) a = tt
asks_err P (Some Other) a = a
asks_err P (Some InvalidKey) a = a
asks_err P (Some CacheError) a = a
asks_err P (Some (HttpStatus s)) a = a

-- an answer is what a call that only asks owes
pub asks : {T : Type 0} (P : Result T Refusal → Type 0) (r : Result T ClientError) → Answered r P ⊤ → Asks P r
asks P (Ok x) a = a
asks P (Err e) a = asks_err P (refusal_of e) a

follows_err : {T : Type 0} (Does : Result T Refusal → StoreModel → Type 0) (old new : StoreModel) (o : Option Refusal) → (Does (Err IOError) new → ⊥) → AnsweredErr o (λ r. Does r new) (new ≡ old) → FollowsErr Does old o (Some new)
follows_err Does old new None never a = ap (λ (m : StoreModel). Some m) a
follows_err Does old new (Some (FormatError f)) never a = a
follows_err Does old new (Some InvalidRange) never a = a
follows_err Does old new (Some InvalidArguments) never a = a
follows_err Does old new (Some (FileNotFound h)) never a = a
follows_err Does old new (Some (XORBNotFound h)) never a = a
follows_err Does old new (Some PresignedUrlExpirationError) never a = a
follows_err Does old new (Some IOError) never a = absurd (never a)
follows_err Does old new (Some Other) never a = a
follows_err Does old new (Some InvalidKey) never a = a
follows_err Does old new (Some CacheError) never a = a
follows_err Does old new (Some (HttpStatus s)) never a = a

-- and what a command owes, of which the outside is no refusal
pub follows : {T : Type 0} (Does : Result T Refusal → StoreModel → Type 0) (old new : StoreModel) (r : Result T ClientError) → (Does (Err IOError) new → ⊥) → Answered r (λ x. Does x new) (new ≡ old) → Follows Does old r (Some new)
follows Does old new (Ok x) never a = a
follows Does old new (Err e) never a = follows_err Does old new (refusal_of e) never a

refused_err : {T : Type 0} (P : Result T Refusal → Type 0) (Q : Type 0) (R : Refusal → Type 0) (o : Option Refusal) → ((why : Refusal) → P (Err why) → R why) → AnsweredErr o P Q → IsRefused R o
refused_err P Q R None f a = tt
refused_err P Q R (Some why) f a = f why a

-- the refusals of an answer
pub refused : {T : Type 0} (P : Result T Refusal → Type 0) (Q : Type 0) (R : Refusal → Type 0) (r : Result T ClientError) → ((why : Refusal) → P (Err why) → R why) → Answered r P Q → RefusedBy R r
refused P Q R (Ok x) f a = tt
refused P Q R (Err e) f a = refused_err P Q R (refusal_of e) f a

-- where the outside is no refusal, no fault is owed
pub faultless : {T : Type 0} (R : Refusal → Type 0) (r : Result T ClientError) → (R IOError → ⊥) → RefusedBy R r → FailsOnlyByFault 0 0 r
faultless {T} R r never a = record { later = omega arith; failed = λ e. absurd (never (subst (λ (s : Result T ClientError). RefusedBy R s) e a)) }

-- ---- refusals of plans and data

-- the fault of a met segment is one of two
fault_kind : (R : Refusal → Type 0) → ((h : List ℕ) → R (XORBNotFound h)) → R (FormatError faults.Segment) → (s : Segment) (o : Option Xorb) (rest : Option Refusal) (why : Refusal) → or_else (fault_at s o) rest ≡ Some why → (rest ≡ Some why → R why) → R why
fault_kind R missing torn s None rest why e k = subst R (some_is (XORBNotFound s.xorb_hash) why e) (missing s.xorb_hash)
fault_kind R missing torn s (Some xorb) rest why e k = elim (agrees s xorb) as (λ b. or_else (cond b None (Some (FormatError faults.Segment))) rest ≡ Some why → R why) [
  | true ↦ k
  | false ↦ λ g. subst R (some_is (FormatError faults.Segment) why g) torn
] e

pub fault_is : (R : Refusal → Type 0) → ((h : List ℕ) → R (XORBNotFound h)) → R (FormatError faults.Segment) → (known : Known) (ps : List Placed) (why : Refusal) → first_of known ps ≡ Some why → R why
fault_is R missing torn known [] why e = let no : ⊥ = cc in absurd no
fault_is R missing torn known (p ∷ ps) why e = fault_kind R missing torn p.segment (known p.segment.xorb_hash) (first_of known ps) why e (fault_is R missing torn known ps why)

-- the refusals of a data call
pub data_refusals : (R : Refusal → Type 0) → ((h : List ℕ) → R (XORBNotFound h)) → R (FormatError faults.Segment) → (m : StoreModel) (segments : List Segment) (clip : Interval) (why : Refusal) → refusing why ≡ data_at m segments clip → R why
data_refusals R missing torn m segments clip why e = by (first_fault (known_of m) clip segments) refl e
  where
    err_is : (v w : Refusal) → refusing v ≡ refusing w → v ≡ w
    err_is v w e = cc

    by : (o : Option Refusal) → first_fault (known_of m) clip segments ≡ o → refusing why ≡ data_agreed m segments clip o → R why
    by None f e = let no : ⊥ = cc in absurd no
    by (Some w) f e = fault_is R missing torn (known_of m) (met_segments clip segments) why (f ∙ ap (λ (r : Refusal). Some r) (sym (err_is why w e)))

plan_within : (known : Known) (segments : List Segment) (range : Option (Range ℕ _F)) (clip : Interval) (why : Refusal) → PlansWithin known segments range clip (Err why) → OfPlan why
plan_within known segments range clip (XORBNotFound h) a = tt
plan_within known segments range clip (FormatError faults.Segment) a = tt
plan_within known segments range clip (FormatError faults.Xorb) a = absurd a
plan_within known segments range clip (FormatError faults.Shard) a = absurd a
plan_within known segments range clip (FormatError faults.Table) a = absurd a
plan_within known segments range clip (FormatError faults.Body) a = absurd a
plan_within known segments range clip InvalidRange a = tt
plan_within known segments range clip InvalidArguments a = absurd a
plan_within known segments range clip (FileNotFound h) a = absurd a
plan_within known segments range clip PresignedUrlExpirationError a = absurd a
plan_within known segments range clip IOError a = absurd a
plan_within known segments range clip Other a = absurd a
plan_within known segments range clip InvalidKey a = absurd a
plan_within known segments range clip CacheError a = absurd a
plan_within known segments range clip (HttpStatus s) a = absurd a

abbrev err_of : Refusal → Result (Option PlanModel) Refusal
err_of why = Err why

abbrev no_plan : Result (Option PlanModel) Refusal
no_plan = Ok None

plan_reached : (known : Known) (segments : List Segment) (range : Option (Range ℕ _F)) (w : Reach) (why : Refusal) → PlansReached known segments range w (Err why) → OfPlan why
plan_reached known segments range Past why a = let e : err_of why ≡ no_plan = a in let no : ⊥ = cc in absurd no
plan_reached known segments range Reversed why a = let e : why ≡ InvalidRange = cc in subst OfPlan (sym e) tt
plan_reached known segments range (Within start end) why a = plan_within known segments range (interval start end) why a

-- the refusals of a plan
pub plan_refusals : (m : StoreModel) (file : List ℕ) (range : Option (Range ℕ _F)) (why : Refusal) → PlansFile m file range (Err why) → OfPlan why
plan_refusals m file range why a = by (listing m file) a
  where
    by : (o : Option (List Segment)) → PlansListed (known_of m) range o (Err why) → OfPlan why
    by None a = let e : err_of why ≡ no_plan = a in let no : ⊥ = cc in absurd no
    by (Some segments) a = plan_reached (known_of m) segments range (reach (size_of segments) range) why a
