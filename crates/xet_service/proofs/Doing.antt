-- What an act does over a store that tells its model, from what the store's call answers.
use Rattle.std.proofs.Common.{◌≡◌, ℕ, List, Option, Some, None, Result, Ok, Err, refl, sym, ap, subst}
use Rattle.std.specs.Global.{Vec}
use Rattle.xet_types.specs.Faults.{refusal_of}
use Rattle.xet_types.specs.declared.error.ClientError.{ClientError}
use Rattle.xet_types.specs.declared.error.Refusal.{Refusal}
use Rattle.xet_types.specs.declared.error.Refusal.TheVariants.{FormatError, InvalidRange, InvalidArguments, FileNotFound, XORBNotFound, PresignedUrlExpirationError, IOError, Other, InvalidKey, CacheError, HttpStatus}
use Rattle.xet_store.specs.StoreModel.{StoreModel, Chunks}
use Rattle.xet_store.specs.Questions.{HasItems}
use Rattle.xet_types.specs.Names.{xorb_name}
use Rattle.xet_xorb.specs.ChunkLists.{IsWellFormed}
use Rattle.xet_xorb.specs.Generated.{seeded_chunks}
use Rattle.xet_store.specs.Commands.{Is, insert_xorb, InsertsSeeded}
use Rattle.xet_store.specs.Told.{Asks, AsksErr, Follows, FollowsErr, Leaves}
use Rattle.xet_service.specs.declared.reply.Reply.{Reply}
use Rattle.xet_service.specs.World.{State, Reads, state}
use Rattle.xet_service.specs.Steps.{Commands, Does, DoesErr, map_ok, asks, RepliesToAll, BatchesBy}

pub leaves_more : (P Q : StoreModel → Type 0) (after : Option StoreModel) → ((n : StoreModel) → P n → Q n) → Leaves P after → Leaves Q after
leaves_more P Q None more h = h
leaves_more P Q (Some n) more h = more n h

pub leaves_same : (m : StoreModel) (P : StoreModel → Type 0) (after : Option StoreModel) → after ≡ Some m → P m → Leaves P after
leaves_same m P after e h = subst (Leaves P) (sym e) h

-- what is told, and what holds of it
pub leaves_by : (Q : Type 0) (P : StoreModel → Type 0) (after : Option StoreModel) → Leaves P after → ((m : StoreModel) → after ≡ Some m → P m → Q) → Q
leaves_by Q P None h f = absurd h
leaves_by Q P (Some m) h f = f m refl h

-- what a command does, seen as more
module _ {T : Type 0} (D E : Result T Refusal → StoreModel → Type 0) (m : StoreModel) (after : Option StoreModel) (more : (r : Result T Refusal) (n : StoreModel) → D r n → E r n) where
  follows_err : (o : Option Refusal) → FollowsErr D m o after → FollowsErr E m o after
  follows_err None h = h
  follows_err (Some IOError) h = h
  follows_err (Some (FormatError f)) h = leaves_more (D (Err (FormatError f))) (E (Err (FormatError f))) after (more (Err (FormatError f))) h
  follows_err (Some InvalidRange) h = leaves_more (D (Err InvalidRange)) (E (Err InvalidRange)) after (more (Err InvalidRange)) h
  follows_err (Some InvalidArguments) h = leaves_more (D (Err InvalidArguments)) (E (Err InvalidArguments)) after (more (Err InvalidArguments)) h
  follows_err (Some (FileNotFound f)) h = leaves_more (D (Err (FileNotFound f))) (E (Err (FileNotFound f))) after (more (Err (FileNotFound f))) h
  follows_err (Some (XORBNotFound f)) h = leaves_more (D (Err (XORBNotFound f))) (E (Err (XORBNotFound f))) after (more (Err (XORBNotFound f))) h
  follows_err (Some PresignedUrlExpirationError) h = leaves_more (D (Err PresignedUrlExpirationError)) (E (Err PresignedUrlExpirationError)) after (more (Err PresignedUrlExpirationError)) h
  follows_err (Some Other) h = leaves_more (D (Err Other)) (E (Err Other)) after (more (Err Other)) h
  follows_err (Some InvalidKey) h = leaves_more (D (Err InvalidKey)) (E (Err InvalidKey)) after (more (Err InvalidKey)) h
  follows_err (Some CacheError) h = leaves_more (D (Err CacheError)) (E (Err CacheError)) after (more (Err CacheError)) h
  follows_err (Some (HttpStatus n)) h = leaves_more (D (Err (HttpStatus n))) (E (Err (HttpStatus n))) after (more (Err (HttpStatus n))) h

  pub follows_more : (a : Result T ClientError) → Follows D m a after → Follows E m a after
  follows_more (Ok x) h = leaves_more (D (Ok x)) (E (Ok x)) after (more (Ok x)) h
  follows_more (Err e) h = follows_err (refusal_of e) h

-- the generated xorb that was inserted is that of the seed
pub seeded_inserted : (m : StoreModel) (seed count size : ℕ) (xorb : Chunks) → IsWellFormed (seeded_chunks seed count size) → xorb ≡ seeded_chunks seed count size → (r : Result (List ℕ) Refusal) (n : StoreModel) → Is (insert_xorb m xorb) r n → InsertsSeeded m seed count size r n
seeded_inserted m seed count size xorb formed is (Ok hash) n h = (formed, subst (λ (x : Chunks). Is (insert_xorb m x) (Ok hash) n) is h)
seeded_inserted m seed count size xorb formed is (Err why) n h = absurd (let e : ◌≡◌ {A = Result (List ℕ) Refusal} (Err why) (Ok (xorb_name xorb)) = h.0 in cc)

-- one of the refusals that a store's model answers, or a cause of nothing
module _ (m : StoreModel) (reads : Reads) (next : ℕ) (after : Option StoreModel) where
  abbrev pub Left : (Result Reply Refusal → State → Type 0) → Option Refusal → Type 0
  Left P o = Leaves (λ n. DoesErr P (state m reads next) o (state n reads next)) after

  pub refused_does : {T : Type 0} (D : Result T Refusal → StoreModel → Type 0) (P : Result Reply Refusal → State → Type 0) (o : Option Refusal) → ((why : Refusal) (n : StoreModel) → D (Err why) n → P (Err why) (state n reads next)) → FollowsErr D m o after → Left P o
  refused_does D P None more h = leaves_same m (λ n. state n reads next ≡ state m reads next) after h refl
  refused_does D P (Some IOError) more h = leaves_same m (λ n. state n reads next ≡ state m reads next) after h refl
  refused_does D P (Some (FormatError f)) more h = leaves_more (D (Err (FormatError f))) (λ n. P (Err (FormatError f)) (state n reads next)) after (more (FormatError f)) h
  refused_does D P (Some InvalidRange) more h = leaves_more (D (Err InvalidRange)) (λ n. P (Err InvalidRange) (state n reads next)) after (more InvalidRange) h
  refused_does D P (Some InvalidArguments) more h = leaves_more (D (Err InvalidArguments)) (λ n. P (Err InvalidArguments) (state n reads next)) after (more InvalidArguments) h
  refused_does D P (Some (FileNotFound f)) more h = leaves_more (D (Err (FileNotFound f))) (λ n. P (Err (FileNotFound f)) (state n reads next)) after (more (FileNotFound f)) h
  refused_does D P (Some (XORBNotFound f)) more h = leaves_more (D (Err (XORBNotFound f))) (λ n. P (Err (XORBNotFound f)) (state n reads next)) after (more (XORBNotFound f)) h
  refused_does D P (Some PresignedUrlExpirationError) more h = leaves_more (D (Err PresignedUrlExpirationError)) (λ n. P (Err PresignedUrlExpirationError) (state n reads next)) after (more PresignedUrlExpirationError) h
  refused_does D P (Some Other) more h = leaves_more (D (Err Other)) (λ n. P (Err Other) (state n reads next)) after (more Other) h
  refused_does D P (Some InvalidKey) more h = leaves_more (D (Err InvalidKey)) (λ n. P (Err InvalidKey) (state n reads next)) after (more InvalidKey) h
  refused_does D P (Some CacheError) more h = leaves_more (D (Err CacheError)) (λ n. P (Err CacheError) (state n reads next)) after (more CacheError) h
  refused_does D P (Some (HttpStatus s)) more h = leaves_more (D (Err (HttpStatus s))) (λ n. P (Err (HttpStatus s)) (state n reads next)) after (more (HttpStatus s)) h

  pub command_does : {T : Type 0} (D : Result T Refusal → StoreModel → Type 0) (f : T → Reply) (a : Result T ClientError) → Follows D m a after
      → Leaves (λ n. Does (Commands D f (state m reads next)) (state m reads next) (map_ok f a) (state n reads next)) after
  command_does D f (Ok x) h = leaves_more (D (Ok x)) (λ n. Commands D f (state m reads next) (Ok (f x)) (state n reads next)) after (λ n d. record { answer = Ok x; does = d; reply = refl; rest = refl }) h
  command_does D f (Err e) h = refused_does D (Commands D f (state m reads next)) (refusal_of e) (λ why n d. record { answer = Err why; does = d; reply = refl; rest = refl }) h

-- ---- questions

-- what holds of the answer holds of the reply, and the store is as it was
module _ (m : StoreModel) (reads : Reads) (next : ℕ) where
  pub asked_does : {T : Type 0} (Q : Result T Refusal → Type 0) (P : Result Reply Refusal → State → Type 0) (o : Option Refusal) → ((why : Refusal) → Q (Err why) → P (Err why) (state m reads next)) → AsksErr Q o → DoesErr P (state m reads next) o (state m reads next)
  asked_does Q P None more h = refl
  asked_does Q P (Some IOError) more h = refl
  asked_does Q P (Some (FormatError f)) more h = more (FormatError f) h
  asked_does Q P (Some InvalidRange) more h = more InvalidRange h
  asked_does Q P (Some InvalidArguments) more h = more InvalidArguments h
  asked_does Q P (Some (FileNotFound f)) more h = more (FileNotFound f) h
  asked_does Q P (Some (XORBNotFound f)) more h = more (XORBNotFound f) h
  asked_does Q P (Some PresignedUrlExpirationError) more h = more PresignedUrlExpirationError h
  asked_does Q P (Some Other) more h = more Other h
  asked_does Q P (Some InvalidKey) more h = more InvalidKey h
  asked_does Q P (Some CacheError) more h = more CacheError h
  asked_does Q P (Some (HttpStatus s)) more h = more (HttpStatus s) h

  pub ask_does : {T : Type 0} (answer : Result T Refusal) (f : T → Reply) (a : Result T ClientError) → Asks (λ r. r ≡ answer) a
      → Does (λ r s. asks f (state m reads next) answer ≡ (r, s)) (state m reads next) (map_ok f a) (state m reads next)
  ask_does answer f (Ok x) h = ap (λ (r : Result _ Refusal). asks f (state m reads next) r) (sym h)
  ask_does answer f (Err e) h = asked_does (λ r. r ≡ answer) (λ r s. asks f (state m reads next) answer ≡ (r, s)) (refusal_of e) (λ why e. ap (λ (r : Result _ Refusal). asks f (state m reads next) r) (sym e)) h

  pub items_do : {T : Type 0} (items : List T) (f : List T → Reply) (a : Result (Vec T) ClientError) → Asks (HasItems (Ok items)) a
      → Does (λ r s. asks f (state m reads next) (Ok items) ≡ (r, s)) (state m reads next) (map_ok (λ (v : Vec T). f v.items) a) (state m reads next)
  items_do {T} items f (Ok v) h = ap (λ (xs : List T). asks f (state m reads next) (Ok xs)) (sym h)
  items_do {T} items f (Err e) h = asked_does (HasItems (Ok items)) (λ r s. asks f (state m reads next) (Ok items) ≡ (r, s)) (refusal_of e) (λ why none. absurd none) h

  -- the plans of several files
  pub batch_does : (files : List (List ℕ)) (at : ℕ) (r : Result Reply ClientError) → Asks (RepliesToAll m files at) r → Does (BatchesBy (state m reads next) files at) (state m reads next) r (state m reads next)
  batch_does files at (Ok reply) h = record { replies = h; same = refl }
  batch_does files at (Err e) h = asked_does (RepliesToAll m files at) (BatchesBy (state m reads next) files at) (refusal_of e) (λ why a. record { replies = a; same = refl }) h
