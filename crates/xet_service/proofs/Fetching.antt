-- A fetch from what its calls answer.
use Rattle.std.proofs.Common.{◌≡◌, ◌∙◌, ℕ, false, Bool, List, Option, Some, None, Result, Ok, Err, refl, sym, ap, subst}
use Rattle.std.specs.FinMap.{get}
use Rattle.xet_types.specs.Faults.{refusal_of}
use Rattle.xet_types.specs.declared.error.ClientError.{ClientError}
use Rattle.xet_types.specs.declared.error.ClientError.TheVariants as errors
use Rattle.xet_types.specs.declared.error.Refusal.{Refusal}
use Rattle.xet_types.specs.declared.error.Refusal.TheVariants.{FormatError, InvalidRange, InvalidArguments, FileNotFound, XORBNotFound, PresignedUrlExpirationError, IOError, Other, InvalidKey, CacheError, HttpStatus}
use Rattle.xet_types.specs.declared.record.XorbRangeDescriptor.{XorbRangeDescriptor}
use Rattle.xet_store.specs.Answered.{Answered, AnsweredErr}
use Rattle.xet_store.specs.Told.{Asks, AsksErr}
use Rattle.xet_store.specs.StoreModel.{StoreModel}
use Rattle.xet_service.specs.declared.step.Act.TheVariants.{Fetch}
use Rattle.xet_service.specs.declared.reply.Reply.{Reply}
use Rattle.xet_service.specs.declared.read.OpenRead.{OpenRead}
use Rattle.xet_service.specs.declared.reader.link.ReadLink.{ReadLink}
use Rattle.xet_service.specs.Bodies.{Body, SendsStored}
use Rattle.xet_service.specs.Reading.{left_link}
use Rattle.xet_service.specs.World.{Reads, state}
use Rattle.xet_service.specs.Steps.{asked_bytes, TakesBody, FetchesSent, FetchesIf, FetchesLink, FetchesRead, Fetches, Does, DoesErr}
use Rattle.xet_store.specs.TermData.{is_expired}
use Rattle.xet_service.specs.Requests.{TakesAt}
use Rattle.xet_service.specs.Causes.{IsAsked}

-- only the outside's failure is told so
failure_is : (e : ClientError) → refusal_of e ≡ Some IOError → e ≡ errors.IOError
failure_is (errors.FormatError f) h = absurd cc
failure_is errors.InvalidRange h = absurd cc
failure_is errors.InvalidArguments h = absurd cc
failure_is (errors.FileNotFound f) h = absurd cc
failure_is (errors.XORBNotFound f) h = absurd cc
failure_is errors.PresignedUrlExpirationError h = absurd cc
failure_is errors.IOError h = refl
failure_is (errors.Other t) h = absurd cc
failure_is (errors.InvalidKey t) h = absurd cc
failure_is (errors.CacheError t) h = absurd cc
failure_is (errors.HttpStatus n) h = absurd cc
failure_is errors.OutOfMemory h = absurd cc

pub fresh_is : (at stamp n limit : ℕ) (expired : Bool) → n ≡ limit → expired ≡ is_expired at stamp n → expired ≡ false → is_expired at stamp limit ≡ false
fresh_is at stamp n limit expired same is not = ap (λ (k : ℕ). is_expired at stamp k) (sym same) ∙ sym is ∙ not

pub asked_is : (m : StoreModel) (reads : Reads) (next at read link : ℕ) (r : OpenRead) (l : ReadLink) → Some r ≡ get reads read → Some l ≡ left_link r.reader.links link → is_expired at r.stamp m.expiration ≡ false → IsAsked (state m reads next) at (Fetch read link)
asked_is m reads next at read link r l there left fresh = (record { held = r; it = l; open_it = sym there; left = sym left }, fresh)

abbrev some_read : OpenRead → Option OpenRead
some_read r = Some r

module _ (m : StoreModel) (reads after : Reads) (next at read link : ℕ) (r : OpenRead) (l : ReadLink) (body : Body)
    (there : Some r ≡ get reads read) (left : Some l ≡ left_link r.reader.links link) (fresh : is_expired at r.stamp m.expiration ≡ false) (sent : SendsStored m l.hash (asked_bytes l.ranges) (Ok body)) where
  by : (x : Result Reply Refusal) → TakesAt reads read link body x after → Fetches (state m reads next) read link at x (state m after next)
  by x t =
      let found : some_read t.0 ≡ some_read r = sym t.1.0 ∙ sym there in
      let same : t.0 ≡ r = cc in
      let takes : TakesBody reads read link r body x after = subst (λ (q : OpenRead). TakesBody reads read link q body x after) same t.1.1 in
      let bodied : FetchesSent m reads read link r l x after = record { body = Ok body; sent = sent; brings = takes } in
      let aged : FetchesIf m reads read link r l (is_expired at r.stamp m.expiration) x after = subst (λ (b : Bool). FetchesIf m reads read link r l b x after) (sym fresh) bodied in
      let linked : FetchesLink m reads read link at r (left_link r.reader.links link) x after = subst (λ (o : Option ReadLink). FetchesLink m reads read link at r o x after) left aged in
      record { reads = subst (λ (o : Option OpenRead). FetchesRead m reads read link at o x after) there linked; rest = refl }

  err_does : (o : Option Refusal) → (o ≡ Some IOError → ⊥) → AnsweredErr o (λ x. TakesAt reads read link body x after) (after ≡ reads) → DoesErr (Fetches (state m reads next) read link at) (state m reads next) o (state m after next)
  err_does None never h = ap (λ (q : Reads). state m q next) h
  err_does (Some IOError) never h = absurd (never refl)
  err_does (Some (FormatError f)) never h = by (Err (FormatError f)) h
  err_does (Some InvalidRange) never h = by (Err InvalidRange) h
  err_does (Some InvalidArguments) never h = by (Err InvalidArguments) h
  err_does (Some (FileNotFound f)) never h = by (Err (FileNotFound f)) h
  err_does (Some (XORBNotFound f)) never h = by (Err (XORBNotFound f)) h
  err_does (Some PresignedUrlExpirationError) never h = by (Err PresignedUrlExpirationError) h
  err_does (Some Other) never h = by (Err Other) h
  err_does (Some InvalidKey) never h = by (Err InvalidKey) h
  err_does (Some CacheError) never h = by (Err CacheError) h
  err_does (Some (HttpStatus n)) never h = by (Err (HttpStatus n)) h

  pub fetch_does : (result : Result Reply ClientError) → (result ≡ Err errors.IOError → ⊥) → Answered result (λ x. TakesAt reads read link body x after) (after ≡ reads) → Does (Fetches (state m reads next) read link at) (state m reads next) result (state m after next)
  fetch_does (Ok reply) never h = by (Ok reply) h
  fetch_does (Err e) never h = err_does (refusal_of e) (λ o. never (ap Err (failure_is e o))) h

-- a link whose body isn't sent
module _ (m : StoreModel) (reads : Reads) (next at read link : ℕ) (r : OpenRead) (l : ReadLink) (there : Some r ≡ get reads read) (left : Some l ≡ left_link r.reader.links link) (fresh : is_expired at r.stamp m.expiration ≡ false) where
  unsent : (why : Refusal) → SendsStored m l.hash (asked_bytes l.ranges) (Err why) → Fetches (state m reads next) read link at (Err why) (state m reads next)
  unsent why h =
      let bodied : FetchesSent m reads read link r l (Err why) reads = record { body = Err why; sent = h; brings = refl } in
      let aged : FetchesIf m reads read link r l (is_expired at r.stamp m.expiration) (Err why) reads = subst (λ (b : Bool). FetchesIf m reads read link r l b (Err why) reads) (sym fresh) bodied in
      let linked : FetchesLink m reads read link at r (left_link r.reader.links link) (Err why) reads = subst (λ (o : Option ReadLink). FetchesLink m reads read link at r o (Err why) reads) left aged in
      record { reads = subst (λ (o : Option OpenRead). FetchesRead m reads read link at o (Err why) reads) there linked; rest = refl }

  unsent_err : (o : Option Refusal) → AsksErr {T = Body} (SendsStored m l.hash (asked_bytes l.ranges)) o → DoesErr (Fetches (state m reads next) read link at) (state m reads next) o (state m reads next)
  unsent_err None h = refl
  unsent_err (Some IOError) h = refl
  unsent_err (Some (FormatError f)) h = unsent (FormatError f) h
  unsent_err (Some InvalidRange) h = unsent InvalidRange h
  unsent_err (Some InvalidArguments) h = unsent InvalidArguments h
  unsent_err (Some (FileNotFound f)) h = unsent (FileNotFound f) h
  unsent_err (Some (XORBNotFound f)) h = unsent (XORBNotFound f) h
  unsent_err (Some PresignedUrlExpirationError) h = unsent PresignedUrlExpirationError h
  unsent_err (Some Other) h = unsent Other h
  unsent_err (Some InvalidKey) h = unsent InvalidKey h
  unsent_err (Some CacheError) h = unsent CacheError h
  unsent_err (Some (HttpStatus n)) h = unsent (HttpStatus n) h

  pub unsent_does : (ranges : List XorbRangeDescriptor) (e : ClientError) → ranges ≡ l.ranges → Asks {T = Body} (SendsStored m l.hash (asked_bytes ranges)) (Err e) → Does (Fetches (state m reads next) read link at) (state m reads next) (Err e) (state m reads next)
  unsent_does ranges e same h = unsent_err (refusal_of e) (subst (λ (rs : List XorbRangeDescriptor). Asks {T = Body} (SendsStored m l.hash (asked_bytes rs)) (Err e)) same h)
