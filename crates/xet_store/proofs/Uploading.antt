-- What uploads of a generated file answer.
use Rattle.std.proofs.Common.{◌≡◌, ◌∙◌, ℕ, ◌+◌, ◌<◌, cond, Bool, true, false, List, [], ◌∷◌, length, take, get_or, Option, Some, None, Result, Ok, Err, refl, sym, ap, arith}
use Rattle.std.specs.List.{fold}
use Rattle.std.specs.Option.{is_some}
use Rattle.std.proofs.lemmas.List.{take_all}
use Rattle.std.proofs.lemmas.List.Sums.{fold_more}
use Rattle.xet_types.specs.declared.error.ClientError.{ClientError}
use Rattle.xet_types.specs.declared.error.ClientError.TheVariants as errors
use Rattle.xet_types.specs.declared.error.Refusal.{Refusal}
use Rattle.xet_types.specs.declared.error.Refusal.TheVariants.{FormatError, InvalidRange, InvalidArguments, FileNotFound, XORBNotFound, PresignedUrlExpirationError, IOError, Other, InvalidKey, CacheError, HttpStatus}
use Rattle.xet_types.specs.Names.{xorb_name}
use Rattle.xet_types.specs.Faults.{refusal_of}
use Rattle.xet_xorb.specs.ChunkLists.{IsWellFormed}
use Rattle.xet_xorb.specs.XorbBytes.{IsXorbText, xorb_bytes}
use Rattle.xet_xorb.proofs.Footing.{IsXorbText-unique}
use Rattle.xet_shard.specs.Listings.{ShardModel}
use Rattle.xet_shard.specs.ShardBytes.{IsReadAs, IsTextOfOne}
use Rattle.xet_shard.specs.Canonical.{canonical_of}
use Rattle.xet_shard.proofs.CanonicalLaws.{IsCanonical-canonical_of, canonical_of-again}
use Rattle.xet_generated.specs.Terms.{Term, xorbs_of}
use Rattle.xet_generated.specs.Contents.{FileModel}
use Rattle.xet_store.specs.StoreModel.{StoreModel, Chunks, stored, with_xorb, accepted}
use Rattle.xet_store.specs.Commands.{TakesXorb, UploadsOver, UploadsXorb, UploadsShard, with_absent, with_all_absent}
use Rattle.xet_store.specs.Refusals.{IsRefused, OfOutside, OfGenerated}
use Rattle.xet_store.specs.Acceptance.{AcceptsTerms}
use Rattle.xet_store.specs.GeneratedUploads.{StoresSome, UploadsGenerated}
use Rattle.xet_store.specs.Told.{Leaves, FollowsErr}

pub spelled : (chunks : Chunks) (bytes : List ℕ) → IsWellFormed chunks → bytes ≡ xorb_bytes chunks → IsXorbText bytes chunks
spelled chunks bytes formed is = record { has_footer = true; formed = formed; text = is }

over_leaves : (o : Option Chunks) (m new : StoreModel) (hash content : List ℕ) (chunks : Chunks) (n : ℕ) → IsXorbText content chunks → UploadsOver o m hash content (Ok n) new → new ≡ cond (is_some o) m (with_xorb m hash chunks)
over_leaves (Some x) m new hash content chunks n text u = u.1
over_leaves None m new hash content chunks n text u = u.stored ∙ ap (with_xorb m hash) (IsXorbText-unique content u.chunks chunks u.spelled text).chunks

-- a xorb that was uploaded is stored where none was under its name
pub one_stored : (m : StoreModel) (hash content : List ℕ) (chunks : Chunks) (n : ℕ) (after : Option StoreModel) → hash ≡ xorb_name chunks → IsXorbText content chunks → Leaves (UploadsXorb m hash content (Ok n)) after → after ≡ Some (with_absent m chunks)
one_stored m hash content chunks n None named text u = absurd u
one_stored m hash content chunks n (Some new) named text u =
    ap (λ (x : StoreModel). Some x) (over_leaves (stored m hash) m new hash content chunks n text u ∙ ap (λ (h : List ℕ). cond (is_some (stored m h)) m (with_xorb m h chunks)) named)

stays_by : {T : Type 0} (Does : Result T Refusal → StoreModel → Type 0) (m : StoreModel) (o : Option Refusal) (after : Option StoreModel) → IsRefused OfOutside o → FollowsErr Does m o after → after ≡ Some m
stays_by Does m None after r f = f
stays_by Does m (Some (FormatError x)) after r f = absurd r
stays_by Does m (Some InvalidRange) after r f = absurd r
stays_by Does m (Some InvalidArguments) after r f = absurd r
stays_by Does m (Some (FileNotFound h)) after r f = absurd r
stays_by Does m (Some (XORBNotFound h)) after r f = absurd r
stays_by Does m (Some PresignedUrlExpirationError) after r f = absurd r
stays_by Does m (Some IOError) after r f = f
stays_by Does m (Some Other) after r f = absurd r
stays_by Does m (Some InvalidKey) after r f = absurd r
stays_by Does m (Some CacheError) after r f = absurd r
stays_by Does m (Some (HttpStatus s)) after r f = absurd r

-- an upload that the outside or want of memory refused changes nothing
pub one_stays : {T : Type 0} (Does : Result T Refusal → StoreModel → Type 0) (m : StoreModel) (e : ClientError) (after : Option StoreModel) → IsRefused OfOutside (refusal_of e) → FollowsErr Does m (refusal_of e) after → after ≡ Some m
one_stays Does m e after r f = stays_by Does m (refusal_of e) after r f

-- one xorb more
pub all_more : (m : StoreModel) (xorbs : List Chunks) (i : ℕ) → i < length xorbs → with_absent (with_all_absent m (take i xorbs)) (get_or xorbs i []) ≡ with_all_absent m (take (i + 1) xorbs)
all_more m xorbs i lt = sym (fold_more with_absent m xorbs i [] lt)

-- the shard that was uploaded is accepted
pub shard_stored : (m : StoreModel) (content : List ℕ) (s : ShardModel) (taken : Bool) (after : Option StoreModel) → IsTextOfOne content (canonical_of s) → Leaves (UploadsShard m content (Ok taken)) after → after ≡ Some (accepted m (canonical_of s))
shard_stored m content s taken None one u = absurd u
shard_stored m content s taken (Some new) one u =
    ap (λ (x : StoreModel). Some x) ((u.1).accepted ∙ ap (λ (t : ShardModel). accepted m (canonical_of t)) (one.alone (u.1).shard (u.1).spelled) ∙ ap (accepted m) (canonical_of-again (canonical_of s) (IsCanonical-canonical_of s)))

-- ---- a generated file

-- no xorb is stored, the first ones, or all
pub none_stored : (m : StoreModel) (xorbs : List Chunks) (after : Option StoreModel) → after ≡ Some m → StoresSome m xorbs after
none_stored m xorbs after is = record { count = 0; stored = is }

pub first_stored : (m : StoreModel) (xorbs : List Chunks) (n : ℕ) (after : Option StoreModel) → after ≡ Some (with_all_absent m (take n xorbs)) → StoresSome m xorbs after
first_stored m xorbs n after is = record { count = n; stored = is }

pub all_stored : (m : StoreModel) (xorbs : List Chunks) (after : Option StoreModel) → after ≡ Some (with_all_absent m xorbs) → StoresSome m xorbs after
all_stored m xorbs after is = record { count = length xorbs; stored = is ∙ ap (λ (xs : List Chunks). Some (with_all_absent m xs)) (sym (take_all (length xorbs) xorbs (omega arith))) }

generated_by : (o : Option Refusal) → IsRefused OfOutside o → IsRefused OfGenerated o
generated_by None r = tt
generated_by (Some (FormatError f)) r = absurd r
generated_by (Some InvalidRange) r = absurd r
generated_by (Some InvalidArguments) r = absurd r
generated_by (Some (FileNotFound h)) r = absurd r
generated_by (Some (XORBNotFound h)) r = absurd r
generated_by (Some PresignedUrlExpirationError) r = absurd r
generated_by (Some IOError) r = tt
generated_by (Some Other) r = absurd r
generated_by (Some InvalidKey) r = absurd r
generated_by (Some CacheError) r = absurd r
generated_by (Some (HttpStatus s)) r = absurd r

-- what the outside refuses is a refusal of a generated file
pub generated_refusal : (e : ClientError) → IsRefused OfOutside (refusal_of e) → IsRefused OfGenerated (refusal_of e)
generated_refusal e r = generated_by (refusal_of e) r

pub generated_accepts : (terms : List Term) (size : ℕ) (contents : FileModel) (e : ClientError) → IsRefused OfOutside (refusal_of e) → AcceptsTerms terms size contents (Err e)
generated_accepts terms size contents (errors.FormatError f) r = absurd r
generated_accepts terms size contents errors.InvalidRange r = absurd r
generated_accepts terms size contents errors.InvalidArguments r = absurd r
generated_accepts terms size contents (errors.FileNotFound h) r = absurd r
generated_accepts terms size contents (errors.XORBNotFound h) r = absurd r
generated_accepts terms size contents errors.PresignedUrlExpirationError r = absurd r
generated_accepts terms size contents errors.IOError r = tt
generated_accepts terms size contents (errors.Other t) r = absurd r
generated_accepts terms size contents (errors.InvalidKey t) r = absurd r
generated_accepts terms size contents (errors.CacheError t) r = absurd r
generated_accepts terms size contents (errors.HttpStatus s) r = absurd r
generated_accepts terms size contents errors.OutOfMemory r = tt

-- where an upload is refused, those before it stay
pub generated_stays : (m : StoreModel) (terms : List Term) (size : ℕ) (e : ClientError) (after : Option StoreModel) → IsRefused OfOutside (refusal_of e) → StoresSome m (xorbs_of terms size) after → UploadsGenerated m terms size (Err e) after
generated_stays m terms size (errors.FormatError f) after r some = absurd r
generated_stays m terms size errors.InvalidRange after r some = absurd r
generated_stays m terms size errors.InvalidArguments after r some = absurd r
generated_stays m terms size (errors.FileNotFound h) after r some = absurd r
generated_stays m terms size (errors.XORBNotFound h) after r some = absurd r
generated_stays m terms size errors.PresignedUrlExpirationError after r some = absurd r
generated_stays m terms size errors.IOError after r some = some
generated_stays m terms size (errors.Other t) after r some = absurd r
generated_stays m terms size (errors.InvalidKey t) after r some = absurd r
generated_stays m terms size (errors.CacheError t) after r some = absurd r
generated_stays m terms size (errors.HttpStatus s) after r some = absurd r
generated_stays m terms size errors.OutOfMemory after r some = some
