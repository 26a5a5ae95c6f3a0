-- Uploads that spell what they should are accepted.
use Rattle.std.proofs.Common.{◌≡◌, ◌∙◌, ℕ, Bool, List, Option, Some, None, Result, Ok, Err, sym, ap}
use Rattle.xet_types.specs.declared.error.ClientError.{ClientError}
use Rattle.xet_types.specs.declared.error.Refusal.{Refusal}
use Rattle.xet_types.specs.declared.error.Refusal.TheVariants.{FormatError, InvalidRange, InvalidArguments, FileNotFound, XORBNotFound, PresignedUrlExpirationError, IOError, Other, InvalidKey, CacheError, HttpStatus}
use Rattle.xet_types.specs.declared.error.FormatFault.TheVariants as faults
use Rattle.xet_types.specs.Names.{xorb_name}
use Rattle.xet_xorb.specs.XorbBytes.{IsXorbText}
use Rattle.xet_xorb.proofs.Footing.{IsXorbText-unique}
use Rattle.xet_shard.specs.Listings.{ShardModel}
use Rattle.xet_shard.specs.ShardBytes.{IsReadAs}
use Rattle.xet_store.specs.StoreModel.{StoreModel, Chunks, stored}
use Rattle.xet_store.specs.Answered.{Answered}
use Rattle.xet_store.specs.Commands.{UploadsXorb, UploadsOver, UploadsShard}
use Rattle.xet_store.specs.Refusals.{OfOutside}
use Rattle.xet_store.specs.Acceptance.{AcceptsXorb, AcceptsShard}
use Rattle.xet_store.proofs.Told.{refused}

abbrev refusal : Refusal → Result ℕ Refusal
refusal why = Err why

abbrev nothing_new : Result ℕ Refusal
nothing_new = Ok 0

-- a xorb of this name is refused by no step
outside_xorb : (old : StoreModel) (hash content : List ℕ) (new : StoreModel) (chunks : Chunks) → IsXorbText content chunks → xorb_name chunks ≡ hash → (o : Option Chunks) (why : Refusal) → UploadsOver o old hash content (Err why) new → OfOutside why
outside_xorb old hash content new chunks spelled named (Some cs) why u = let e : refusal why ≡ nothing_new = u.0 in let no : ⊥ = cc in absurd no
outside_xorb old hash content new chunks spelled named None (FormatError faults.Xorb) u = absurd (u.0 chunks spelled)
outside_xorb old hash content new chunks spelled named None (FormatError faults.Shard) u = absurd u
outside_xorb old hash content new chunks spelled named None (FormatError faults.Segment) u = absurd u
outside_xorb old hash content new chunks spelled named None (FormatError faults.Table) u = absurd u
outside_xorb old hash content new chunks spelled named None (FormatError faults.Body) u = absurd u
outside_xorb old hash content new chunks spelled named None InvalidRange u = absurd u
outside_xorb old hash content new chunks spelled named None InvalidArguments u = absurd u
outside_xorb old hash content new chunks spelled named None (FileNotFound h) u = absurd u
outside_xorb old hash content new chunks spelled named None (XORBNotFound h) u = absurd u
outside_xorb old hash content new chunks spelled named None PresignedUrlExpirationError u = absurd u
outside_xorb old hash content new chunks spelled named None IOError u = absurd u
outside_xorb old hash content new chunks spelled named None Other u =
    absurd (u.0.misnamed (ap xorb_name (IsXorbText-unique content u.0.chunks chunks u.0.spelled spelled).chunks ∙ named))
outside_xorb old hash content new chunks spelled named None InvalidKey u = absurd u
outside_xorb old hash content new chunks spelled named None CacheError u = absurd u
outside_xorb old hash content new chunks spelled named None (HttpStatus s) u = absurd u

pub accepts_xorb : (old : StoreModel) (hash content : List ℕ) (r : Result ℕ ClientError) (new : StoreModel) → Answered r (λ x. UploadsXorb old hash content x new) (new ≡ old) → AcceptsXorb hash content r
accepts_xorb old hash content r new a = λ chunks spelled named.
    refused (λ x. UploadsXorb old hash content x new) (new ≡ old) OfOutside r (outside_xorb old hash content new chunks spelled named (stored old hash)) a

-- and neither is a shard
outside_shard : (old : StoreModel) (content : List ℕ) (new : StoreModel) (shard : ShardModel) → IsReadAs content shard → (why : Refusal) → UploadsShard old content (Err why) new → OfOutside why
outside_shard old content new shard spelled (FormatError faults.Xorb) u = absurd u
outside_shard old content new shard spelled (FormatError faults.Shard) u = absurd (u.0 shard spelled)
outside_shard old content new shard spelled (FormatError faults.Segment) u = absurd u
outside_shard old content new shard spelled (FormatError faults.Table) u = absurd u
outside_shard old content new shard spelled (FormatError faults.Body) u = absurd u
outside_shard old content new shard spelled InvalidRange u = absurd u
outside_shard old content new shard spelled InvalidArguments u = absurd u
outside_shard old content new shard spelled (FileNotFound h) u = absurd u
outside_shard old content new shard spelled (XORBNotFound h) u = absurd u
outside_shard old content new shard spelled PresignedUrlExpirationError u = absurd u
outside_shard old content new shard spelled IOError u = absurd u
outside_shard old content new shard spelled Other u = absurd u
outside_shard old content new shard spelled InvalidKey u = absurd u
outside_shard old content new shard spelled CacheError u = absurd u
outside_shard old content new shard spelled (HttpStatus s) u = absurd u

pub accepts_shard : (old : StoreModel) (content : List ℕ) (r : Result Bool ClientError) (new : StoreModel) → Answered r (λ x. UploadsShard old content x new) (new ≡ old) → AcceptsShard content r
accepts_shard old content r new a = λ shard spelled.
    refused (λ x. UploadsShard old content x new) (new ≡ old) OfOutside r (outside_shard old content new shard spelled) a
