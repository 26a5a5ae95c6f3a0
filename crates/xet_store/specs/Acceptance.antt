-- Which uploads and which generated files every store takes.
use Rattle.std.specs.Prelude.{◌≡◌, ℕ, Bool, List, Result, Ok, Err}
use Rattle.xet_types.specs.declared.error.ClientError.{ClientError}
use Rattle.xet_types.specs.declared.error.ClientError.TheVariants.{InvalidArguments}
use Rattle.xet_types.specs.Faults.{refusal_of}
use Rattle.xet_types.specs.Names.{xorb_name}
use Rattle.xet_xorb.specs.XorbBytes.{IsXorbText}
use Rattle.xet_shard.specs.Listings.{ShardModel}
use Rattle.xet_shard.specs.ShardBytes.{IsReadAs}
use Rattle.xet_generated.specs.Terms.{Term, CanGenerate}
use Rattle.xet_generated.specs.Contents.{FileModel}
use Rattle.xet_store.specs.StoreModel.{Chunks}
use Rattle.xet_store.specs.Refusals.{IsRefused, RefusedBy, OfOutside}

-- bytes that spell a well-formed chunk list of this name are accepted, unless the outside failed or memory was wanting
abbrev pub AcceptsXorb : List ℕ → List ℕ → Result ℕ ClientError → Type 0
AcceptsXorb hash content result = (chunks : Chunks) → IsXorbText content chunks → xorb_name chunks ≡ hash → RefusedBy OfOutside result

-- and so are bytes that spell a shard
abbrev pub AcceptsShard : List ℕ → Result Bool ClientError → Type 0
AcceptsShard content result = (shard : ShardModel) → IsReadAs content shard → RefusedBy OfOutside result

-- and so are terms of a generated file, of which the answer tells these contents; no others are
abbrev pub AcceptsTerms : List Term → ℕ → FileModel → Result FileModel ClientError → Type 0
AcceptsTerms terms size contents (Ok told) = CanGenerate terms size × (told ≡ contents)
AcceptsTerms terms size contents (Err InvalidArguments) = CanGenerate terms size → ⊥
AcceptsTerms terms size contents (Err e) = IsRefused OfOutside (refusal_of e)
