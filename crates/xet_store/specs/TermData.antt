-- What a link of version 1 brings when a store is asked for it directly.
use Rattle.std.specs.Prelude.{◌≡◌, ◌≢◌, ℕ, ◌-◌, nat_lt, Bool, true, false, List, ◌⊎◌, Result, Ok, Err}
use Rattle.std.specs.Global.{Vec}
use Rattle.xet_types.specs.Ranges.{file_range_of}
use Rattle.xet_types.specs.Records.{FetchInfo}
use Rattle.xet_types.specs.declared.error.Refusal.{Refusal}
use Rattle.xet_types.specs.declared.error.Refusal.TheVariants.{InvalidArguments, PresignedUrlExpirationError}
use Rattle.xet_types.specs.declared.range.Range.{Range}
use Rattle.xet_types.specs.declared.range._C.{_C}
use Rattle.xet_types.specs.declared.range._F.{_F}
use Rattle.xet_types.specs.declared.range._H.{_H}
use Rattle.xet_xorb.specs.ChunkLists.{lengths_of, joined}
use Rattle.xet_xorb.specs.JoinedChunks.{offsets_of}
use Rattle.xet_wire.specs.Links.{SpellsFirstLink}
use Rattle.xet_store.specs.StoreModel.{StoreModel, Chunks}
use Rattle.xet_store.specs.Cuts.{cut_of}

-- the age is above the expiration; a moment before the plan's is no age
abbrev pub is_expired : ℕ → ℕ → ℕ → Bool
is_expired at stamp expiration = nat_lt expiration (at - stamp)

-- the text is a link of version 1 that is expired
pub record IsLate (url : List ℕ) (at expiration : ℕ) : Type 0 where
  pub hash : List ℕ
  pub range : Range ℕ _F
  pub stamp : ℕ
  pub spelled : SpellsFirstLink url hash range stamp
  pub late : is_expired at stamp expiration ≡ true

-- it is one that isn't, of other bytes than these
pub record IsOfOther (url : List ℕ) (bytes : Range ℕ _H) (at expiration : ℕ) : Type 0 where
  pub hash : List ℕ
  pub range : Range ℕ _F
  pub stamp : ℕ
  pub spelled : SpellsFirstLink url hash range stamp
  pub fresh : is_expired at stamp expiration ≡ false
  pub other : range ≢ file_range_of bytes

-- it is one that isn't, of these bytes of a xorb
pub record IsOf (url : List ℕ) (bytes : Range ℕ _H) (at expiration : ℕ) (hash : List ℕ) : Type 0 where
  pub stamp : ℕ
  pub spelled : SpellsFirstLink url hash (file_range_of bytes) stamp
  pub fresh : is_expired at stamp expiration ≡ false

-- The xorb of a link of version 1, in this order: it is such a link; it isn't expired; its bytes are these.
abbrev pub NamesXorb : List ℕ → Range ℕ _H → ℕ → ℕ → Result (List ℕ) Refusal → Type 0
NamesXorb url bytes at expiration (Ok hash) = IsOf url bytes at expiration hash
NamesXorb url bytes at expiration (Err InvalidArguments) = ((hash : List ℕ) (range : Range ℕ _F) (stamp : ℕ) → ¬ SpellsFirstLink url hash range stamp) ⊎ IsOfOther url bytes at expiration
NamesXorb url bytes at expiration (Err PresignedUrlExpirationError) = IsLate url at expiration
NamesXorb url bytes at expiration (Err why) = ⊥

-- chunks joined, and where each of them begins and the last one ends
abbrev pub with_offsets : Chunks → (List ℕ × List ℕ)
with_offsets chunks = (joined chunks, offsets_of (lengths_of chunks))

abbrev pub joined_cut : Result Chunks Refusal → Result (List ℕ × List ℕ) Refusal
joined_cut (Ok chunks) = Ok (with_offsets chunks)
joined_cut (Err why) = Err why

-- the chunks of a range of the named xorb, where it is stored and has them
abbrev pub term_of : StoreModel → Range ℕ _C → Result (List ℕ) Refusal → Result (List ℕ × List ℕ) Refusal
term_of m range (Ok hash) = joined_cut (cut_of m hash range.start range.end)
term_of m range (Err why) = Err why

-- The link names a xorb, of which the range's chunks are the answer.
pub record GivesTerm (m : StoreModel) (info : FetchInfo) (at : ℕ) (result : Result (List ℕ × List ℕ) Refusal) : Type 0 where
  pub named : Result (List ℕ) Refusal
  pub names : NamesXorb info.url info.url_range at m.expiration named
  pub term : result ≡ term_of m info.range named

-- offsets as the list that they are
abbrev pub with_items : Result (List ℕ × Vec ℕ) Refusal → Result (List ℕ × List ℕ) Refusal
with_items (Ok term) = Ok (term.0, term.1.items)
with_items (Err why) = Err why
