-- What a store answers that is only asked.
use Rattle.std.specs.Prelude.{◌≡◌, ℕ, ◌+◌, ◌-◌, ◌/◌, ◌^◌, Bool, false, ◌||◌, ◌&&◌, nat_lt, nat_le, min, List, [], ◌∷◌, map, sum, length, slice_range, Option, Some, None, Result, Ok, Err, if◌then◌else◌}
use Rattle.std.specs.Global.{Vec}
use Rattle.std.specs.Option.{is_some, option_map, option_and_then}
use Rattle.std.specs.FinMap.{get, keys}
use Rattle.xet_types.specs.declared.error.Refusal.{Refusal}
use Rattle.xet_types.specs.declared.error.Refusal.TheVariants.{FileNotFound, XORBNotFound, InvalidRange}
use Rattle.xet_types.specs.declared.range.Range.{Range}
use Rattle.xet_types.specs.declared.range._F.{_F}
use Rattle.xet_xorb.specs.Lengths.{serialized_length}
use Rattle.xet_xorb.specs.Values.{Xorb}
use Rattle.xet_xorb.specs.ChunkLists.{lengths_of, object_of, joined}
use Rattle.xet_xorb.specs.XorbBytes.{xorb_bytes}
use Rattle.xet_shard.specs.declared.listing.Segment.{Segment}
use Rattle.xet_shard.specs.Values.{Listing, size_of}
use Rattle.xet_shard.specs.Listings.{ShardModel, xorb_subset}
use Rattle.xet_shard.specs.ShardBytes.{shard_bytes}
use Rattle.xet_shard.specs.Canonical.{shard_name, canonical_text}
use Rattle.xet_plan.specs.Places.{Interval, interval, first_fault}
use Rattle.xet_plan.specs.FileBytes.{file_bytes}
use Rattle.xet_store.specs.StoreModel.{StoreModel, Chunks, stored, live, listing, known_of, content_of, shard_named}

-- The bytes that a range asks of so many. No range asks all. None where the start is at or past the end of all, or the range's
-- end is below its start; a range whose ends are equal asks no bytes.
abbrev pub asked : ℕ → Option (Range ℕ _F) → Option Interval
asked size None = Some (interval 0 size)
asked size (Some r) = if nat_le size r.start || nat_lt r.end r.start then None else Some (interval r.start (min r.end size))

-- ---- files

-- a file's segments under its hash
abbrev pub listed_as : List ℕ → List Segment → Listing
listed_as file segments = record { file_hash = file; segments = segments }

-- where the file is live, its listing, and the name of the shard that lists it
abbrev pub file_info : StoreModel → List ℕ → Option (Listing × Option (List ℕ))
file_info m file = option_map (λ segments. (listed_as file segments, option_map shard_name (live m file))) (listing m file)

abbrev pub size_listed : List ℕ → Option (List Segment) → Result ℕ Refusal
size_listed file None = Err (FileNotFound file)
size_listed file (Some segments) = Ok (size_of segments)

-- the size of a live file
abbrev pub file_size : StoreModel → List ℕ → Result ℕ Refusal
file_size m file = size_listed file (listing m file)

abbrev pub data_agreed : StoreModel → List Segment → Interval → Option Refusal → Result (List ℕ) Refusal
data_agreed m segments clip (Some why) = Err why
data_agreed m segments clip None = Ok (file_bytes (content_of m) clip segments)

-- the bytes of an interval of a file; else the first fault of a segment that it meets
abbrev pub data_at : StoreModel → List Segment → Interval → Result (List ℕ) Refusal
data_at m segments clip = data_agreed m segments clip (first_fault (known_of m) clip segments)

abbrev pub data_asked : StoreModel → List Segment → Option Interval → Result (List ℕ) Refusal
data_asked m segments None = Err InvalidRange
data_asked m segments (Some clip) = data_at m segments clip

abbrev pub data_listed : StoreModel → List ℕ → Option (Range ℕ _F) → Option (List Segment) → Result (List ℕ) Refusal
data_listed m file range None = Err (FileNotFound file)
data_listed m file range (Some segments) = data_asked m segments (asked (size_of segments) range)

-- the bytes of a live file that the range asks; else the first fault of a segment that the range meets
abbrev pub file_data : StoreModel → List ℕ → Option (Range ℕ _F) → Result (List ℕ) Refusal
file_data m file range = data_listed m file range (listing m file)

-- ---- xorbs

-- the hashes of the stored xorbs, in order
abbrev pub xorb_hashes : StoreModel → List (List ℕ)
xorb_hashes m = keys m.xorbs

-- a xorb is stored
abbrev pub xorb_exists : StoreModel → List ℕ → Bool
xorb_exists m hash = is_some (stored m hash)

-- what a stored xorb gives
abbrev pub of_xorb : {T : Type 0} → List ℕ → (Chunks → Result T Refusal) → Option Chunks → Result T Refusal
of_xorb hash f None = Err (XORBNotFound hash)
of_xorb hash f (Some chunks) = f chunks

-- what is known of a xorb without its bytes
abbrev pub xorb_footer : StoreModel → List ℕ → Result Xorb Refusal
xorb_footer m hash = of_xorb hash (λ chunks. Ok (object_of chunks)) (stored m hash)

-- its length with its footer
abbrev pub xorb_raw_length : StoreModel → List ℕ → Result ℕ Refusal
xorb_raw_length m hash = of_xorb hash (λ chunks. Ok (serialized_length (lengths_of chunks))) (stored m hash)

abbrev pub sliced : List ℕ → Option Interval → Result (List ℕ) Refusal
sliced bytes None = Err InvalidRange
sliced bytes (Some part) = Ok (slice_range bytes part.start part.end)

-- the bytes that a range asks of these
abbrev pub bytes_asked : List ℕ → Option (Range ℕ _F) → Result (List ℕ) Refusal
bytes_asked bytes range = sliced bytes (asked (length bytes) range)

-- the bytes of a xorb with its footer that the range asks
abbrev pub xorb_raw_bytes : StoreModel → List ℕ → Option (Range ℕ _F) → Result (List ℕ) Refusal
xorb_raw_bytes m hash range = of_xorb hash (λ chunks. bytes_asked (xorb_bytes chunks) range) (stored m hash)

-- its chunks, joined
abbrev pub full_xorb : StoreModel → List ℕ → Result (List ℕ) Refusal
full_xorb m hash = of_xorb hash (λ chunks. Ok (joined chunks)) (stored m hash)

-- how many bytes its chunks have together
abbrev pub xorb_length : StoreModel → List ℕ → Result ℕ Refusal
xorb_length m hash = of_xorb hash (λ chunks. Ok (sum (lengths_of chunks))) (stored m hash)

-- of so many chunks some in the range aren't there
abbrev pub is_past : ℕ → ℕ × ℕ → Bool
is_past count range = nat_lt range.0 range.1 && nat_lt count range.1

abbrev pub any_past : ℕ → List (ℕ × ℕ) → Bool
any_past count [] = false
any_past count (range ∷ ranges) = is_past count range || any_past count ranges

-- the chunks of a range, joined; no bytes where it is empty or reversed
abbrev pub range_bytes : Chunks → ℕ × ℕ → List ℕ
range_bytes chunks range = joined (slice_range chunks range.0 range.1)

-- the bytes of each range, where no range goes past the last chunk
abbrev pub bytes_of_ranges : List (ℕ × ℕ) → Chunks → Result (List (List ℕ)) Refusal
bytes_of_ranges ranges chunks = if any_past (length chunks) ranges then Err InvalidRange else Ok (map (range_bytes chunks) ranges)

-- The bytes of ranges of a xorb's chunks. Where no range is given, no xorb is asked, and there is one text without bytes.
abbrev pub xorb_ranges : StoreModel → List ℕ → List (ℕ × ℕ) → Result (List (List ℕ)) Refusal
xorb_ranges m hash [] = Ok ([] ∷ [])
xorb_ranges m hash (range ∷ ranges) = of_xorb hash (bytes_of_ranges (range ∷ ranges)) (stored m hash)

-- the answer has these items, or is this refusal
abbrev pub HasItems : {T : Type 0} → Result (List T) Refusal → Result (Vec T) Refusal → Type 0
HasItems (Ok items) (Ok v) = v.items ≡ items
HasItems (Err why) (Err e) = e ≡ why
HasItems (Ok items) (Err e) = ⊥
HasItems (Err why) (Ok v) = ⊥

-- ---- deduplication

-- the moment in whole seconds at which an answer given at a moment in milliseconds expires
abbrev pub expiry_at : ℕ → ℕ → ℕ
expiry_at at seconds = min (at / 1000 + seconds) (2 ^ 64 - 1)

-- a shard as it is answered: its canonical text; where answers expire, its xorbs without files, with the moment
abbrev pub dedup_text : Option ℕ → ℕ → ShardModel → List ℕ
dedup_text None at s = canonical_text s
dedup_text (Some seconds) at s = shard_bytes (xorb_subset s (expiry_at at seconds))

-- the stored shard that the chunk's entry names
abbrev pub dedup_shard : StoreModel → List ℕ → Option ShardModel
dedup_shard m chunk = option_and_then (shard_named m.shards) (get m.dedup chunk)

-- the text of the shard that has the chunk, at a moment in milliseconds
abbrev pub dedup_answer : StoreModel → List ℕ → ℕ → Option (List ℕ)
dedup_answer m chunk at = option_map (dedup_text m.dedup_seconds at) (dedup_shard m chunk)
