-- What the checks of a store ask.
use Rattle.std.specs.Prelude.{◌≡◌, ℕ, ◌<◌, Bool, true, false, not, ◌||◌, ◌&&◌, ◌==◌, nat_le, List, [], ◌∷◌, map, length, Option, Some, None, Result, Ok, Err, if◌then◌else◌}
use Rattle.std.specs.Option.{is_some, option_map}
use Rattle.std.specs.Ordering.{is_lt}
use Rattle.std.specs.List.{fold, flat_map, list_any, list_all}
use Rattle.xet_types.specs.Names.{hash_cmp, same_hash}
use Rattle.xet_types.specs.declared.error.Refusal.{Refusal}
use Rattle.xet_types.specs.declared.error.Refusal.TheVariants.{Other}
use Rattle.xet_shard.specs.declared.listing.Segment.{Segment}
use Rattle.xet_shard.specs.Values.{Listing, ListedXorb, listed_length, size_of}
use Rattle.xet_shard.specs.Listings.{ShardModel}
use Rattle.xet_shard.specs.Canonical.{shard_name, file_hash_of, xorb_hash_of}
use Rattle.xet_types.specs.declared.range.Range.{Range}
use Rattle.xet_types.specs.declared.range._F.{_F}
use Rattle.xet_plan.specs.Places.{Interval, reach, fault}
use Rattle.xet_plan.specs.declared.place.Reach.TheVariants.{Within}
use Rattle.xet_plan.specs.Runs.{InGroups}
use Rattle.xet_plan.specs.Plans.{PlanModel}
use Rattle.xet_plan.specs.Answers.{groups_of}
use Rattle.xet_store.specs.StoreModel.{StoreModel, Chunks, Hashes, stored, listing, known_of}
use Rattle.xet_store.specs.Plans.{PlansFile}
use Rattle.xet_store.specs.Questions.{xorb_exists, xorb_hashes}
use Rattle.xet_store.specs.Lists.{is_shown, shown_files}

-- a check is refused where it fails
abbrev pub checked : Bool → Result (Unit {0}) Refusal
checked true = Ok tt
checked false = Err Other

-- the hash is one of these
abbrev pub is_among : List (List ℕ) → List ℕ → Bool
is_among hashes hash = list_any (λ h. same_hash h hash) hashes

-- ---- integrity

-- how many chunks a shard lists of the xorb
abbrev pub count_in : List ListedXorb → List ℕ → Option ℕ
count_in [] hash = None
count_in (x ∷ xs) hash = if same_hash x.xorb_hash hash then Some (length x.chunks) else count_in xs hash

-- the name of a shard that lists a xorb, and how many chunks it lists of it
abbrev pub Counted : Type 0
Counted = List ℕ × ℕ

abbrev pub counted_by : List ℕ → List ListedXorb → List ℕ → Option Counted
counted_by name xorbs hash = option_map (λ n. (name, n)) (count_in xorbs hash)

-- the one of the lesser name
abbrev pub lesser : Option Counted → Option Counted → Option Counted
lesser None o = o
lesser (Some a) None = Some a
lesser (Some a) (Some b) = if is_lt (hash_cmp b.0 a.0) then Some b else Some a

-- of the shards that list the xorb the one of least name, and how many chunks it lists of it
abbrev pub least_count : List ShardModel → List ℕ → Option Counted
least_count shards hash = fold (λ o s. lesser o (counted_by (shard_name s) s.xorbs hash)) None shards

abbrev pub fits_count : StoreModel → Segment → Option Counted → Bool
fits_count m segment None = xorb_exists m segment.xorb_hash
fits_count m segment (Some counted) = nat_le segment.chunk_index_end counted.1

-- Where stored shards list the segment's xorb, its chunks end at most at the count that the one of least name lists. Else the xorb
-- is stored.
abbrev pub fits : StoreModel → Segment → Bool
fits m segment = fits_count m segment (least_count m.shards segment.xorb_hash)

-- each segment of each listing of the shard that isn't hidden fits
abbrev pub all_fit : StoreModel → ShardModel → Bool
all_fit m s = list_all (λ f. list_all (fits m) f.segments) (shown_files m.hidden s)

-- each xorb that the shard lists is stored
abbrev pub lists_stored : StoreModel → ShardModel → Bool
lists_stored m s = list_all (λ x. xorb_exists m x.xorb_hash) s.xorbs

abbrev pub integrity : StoreModel → Bool
integrity m = list_all (lists_stored m) m.shards && list_all (all_fit m) m.shards

-- ---- reachability

abbrev pub xorb_of : Segment → List ℕ
xorb_of segment = segment.xorb_hash

abbrev pub xorbs_of : Listing → List (List ℕ)
xorbs_of f = map xorb_of f.segments

abbrev pub named_in : Hashes → ShardModel → List (List ℕ)
named_in hidden s = flat_map xorbs_of (shown_files hidden s)

-- the xorbs that a segment of some listing names that isn't hidden
abbrev pub named_xorbs : StoreModel → List (List ℕ)
named_xorbs m = flat_map (named_in m.hidden) m.shards

abbrev pub listed_in_shard : ShardModel → List (List ℕ)
listed_in_shard s = map xorb_hash_of s.xorbs

-- the xorbs that a stored shard lists
abbrev pub listed_xorbs : StoreModel → List (List ℕ)
listed_xorbs m = flat_map listed_in_shard m.shards

-- the shard lists a file that isn't hidden, or a xorb that is named
abbrev pub is_reached : StoreModel → ShardModel → Bool
is_reached m s = list_any (is_shown m.hidden) s.files || list_any (λ x. is_among (named_xorbs m) x.xorb_hash) s.xorbs

-- the xorb is named, or a stored shard lists it
abbrev pub is_held : StoreModel → List ℕ → Bool
is_held m hash = is_among (named_xorbs m) hash || is_among (listed_xorbs m) hash

abbrev pub reachable : StoreModel → Bool
reachable m = list_all (is_reached m) m.shards && list_all (is_held m) (xorb_hashes m)

-- ---- readable files

-- the segment has no bytes, or agrees with its stored xorb
abbrev pub is_readable : StoreModel → Segment → Bool
is_readable m segment = listed_length segment == 0 || not (is_some (fault (known_of m) segment))

abbrev pub all_readable : StoreModel → Option (List Segment) → Bool
all_readable m None = true
all_readable m (Some segments) = list_all (is_readable m) segments

abbrev pub files_in : ShardModel → List (List ℕ)
files_in s = map file_hash_of s.files

-- the files that a stored shard lists
abbrev pub listed_files : StoreModel → List (List ℕ)
listed_files m = flat_map files_in m.shards

-- each segment of each live file's listing is readable
abbrev pub readable : StoreModel → Bool
readable m = list_all (λ file. all_readable m (listing m file)) (listed_files m)

-- ---- what readable files give

-- the same xorbs, shards and hidden files
pub record HaveSameSets (m n : StoreModel) : Type 0 where
  pub xorbs : n.xorbs ≡ m.xorbs
  pub shards : n.shards ≡ m.shards
  pub hidden : n.hidden ≡ m.hidden

abbrev pub IsPlanned : Result (Option PlanModel) Refusal → Type 0
IsPlanned (Ok (Some plan)) = Unit {0}
IsPlanned (Ok None) = ⊥
IsPlanned (Err why) = ⊥

-- chunk k of the xorb is there
pub record HasChunk (m : StoreModel) (hash : List ℕ) (k : ℕ) : Type 0 where
  pub chunks : Chunks
  pub there : stored m hash ≡ Some chunks
  pub inside : k < length chunks

-- While a store has these sets, each range of a live file that begins inside it, and isn't empty or reversed, is planned, and each
-- chunk of the plan's links is there to be fetched.
pub record IsServing (m : StoreModel) : Type 0 where
  pub planned : (n : StoreModel) (file : List ℕ) (range : Option (Range ℕ _F)) (segments : List Segment) (start end : ℕ) (answer : Result (Option PlanModel) Refusal) → HaveSameSets m n → listing n file ≡ Some segments
      → reach (size_of segments) range ≡ Within start end → PlansFile n file range answer → IsPlanned answer
  pub served : (n later : StoreModel) (file : List ℕ) (range : Option (Range ℕ _F)) (plan : PlanModel) → HaveSameSets m n → HaveSameSets m later → PlansFile n file range (Ok (Some plan))
      → (hash : List ℕ) (k : ℕ) → InGroups (groups_of plan) hash k → HasChunk later hash k
