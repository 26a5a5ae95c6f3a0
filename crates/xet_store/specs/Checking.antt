-- How the store in memory makes its checks.
use Rattle.std.specs.Prelude.{◌≡◌, ℕ, Bool, true, false, not, ◌||◌, ◌==◌, nat_le, List, map, length, Option, Some, None, if◌then◌else◌}
use Rattle.std.specs.Option.{is_some}
use Rattle.std.specs.Ordering.{is_lt}
use Rattle.std.specs.List.{fold, list_any, list_all}
use Rattle.std.specs.FinMap.{FinMap, get, insert}
use Rattle.std.specs.FinMap as finmap
use Rattle.xet_types.specs.Names.{hash_cmp}
use Rattle.xet_shard.specs.declared.listing.Segment.{Segment}
use Rattle.xet_shard.specs.Values.{Listing, ListedXorb, listed_length}
use Rattle.xet_shard.specs.Listings.{ShardModel}
use Rattle.xet_shard.specs.Canonical.{shard_name}
use Rattle.xet_plan.specs.Places.{fault}
use Rattle.xet_store.specs.StoreModel.{StoreModel, Chunks, Hashes, never, unlimited}
use Rattle.xet_store.specs.Kept.{known_in}
use Rattle.xet_store.specs.Lists.{is_shown}
use Rattle.xet_store.specs.Checks.{Counted}

-- a store of these parts
abbrev pub parts : FinMap hash_cmp Chunks → List ShardModel → Hashes → StoreModel
parts xorbs shards hidden = record { xorbs = xorbs; shards = shards; hidden = hidden; dedup = finmap.empty; expiration = never; max_ranges = unlimited; dedup_seconds = None }

-- for xorbs the least name of a shard that lists them, and the count
abbrev pub Counts : Type 0
Counts = FinMap hash_cmp Counted

-- a shard of this name, or a lesser one, was noted
abbrev pub is_noted : List ℕ → Option Counted → Bool
is_noted name None = false
is_noted name (Some counted) = not (is_lt (hash_cmp name counted.0))

abbrev pub noted : List ℕ → Counts → ListedXorb → Counts
noted name counts x = if is_noted name (get counts x.xorb_hash) then counts else insert counts x.xorb_hash (name, length x.chunks)

abbrev pub noted_all : Counts → List ℕ → List ListedXorb → Counts
noted_all counts name xorbs = fold (noted name) counts xorbs

abbrev pub noted_in : Counts → ShardModel → Counts
noted_in counts s = noted_all counts (shard_name s) s.xorbs

abbrev pub has_chunks : FinMap hash_cmp Chunks → Segment → Option Counted → Bool
has_chunks xorbs segment None = is_some (get xorbs segment.xorb_hash)
has_chunks xorbs segment (Some counted) = nat_le segment.chunk_index_end counted.1

-- the segment fits what was noted
abbrev pub fits_noted : Counts → FinMap hash_cmp Chunks → Segment → Bool
fits_noted counts xorbs segment = has_chunks xorbs segment (get counts segment.xorb_hash)

-- the files that aren't hidden fit
abbrev pub files_fit : Counts → FinMap hash_cmp Chunks → Hashes → List Listing → Bool
files_fit counts xorbs hidden files = list_all (λ f. not (is_shown hidden f) || list_all (fits_noted counts xorbs) f.segments) files

abbrev pub are_stored : FinMap hash_cmp Chunks → List ListedXorb → Bool
are_stored xorbs listed = list_all (λ x. is_some (get xorbs x.xorb_hash)) listed

-- one of the xorbs is in the set
abbrev pub lists_one : Hashes → List ListedXorb → Bool
lists_one set xorbs = list_any (λ x. is_some (get set x.xorb_hash)) xorbs

abbrev pub is_reached_by : Hashes → Hashes → ShardModel → Bool
is_reached_by named hidden s = list_any (is_shown hidden) s.files || lists_one named s.xorbs

abbrev pub is_readable_in : FinMap hash_cmp Chunks → Segment → Bool
is_readable_in xorbs segment = listed_length segment == 0 || not (is_some (fault (known_in xorbs) segment))
