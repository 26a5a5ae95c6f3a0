-- How many bytes the entries of a shard take.
use Rattle.std.specs.Prelude.{ℕ, ◌+◌, ◌*◌, length}
use Rattle.xet_shard.specs.Values.{Listing, ListedXorb}

-- a hash, a count, and 48 bytes for each segment
abbrev pub listing_len : Listing → ℕ
listing_len f = 36 + 48 * length f.segments

-- a hash, two numbers, and 48 bytes for each chunk
abbrev pub listed_xorb_len : ListedXorb → ℕ
listed_xorb_len x = 40 + 48 * length x.chunks
