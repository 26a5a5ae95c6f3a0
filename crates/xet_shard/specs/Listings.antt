-- A shard as a value.
use Rattle.std.specs.Prelude.{ℕ, List, []}
use Rattle.xet_shard.specs.Values.{Listing, ListedXorb}

-- the expiry in seconds, 0 for none, the files and the xorbs
pub record ShardModel : Type 0 where
  pub expiry : ℕ
  pub files : List Listing
  pub xorbs : List ListedXorb

abbrev pub shard_with : ℕ → List Listing → List ListedXorb → ShardModel
shard_with expiry files xorbs = record { expiry = expiry; files = files; xorbs = xorbs }

-- the xorbs of a shard, with no files, under another expiry
abbrev pub xorb_subset : ShardModel → ℕ → ShardModel
xorb_subset s expiry = shard_with expiry [] s.xorbs
