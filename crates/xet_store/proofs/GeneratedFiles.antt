-- The parts of a generated file.
use Rattle.std.proofs.Common.{◌≡◌, ℕ, List, refl}
use Rattle.xet_generated.specs.Terms.{Term, xorbs_of}
use Rattle.xet_generated.specs.Shards.{generated_shard}
use Rattle.xet_generated.specs.Contents.{lazy_contents, full_contents, xorbs_by_hash}
use Rattle.xet_generated.specs.Making.{made_file, shard_of, full_contents_of}

pub made_contents : (terms : List Term) (size : ℕ) → (made_file terms size).contents ≡ lazy_contents terms size
unfolding made_file
made_contents terms size = refl

pub made_xorbs : (terms : List Term) (size : ℕ) → (made_file terms size).xorbs ≡ xorbs_of terms size
unfolding made_file
made_xorbs terms size = refl

pub made_shard : (terms : List Term) (size : ℕ) → shard_of (made_file terms size) ≡ generated_shard terms size
unfolding made_file generated_shard
made_shard terms size = refl

pub made_full : (terms : List Term) (size : ℕ) → full_contents_of (made_file terms size) ≡ full_contents terms size
unfolding made_file lazy_contents full_contents xorbs_by_hash
made_full terms size = refl
