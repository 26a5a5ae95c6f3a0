use Rattle.std.proofs.Common.{◌≡◌, take, drop, map}
use Rattle.std.specs.Prelude.{filter}
use Rattle.std.specs.List.{fold, flat_map, list_any, list_all}
use Rattle.std.specs.FinMap.{get}
use Rattle.std.specs.FinMap as finmap
use Rattle.std.specs.Option.{is_some}
use Rattle.xet_store.specs.Lists.{is_shown, set_with, set_of}
use Rattle.xet_store.specs.Checks.{xorb_of, xorbs_of, named_in, listed_in_shard, files_in}
use Rattle.xet_store.specs.Checking.{noted_all, noted_in, fits_noted, files_fit, are_stored, lists_one, is_reached_by, is_readable_in}
use Rattle.xet_shard.specs.Canonical.{file_hash_of, xorb_hash_of}
use Rattle.xet_store.proofs.memory.checks.listed_files.Given as goal

abbrev pub invariant-loop-shard : goal.invariant-loop-shard
invariant-loop-shard l = set_with l.files (flat_map files_in l.shard-iterator) ≡ set_of (flat_map files_in l.shards)
