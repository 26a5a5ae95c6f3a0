use Rattle.std.proofs.Common.{◌≡◌, take}
use Rattle.std.specs.FinMap.{entries}
use Rattle.xet_shard.specs.Canonical.{file_hash_of, last_entries}
use Rattle.xet_shard.proofs.canonical_form.files_by_hash.Given as goal

abbrev pub invariant-loop-file : goal.invariant-loop-file
invariant-loop-file l = l.last.entries ≡ entries (last_entries file_hash_of (take l.file-index l.files))
