use Rattle.std.proofs.Common.{◌≡◌, ◌*◌, ◌≤◌, take}
use Rattle.xet_shard.specs.Values.{size_of}
use Rattle.xet_shard.proofs.listing.FileListing.file_size.Given as goal

abbrev pub invariant-loop-segment : goal.invariant-loop-segment
invariant-loop-segment l = record { sum : l.size ≡ size_of (take l.segment-index l.segment-items); small : l.size ≤ l.segment-index * 4294967295 }
