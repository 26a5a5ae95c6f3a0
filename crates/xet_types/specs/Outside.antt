-- What the forms in memory tell.
use Rattle.std.specs.Prelude.{◌≡◌, ◌-◌, ℕ, List, drop, length, min, Option, Some}
use Rattle.xet_types.specs.Failures.{Failures}
use Rattle.xet_types.specs.declared.outside.source.MemorySource.{MemorySource}
use Rattle.xet_types.specs.declared.outside.sink.MemorySink.{MemorySink}

-- the bytes still to come
abbrev pub left_of : MemorySource → Option (List ℕ)
left_of s = Some (drop s.position s.content.items)

-- a read gives as many bytes as there are, up to the room
abbrev pub ReadsAll : MemorySource → ℕ → ℕ → Type 0
ReadsAll s room count = count ≡ min (length s.content.items - s.position) room

-- the bytes so far
abbrev pub taken_of : MemorySink → Option (List ℕ)
taken_of s = Some s.content.items

-- which calls of a source are to fail, and how many came and failed
abbrev pub source_failures : MemorySource → Failures
source_failures s = s.failing

-- the same of a sink
abbrev pub sink_failures : MemorySink → Failures
sink_failures s = s.failing
