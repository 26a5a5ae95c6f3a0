use Rattle.std.proofs.Common.{◌≡◌, take}
use Rattle.std.specs.List.{concat}
use Rattle.xet_service.specs.Gathering.{after_text}
use Rattle.xet_service.proofs.reader.gather.Gathering.push_all.Given as goal

abbrev pub invariant-loop-chunk : goal.invariant-loop-chunk
invariant-loop-chunk l = l.self ≡ after_text l.fn.self (concat (take l.chunk-index l.chunks))
