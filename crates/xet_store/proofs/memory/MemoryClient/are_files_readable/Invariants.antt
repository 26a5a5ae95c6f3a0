use Rattle.std.proofs.Common.{◌≡◌, drop}
use Rattle.std.specs.List.{list_all}
use Rattle.xet_store.specs.StoreModel.{listing}
use Rattle.xet_store.specs.Checks.{all_readable}
use Rattle.xet_store.proofs.memory.MemoryClient.are_files_readable.Given as goal

abbrev pub invariant-loop-file : goal.invariant-loop-file
invariant-loop-file l = list_all (λ file. all_readable l.self (listing l.self file)) (drop l.file-index l.files) ≡ list_all (λ file. all_readable l.self (listing l.self file)) l.files
