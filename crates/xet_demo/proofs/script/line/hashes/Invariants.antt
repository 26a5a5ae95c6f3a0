use Rattle.std.proofs.Common.{◌≡◌, ◌++◌, List, ℕ, length}
use Rattle.std.specs.Option.{option_copied, option_map}
use Rattle.xet_demo.specs.Words.{parts_after}
use Rattle.xet_demo.specs.Lines.{hashes_of}
use Rattle.xet_demo.proofs.script.line.hashes.Given as goal

abbrev pub invariant-loop-rest : goal.invariant-loop-rest
invariant-loop-rest l = option_map (λ (hs : List (List ℕ)). l.hashes.items ++ hs) (hashes_of (parts_after 32 (option_copied l.rest))) ≡ hashes_of (parts_after 32 (option_copied l.fn.words))

abbrev pub decreases-loop-rest : goal.decreases-loop-rest
decreases-loop-rest l = length (parts_after 32 (option_copied l.rest))
