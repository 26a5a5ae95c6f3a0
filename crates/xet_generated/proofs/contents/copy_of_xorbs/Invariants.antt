use Rattle.xet_generated.proofs.Copies.{IsCopied}
use Rattle.xet_generated.proofs.contents.copy_of_xorbs.Given as goal

abbrev pub invariant-loop-hash : goal.invariant-loop-hash
invariant-loop-hash l = IsCopied l.copy.entries l.hash-iterator l.fn.xorbs.entries
