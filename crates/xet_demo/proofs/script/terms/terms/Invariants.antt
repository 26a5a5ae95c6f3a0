use Rattle.std.proofs.Common.{◌≡◌, length}
use Rattle.std.specs.Option.{option_copied}
use Rattle.xet_demo.specs.Words.{parts_after}
use Rattle.xet_demo.specs.Terms.{terms_of}
use Rattle.xet_demo.proofs.TermWords.{behind}
use Rattle.xet_demo.proofs.script.terms.terms.Given as goal

-- the terms so far and those of the words that are left
abbrev pub invariant-words : goal.invariant-words
invariant-words l = behind l.terms.items (terms_of (parts_after 32 (option_copied l.left))) ≡ terms_of (parts_after 32 (option_copied l.fn.words))

abbrev pub decreases-words : goal.decreases-words
decreases-words l = length (parts_after 32 (option_copied l.left))
