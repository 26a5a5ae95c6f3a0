use Rattle.std.proofs.Common.{◌+◌, length, take, List, ℕ, subst, sym}
use Rattle.std.proofs.lemmas.List.{take_rest}
use Rattle.xet_wire.specs.Multipart.{IsCutAround}
use Rattle.xet_wire.proofs.Words.{cut_found, stands_nowhere}
use Rattle.xet_wire.proofs.multipart.boundary.behind.Goals as goal

pub returns-in-Some : goal.returns-in-Some
returns-in-Some c = (_, subst (λ (a : List ℕ). IsCutAround c.args.word.now c.args.bytes.now (take c.in-Some.at c.args.bytes.now) a) (sym (take_rest c.args.bytes.now (c.in-Some.at + length c.args.word.now))) (cut_found _ _ _ c.in-Some.ensures))

pub returns-in-None : goal.returns-in-None
returns-in-None c = stands_nowhere _ _ c.in-None.ensures
