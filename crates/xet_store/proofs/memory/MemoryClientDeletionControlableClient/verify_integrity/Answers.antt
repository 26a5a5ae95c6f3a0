use Rattle.std.proofs.Common.{◌≡◌, ◌∙◌, ap, subst}
use Rattle.xet_bytes.proofs.Maps.{some_is}
use Rattle.xet_store.specs.Told.{Asks}
use Rattle.xet_store.specs.Checks.{checked, integrity}
use Rattle.xet_store.proofs.Told.{asks}
use Rattle.xet_store.proofs.memory.MemoryClientDeletionControlableClient.verify_integrity.Goals as goal

pub returns-clause-told : goal.returns-clause-told
returns-clause-told c = λ m e.
    subst (λ b. Asks (λ r. r ≡ checked b) c.passed.result) (c.in_ok-holds.ensures ∙ ap integrity c.self.view_is ∙ ap integrity (some_is c.args.self.now m e))
    (asks (λ r. r ≡ checked c.in_ok-holds.holds) c.passed.result c.passed.ensures)
