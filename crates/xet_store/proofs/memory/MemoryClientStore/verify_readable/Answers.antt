use Rattle.std.proofs.Common.{◌≡◌, ◌∙◌, Result, Ok, sym, ap, subst}
use Rattle.std.specs.Prelude.{⊤}
use Rattle.xet_types.specs.declared.error.ClientError.{ClientError}
use Rattle.xet_bytes.proofs.Maps.{some_is}
use Rattle.xet_store.specs.Answered.{Answered}
use Rattle.xet_store.specs.Checks.{checked, readable}
use Rattle.xet_store.proofs.ServingLaws.{serving, check_holds}
use Rattle.xet_store.proofs.memory.MemoryClientStore.verify_readable.Goals as goal

pub returns-clause-serves : goal.returns-clause-serves
returns-clause-serves c = λ m e ok.
    let said = subst (λ (r : Result (Unit {0}) ClientError). Answered r (λ x. x ≡ checked c.in_ok-holds.holds) ⊤) ok c.passed.ensures in
    serving m (ap readable (sym (some_is c.args.self.now m e)) ∙ sym c.in_ok-holds.ensures ∙ check_holds c.in_ok-holds.holds said)
