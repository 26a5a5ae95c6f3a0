use Rattle.std.proofs.Common.{◌∙◌, List, ℕ, ap}
use Rattle.xet_store.specs.Entries.{filled, without_places}
use Rattle.xet_store.proofs.Entries.{dropped}
use Rattle.xet_store.proofs.memory.entries.drop_named.Goals as goal

pub returns-clause-ok : goal.returns-clause-ok
returns-clause-ok c =
    ap filled c.take_out.ensures
    ∙ ap (λ (cs : List (List ℕ)). filled (without_places c.args.entries.now cs c.args.name.now)) (c.deref.ensures.value ∙ c.in_ok-chunks.ensures)
    ∙ dropped c.args.entries.now c.args.name.now
