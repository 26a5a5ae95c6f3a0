use Rattle.std.proofs.Common.{◌≡◌, Option, Some, ap, ◌∙◌}
use Rattle.std.specs.FinMap.{FinMap}
use Rattle.xet_types.specs.Names.{hash_cmp}
use Rattle.xet_plan.specs.Places.{Known}
use Rattle.xet_store.specs.StoreModel.{StoreModel, Chunks, known_of}
use Rattle.xet_store.specs.Kept.{known_in}
use Rattle.xet_store.proofs.memory.MemoryClientFooters.footer.Goals as goal

abbrev told_of : Known → Option Known
told_of known = Some known

pub returns-clause-answer : goal.returns-clause-answer
returns-clause-answer c = λ known e.
    let same : c.new-footers.result.xorbs.now ≡ c.args.self.now.xorbs = c.new-footers.ensures ∙ ap (λ (s : StoreModel). s.xorbs) c.self.view_is in
    let told : told_of (known_in c.new-footers.result.xorbs.now) ≡ told_of (known_of c.args.self.now) = ap (λ (xs : FinMap hash_cmp Chunks). told_of (known_in xs)) same in
    c.footer.ensures.answer known (told ∙ e)
