use Rattle.std.proofs.Common.{◌≡◌, Option, Some, subst, sym, ap, ◌∙◌}
use Rattle.std.specs.Prelude.{⊤}
use Rattle.std.specs.FinMap.{FinMap}
use Rattle.xet_types.specs.Names.{hash_cmp}
use Rattle.xet_plan.specs.Places.{Known}
use Rattle.xet_store.specs.Answered.{Answered}
use Rattle.xet_store.specs.StoreModel.{StoreModel, Chunks, IsSound, listing, known_of}
use Rattle.xet_store.specs.Kept.{known_in}
use Rattle.xet_store.specs.Plans.{PlansListed}
use Rattle.xet_store.proofs.Planning.{planned}
use Rattle.xet_store.proofs.Search.{listed_back}
use Rattle.xet_store.proofs.memory.MemoryClient.plan.Goals as goal

abbrev told_of : Known → Option Known
told_of known = Some known

pub returns-in-Some-clause-answer : goal.returns-in-Some-clause-answer
returns-in-Some-clause-answer c =
    let m = c.args.self.now in
    let is : listing m c.args.file.now ≡ Some c.in-Some.listing.now.segments = listed_back c.args.file.now c.in-Some.listing.now (listing m c.args.file.now) c.in-Some.ensures in
    let same : c.new-footers.result.xorbs.now ≡ m.xorbs = c.new-footers.ensures ∙ ap (λ (s : StoreModel). s.xorbs) c.self.view_is in
    let told : told_of (known_in c.new-footers.result.xorbs.now) ≡ told_of (known_of m) = ap (λ (xs : FinMap hash_cmp Chunks). told_of (known_in xs)) same in
    subst (λ o. Answered c.compute_reconstruction_ranges.result (λ r. PlansListed (known_of m) c.args.range o r) ⊤) (sym is)
    (planned (known_of m) c.in-Some.listing.now.segments c.args.range c.compute_reconstruction_ranges.result (c.compute_reconstruction_ranges.ensures.answer (known_of m) told) c.compute_reconstruction_ranges.ensures.cause)

pub returns-in-Some-clause-sound : goal.returns-in-Some-clause-sound
returns-in-Some-clause-sound c = subst (λ (m : StoreModel). IsSound m) c.self.view_is c.self.invariant

pub returns-in-None-clause-sound : goal.returns-in-None-clause-sound
returns-in-None-clause-sound c = subst (λ (m : StoreModel). IsSound m) c.self.view_is c.self.invariant
