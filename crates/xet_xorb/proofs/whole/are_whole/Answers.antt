use Rattle.std.proofs.Common.{◌≡◌, eqb, true, false, length, List, [], ◌∷◌, ◌++◌, ℕ}
use Rattle.std.proofs.lemmas.List.Elements.{recursion_from_All}
use denote.Ref.{Bor}
use Rattle.xet_xorb.specs.ChunkLists.{IsChunk}
use Rattle.xet_xorb.proofs.ChunkText.{some_left, none_left, stops, reads_on}
use Rattle.xet_xorb.proofs.Walking.{none_taken, read_to_end}
use Rattle.xet_xorb.proofs.whole.are_whole.Goals as goal

pub returns-in_default : goal.returns-in_default
returns-in_default c = λ others are.
    let test : eqb (length c.loop-rest.rest.now) 0 ≡ false = cc in
    let none = none_taken {X = Bor (List ℕ) × Bor (List ℕ)} (λ x. x.0.now) (λ x. x.1.now) c.in_default.field-0 c.loop-rest.rest.now c.in_default.ensures.err c.in_default.ensures.value in
    stops c.args.content.now c.loop-rest.invariant.0 others c.loop-rest.rest.now (some_left c.loop-rest.rest.now test) c.loop-rest.invariant.1 none (recursion_from_All IsChunk others are.spelled.each) are.spelled.text

pub loop-rest-preserved : goal.loop-rest-preserved
loop-rest-preserved c = (
  c.loop-rest.invariant.0 ++ c.in-Ok.field-0-0.now ∷ [],
  reads_on c.args.content.now c.loop-rest.invariant.0 c.loop-rest.rest.now c.in-Ok.field-0-0.now c.in-Ok.behind.now c.loop-rest.invariant.1 c.in-Ok.ensures.value,
)

pub returns : goal.returns
returns c =
    let test : eqb (length c.loop-rest.rest.now) 0 ≡ true = cc in
    let empty : eqb (length c.args.content.now) 0 ≡ c.is_empty-2.result = cc in
    read_to_end c.args.content.now c.loop-rest.invariant.0 c.loop-rest.rest.now c.is_empty-2.result empty c.loop-rest.invariant.1 (none_left c.loop-rest.rest.now test)
