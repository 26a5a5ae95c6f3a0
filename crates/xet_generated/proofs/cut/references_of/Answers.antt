use Rattle.std.proofs.Common.{◌≡◌, ◌∙◌, ℕ, List, get_or, ap}
use Rattle.xet_xorb.specs.ChunkLists.{joined}
use Rattle.xet_generated.specs.Terms.{Term}
use Rattle.xet_generated.specs.Contents.{TermModel}
use Rattle.xet_generated.specs.Making.{cut_of, reference_of}
use Rattle.xet_generated.proofs.Pushing.{pushed, piece_taken, piece_passed}
use Rattle.xet_generated.proofs.cut.references_of.Goals as goal

pub loop-term-preserved : goal.loop-term-preserved
loop-term-preserved c =
    let none : Term = (0, (0, 0)) in
    let es = c.args.xorbs.now.entries in
    let terms = c.args.terms.now in
    let i = c.loop-term.term-index in
    let t = get_or terms i none in
    let piece : Term → List ℕ = λ u. joined (cut_of es u) in
    let with_content : List ℕ → TermModel = λ bs. record (reference_of es t) { content = bs } in
    let is : c.in_ok-take_reference.field-0 ≡ reference_of es t = c.in_ok-take_reference.ensures.reference ∙ ap with_content (piece_taken piece terms i none c.loop-term.rest c.loop-term-test.true c.loop-term.invariant.rest) in
    record {
      made = pushed (reference_of es) terms i none c.loop-term.references.items c.push.new.self.items c.in_ok-take_reference.field-0 c.loop-term-test.true c.loop-term.invariant.made is c.in_ok-push.ensures.items;
      rest = c.in_ok-take_reference.ensures.rest ∙ piece_passed piece terms i none c.loop-term.rest c.loop-term-test.true c.loop-term.invariant.rest;
    }
