use Rattle.std.proofs.Common.{◌∙◌, ℕ, List, map, sym, ap, subst}
use Rattle.std.specs.Prelude.{All}
use Rattle.xet_generated.specs.Making.{seeded_under}
use Rattle.std.specs.Map.{values_of}
use Rattle.xet_xorb.specs.Lengths.{AreLengths}
use Rattle.std.specs.Prelude.{replicate}
use Rattle.xet_generated.proofs.Whole.{are_cuts, is_made, can_generate, ends_can, few_xorbs}
use Rattle.xet_generated.proofs.file.GeneratedFile.new.Goals as goal

abbrev Can : ℕ → List (ℕ × ℕ) → Type 0
Can size es = All (λ end. AreLengths (replicate end size)) (values_of es)

pub returns-then-not-are_possible : goal.returns-then-not-are_possible
returns-then-not-are_possible c = λ can.
    let holds = c.are_possible.ensures.1 (subst (Can c.args.chunk_size) (sym c.in_ok-ends.ensures) (ends_can c.args.terms.now c.args.chunk_size can)) in
    let test = c.if-not-are_possible.true in
    let no : ⊥ = cc in absurd no

pub file_among-requires-clause-few_xorbs : goal.file_among-requires-clause-few_xorbs
file_among-requires-clause-few_xorbs c =
    few_xorbs c.args.terms.now c.args.chunk_size c.in_ok-xorbs.xorbs.entries (c.in_ok-xorbs.ensures ∙ ap (map (seeded_under c.args.chunk_size)) c.in_ok-ends.ensures) (c.are_terms.ensures.0 c.if-not-are_terms.false).0

pub file_among-requires-clause-cuts : goal.file_among-requires-clause-cuts
file_among-requires-clause-cuts c =
    are_cuts c.args.terms.now c.args.chunk_size c.in_ok-xorbs.xorbs.entries (c.in_ok-xorbs.ensures ∙ ap (map (seeded_under c.args.chunk_size)) c.in_ok-ends.ensures) (c.are_terms.ensures.0 c.if-not-are_terms.false).1
    (subst (Can c.args.chunk_size) c.in_ok-ends.ensures (c.are_possible.ensures.0 c.if-not-are_possible.false))

pub returns : goal.returns
returns c =
    let terms = c.args.terms.now in
    let size = c.args.chunk_size in
    let fine = c.are_terms.ensures.0 c.if-not-are_terms.false in (
      can_generate terms size fine.0 fine.1 (subst (Can size) c.in_ok-ends.ensures (c.are_possible.ensures.0 c.if-not-are_possible.false)),
      c.in_ok-file_among.ensures ∙ is_made terms size c.in_ok-xorbs.xorbs.entries (c.in_ok-xorbs.ensures ∙ ap (map (seeded_under size)) c.in_ok-ends.ensures),
    )
