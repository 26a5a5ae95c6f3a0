use Rattle.std.proofs.Common.{◌∙◌, ℕ, List, max, Option, get_or, take, sym, ap}
use Rattle.std.specs.FinMap.{empty, entries}
use Rattle.std.specs.Option.{unwrap_or}
use Rattle.std.proofs.lemmas.List.{take_all}
use Rattle.std.proofs.lemmas.List.Sums.{fold_more}
use Rattle.xet_generated.specs.Terms.{Term}
use Rattle.xet_generated.proofs.Ends.{with_end, so_far, one_more, nothing, all_ends}
use Rattle.xet_generated.proofs.terms.ends_of.Goals as goal

pub loop-term-init : goal.loop-term-init
loop-term-init c = c.new-ends.ensures.empty ∙ sym nothing

pub loop-term-preserved : goal.loop-term-preserved
loop-term-preserved c =
    let none : Term = (0, (0, 0)) in
    let terms = c.args.terms.now in
    let i = c.loop-term.term-index in
    let t = get_or terms i none in
    c.in_ok-_other.ensures.entries
    ∙ one_more (so_far (take i terms)) c.loop-term.ends.entries t c.greater-end.result c.loop-term.invariant (c.greater-end.ensures ∙ ap (λ (o : Option ℕ). max t.1.1 (unwrap_or o 0)) c.get.ensures.value)
    ∙ ap entries (sym (fold_more with_end empty terms i none c.loop-term-test.true))

pub returns : goal.returns
returns c =
    c.loop-term.invariant ∙ ap (λ (ts : List Term). entries (so_far ts)) (take_all c.loop-term.term-index c.args.terms.now c.loop-term-test.false) ∙ all_ends c.args.terms.now
