use Rattle.std.proofs.Common.{◌≡◌, ◌∙◌, ◌++◌, ◌+◌, List, ℕ, ap, sym, take}
use Rattle.std.specs.List.{flat_map, concat}
use Rattle.xet_store.specs.StoreModel.{Chunks}
use Rattle.xet_service.specs.declared.reader.held.HeldTerm.{HeldTerm}
use Rattle.xet_service.specs.Gathering.{Gathered, after_text}
use Rattle.xet_service.specs.Reading.{held_text}
use Rattle.xet_service.proofs.Gathered.{after_both, after_none}
use Rattle.xet_service.proofs.Holding.{flat_more}
use Rattle.xet_service.proofs.reader.push_terms.Goals as goal

pub loop-held-init : goal.loop-held-init
loop-held-init c = sym (after_none c.args.gathering.now)

pub loop-held-preserved : goal.loop-held-preserved
loop-held-preserved c =
    let start = c.args.gathering.now in
    let i = c.loop-held.held-index in
    let terms = c.args.terms.now in
    let held = c.held-item.result in
    let text = held_text c.args.filled.now in
    let done = flat_map text (take i terms) in
    let more : flat_map text (take (i + 1) terms) ≡ done ++ text held = flat_more text terms i held c.loop-held-test.true ∙ ap (λ (h : HeldTerm). done ++ text h) (sym c.held-item.is) in
    c.in_ok-push_all.ensures ∙ ap (λ (b : Chunks). after_text c.loop-held.gathering (concat b)) c.chunks_of.ensures
    ∙ ap (λ (g : Gathered). after_text g (text held)) c.loop-held.invariant ∙ after_both start done (text held) ∙ ap (λ (b : List ℕ). after_text start b) (sym more)
