use Rattle.std.proofs.Common.{◌≡◌, ◌∙◌, ◌+◌, ◌∷◌, List, drop, ap, sym}
use Rattle.std.proofs.lemmas.List.{drop_more, at_drop_all}
use Rattle.xet_service.specs.declared.reader.held.HeldTerm.{HeldTerm}
use Rattle.xet_service.specs.declared.reader.link.ReadLink.{ReadLink}
use Rattle.xet_service.specs.ReadingPlans.{with_terms}
use Rattle.xet_service.proofs.ReaderTerms.{gives_one, gives_none}
use Rattle.xet_service.proofs.reader.link.give_terms.Goals as goal

pub loop-held-preserved : goal.loop-held-preserved
loop-held-preserved c =
    let i = c.loop-held.held-index in
    let links = c.loop-held.links.items in
    let terms = c.args.terms.now in
    let term = c.held-item.result in
    let left : drop i terms ≡ term ∷ drop (i + 1) terms = drop_more terms i term c.loop-held-test.true ∙ ap (λ (h : HeldTerm). h ∷ drop (i + 1) terms) (sym c.held-item.is) in
    ap (λ (ls : List ReadLink). with_terms 0 ls (drop (i + 1) terms)) c.in_ok-give_term.ensures ∙ gives_one links term (drop (i + 1) terms)
    ∙ ap (λ (hs : List HeldTerm). with_terms 0 links hs) (sym left) ∙ c.loop-held.invariant

pub returns : goal.returns
returns c =
    let links = c.loop-held.links.items in
    sym (gives_none 0 links) ∙ sym (at_drop_all (λ (hs : List HeldTerm). with_terms 0 links hs) c.args.terms.now c.loop-held.held-index c.loop-held-test.false) ∙ c.loop-held.invariant
