use Rattle.std.proofs.Common.{◌≡◌, ◌∙◌, ap, sym, subst, None, IfOk, OnOk, OnErr}
use Rattle.std.specs.Ordering.{nat_cmp}
use Rattle.std.specs.FinMap.{FinMap, get, insert}
use Rattle.xet_service.specs.Recents.{AtHand, with_one}
use Rattle.xet_service.proofs.Recents.{get_at_hand, put_at_hand, get_other, answered_apart, answered_put}
use Rattle.xet_service.proofs.recent.Recent.insert.Goals as goal

pub returns-then-is_at-clause-old : goal.returns-then-is_at-clause-old
returns-then-is_at-clause-old g c =
    c.put.ensures.value
    ∙ sym (get_at_hand c.self.inside.others c.args.key c.self.inside.at_hand (sym c.is_at.ensures ∙ c.if-is_at.true))
    ∙ ap (λ (m : FinMap nat_cmp g.row.V.Denot). get m c.args.key) c.self.view_is

pub returns-then-is_at-clause-ok : goal.returns-then-is_at-clause-ok
returns-then-is_at-clause-ok g c =
    ap (λ (one : AtHand g.row.V.Denot). with_one one c.self.inside.others) c.put.ensures.put
    ∙ put_at_hand c.self.inside.others c.args.key c.self.inside.at_hand (sym c.is_at.ensures ∙ c.if-is_at.true) c.args.value
    ∙ ap (λ (m : FinMap nat_cmp g.row.V.Denot). insert m c.args.key c.args.value) c.self.view_is

pub invariant_of-self-then-is_some : goal.invariant_of-self-then-is_some
invariant_of-self-then-is_some g c =
    answered_apart c.self.inside.at_hand c.self.inside.others c.insert.new.self c.args.key c.args.value (sym c.is_at.ensures ∙ c.if-is_at.false) c.insert.result c.insert.ensures.ok c.insert.ensures.err c.self.invariant

pub returns-then-is_some-clause-old : goal.returns-then-is_some-clause-old
returns-then-is_some-clause-old g c =
    let there = sym (get_other c.self.inside.others c.args.key c.self.inside.at_hand (sym c.is_at.ensures ∙ c.if-is_at.false)) ∙ ap (λ (m : FinMap nat_cmp g.row.V.Denot). get m c.args.key) c.self.view_is in
    subst (λ there. IfOk c.insert.result (λ old. old ≡ there)) there c.insert.ensures.old

pub returns-then-is_some-clause-ok : goal.returns-then-is_some-clause-ok
returns-then-is_some-clause-ok g c =
    subst (λ (m : FinMap nat_cmp g.row.V.Denot). OnOk c.insert.result (with_one c.self.inside.at_hand c.insert.new.self ≡ insert m c.args.key c.args.value)) c.self.view_is
    (answered_put c.self.inside.at_hand c.self.inside.others c.insert.new.self c.args.key c.args.value (sym c.is_at.ensures ∙ c.if-is_at.false) c.insert.result c.insert.ensures.ok)

pub returns-then-is_some-clause-absent : goal.returns-then-is_some-clause-absent
returns-then-is_some-clause-absent g c =
    let there = sym (get_other c.self.inside.others c.args.key c.self.inside.at_hand (sym c.is_at.ensures ∙ c.if-is_at.false)) ∙ ap (λ (m : FinMap nat_cmp g.row.V.Denot). get m c.args.key) c.self.view_is in
    subst (λ there. OnErr c.insert.result (there ≡ None)) there c.insert.ensures.absent
