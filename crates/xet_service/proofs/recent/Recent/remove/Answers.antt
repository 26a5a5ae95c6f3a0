use Rattle.std.proofs.Common.{◌∙◌, ap, sym, subst}
use Rattle.std.specs.Ordering.{nat_cmp}
use Rattle.std.specs.FinMap.{FinMap, get, remove}
use Rattle.xet_service.specs.Recents.{AtHand, with_one, IsApart}
use Rattle.xet_service.proofs.Recents.{get_at_hand, gone_at_hand, get_other, gone_other, apart_gone}
use Rattle.xet_service.proofs.recent.Recent.remove.Goals as goal

pub invariant_of-self-else-is_at : goal.invariant_of-self-else-is_at
invariant_of-self-else-is_at g c =
    subst (λ (m : FinMap nat_cmp g.row.V.Denot). IsApart c.self.inside.at_hand m) (sym c.remove.ensures.removed)
    (apart_gone c.self.inside.others c.args.key c.self.inside.at_hand (sym c.is_at.ensures ∙ c.if-is_at.false) c.self.invariant)

pub returns-then-is_at-clause-value : goal.returns-then-is_at-clause-value
returns-then-is_at-clause-value g c =
    c.take.ensures.value
    ∙ sym (get_at_hand c.self.inside.others c.args.key c.self.inside.at_hand (sym c.is_at.ensures ∙ c.if-is_at.true))
    ∙ ap (λ (m : FinMap nat_cmp g.row.V.Denot). get m c.args.key) c.self.view_is

pub returns-then-is_at-clause-removed : goal.returns-then-is_at-clause-removed
returns-then-is_at-clause-removed g c =
    ap (λ (one : AtHand g.row.V.Denot). with_one one c.self.inside.others) c.take.ensures.taken
    ∙ gone_at_hand c.self.inside.others c.args.key c.self.inside.at_hand (sym c.is_at.ensures ∙ c.if-is_at.true) c.self.invariant
    ∙ ap (λ (m : FinMap nat_cmp g.row.V.Denot). remove m c.args.key) c.self.view_is

pub returns-else-is_at-clause-value : goal.returns-else-is_at-clause-value
returns-else-is_at-clause-value g c =
    c.remove.ensures.value
    ∙ sym (get_other c.self.inside.others c.args.key c.self.inside.at_hand (sym c.is_at.ensures ∙ c.if-is_at.false))
    ∙ ap (λ (m : FinMap nat_cmp g.row.V.Denot). get m c.args.key) c.self.view_is

pub returns-else-is_at-clause-removed : goal.returns-else-is_at-clause-removed
returns-else-is_at-clause-removed g c =
    ap (λ (m : FinMap nat_cmp g.row.V.Denot). with_one c.self.inside.at_hand m) c.remove.ensures.removed
    ∙ gone_other c.self.inside.others c.args.key c.self.inside.at_hand (sym c.is_at.ensures ∙ c.if-is_at.false)
    ∙ ap (λ (m : FinMap nat_cmp g.row.V.Denot). remove m c.args.key) c.self.view_is
