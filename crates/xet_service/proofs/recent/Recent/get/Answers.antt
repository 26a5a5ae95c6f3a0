use Rattle.std.proofs.Common.{◌∙◌, ap, sym}
use Rattle.std.specs.Ordering.{nat_cmp}
use Rattle.std.specs.FinMap.{FinMap, get}
use Rattle.xet_service.proofs.Recents.{get_at_hand, get_other}
use Rattle.xet_service.proofs.recent.Recent.get.Goals as goal

pub returns-then-is_at : goal.returns-then-is_at
returns-then-is_at g c =
    c.value_of.ensures
    ∙ sym (get_at_hand c.self.inside.others c.args.key c.self.inside.at_hand (sym c.is_at.ensures ∙ c.if-is_at.true))
    ∙ ap (λ (m : FinMap nat_cmp g.row.V.Denot). get m c.args.key) c.self.view_is

pub returns-else-is_at : goal.returns-else-is_at
returns-else-is_at g c =
    c.get.ensures
    ∙ sym (get_other c.self.inside.others c.args.key c.self.inside.at_hand (sym c.is_at.ensures ∙ c.if-is_at.false))
    ∙ ap (λ (m : FinMap nat_cmp g.row.V.Denot). get m c.args.key) c.self.view_is
