use Rattle.std.proofs.Common.{◌∙◌, ℕ, sym, ap, subst}
use Rattle.std.specs.FinMap.{FinMap, empty}
use Rattle.xet_types.specs.Names.{hash_cmp}
use Rattle.xet_store.specs.Indexed.{Kept, Listed, in_order, IsIndexed}
use Rattle.xet_store.proofs.Indexed.{empty_index, empty_order}
use Rattle.xet_store.proofs.memory.shards.ShardTable.new.Goals as goal

pub invariant_of-result : goal.invariant_of-result
invariant_of-result c =
    subst (λ (m : Kept). IsIndexed m c.new-2.result c.new-3.result 0) (sym c.new.ensures)
    (subst (λ (m : FinMap hash_cmp ℕ). IsIndexed empty m c.new-3.result 0) (sym c.new-2.ensures) (subst (λ (m : Listed). IsIndexed empty empty m 0) (sym c.new-3.ensures) empty_index))

pub returns : goal.returns
returns c = ap in_order c.new.ensures ∙ empty_order
