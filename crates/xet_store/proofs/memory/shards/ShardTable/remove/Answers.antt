use Rattle.std.proofs.Common.{◌≡◌, ◌∙◌, ℕ, List, Some, None, sym, ap, subst}
use Rattle.std.specs.Option.{is_some}
use Rattle.std.specs.FinMap.{FinMap, get, remove}
use Rattle.xet_types.specs.Names.{hash_cmp}
use Rattle.xet_shard.specs.Listings.{ShardModel}
use Rattle.xet_store.specs.StoreModel.{shard_named, without_shard}
use Rattle.xet_store.specs.Indexed.{Kept, Listed, in_order, IsIndexed}
use Rattle.xet_store.proofs.Indexed.{gone_index, taken_out, named_there, named_nowhere, unnamed_same}
use Rattle.xet_store.proofs.memory.shards.ShardTable.remove.Goals as goal

pub invariant_of-self : goal.invariant_of-self
invariant_of-self c =
    let t = c.self.inside in
    let name = c.args.name.now in
    let k = c.in-Some.serial in
    let e : get t.by_name name ≡ Some k = sym c.remove.ensures.value ∙ c.in-Some.is in
    subst (λ (m : Kept). IsIndexed m c.remove.new.self c.take_out.new.listed t.next) (sym c.take_out.ensures.kept)
    (subst (λ (n : FinMap hash_cmp ℕ). IsIndexed (remove t.kept k) n c.take_out.new.listed t.next) (sym c.remove.ensures.removed)
    (subst (λ (p : Listed). IsIndexed (remove t.kept k) (remove t.by_name name) p t.next) (sym c.take_out.ensures.listed) (gone_index t.kept t.by_name t.listed t.next name k c.self.invariant e)))

pub invariant_of-self-in-None : goal.invariant_of-self-in-None
invariant_of-self-in-None c =
    let t = c.self.inside in
    let e : get t.by_name c.args.name.now ≡ None = sym c.remove.ensures.value ∙ c.in-None.is in
    subst (λ (n : FinMap hash_cmp ℕ). IsIndexed t.kept n t.listed t.next) (sym (c.remove.ensures.removed ∙ unnamed_same t.by_name c.args.name.now e)) c.self.invariant

pub returns-in-Some-clause-was : goal.returns-in-Some-clause-was
returns-in-Some-clause-was c =
    let t = c.self.inside in
    sym (ap (λ (ss : List ShardModel). is_some (shard_named ss c.args.name.now)) (sym c.self.view_is) ∙ named_there t.kept t.by_name t.listed t.next c.args.name.now c.in-Some.serial c.self.invariant (sym c.remove.ensures.value ∙ c.in-Some.is))

pub returns-in-Some-clause-removed : goal.returns-in-Some-clause-removed
returns-in-Some-clause-removed c =
    let t = c.self.inside in
    ap in_order c.take_out.ensures.kept
    ∙ taken_out t.kept t.by_name t.listed t.next c.args.name.now c.in-Some.serial c.self.invariant (sym c.remove.ensures.value ∙ c.in-Some.is)
    ∙ ap (λ (ss : List ShardModel). without_shard ss c.args.name.now) c.self.view_is

pub returns-in-None-clause-was : goal.returns-in-None-clause-was
returns-in-None-clause-was c =
    let t = c.self.inside in
    sym (ap (λ (ss : List ShardModel). is_some (shard_named ss c.args.name.now)) (sym c.self.view_is) ∙ ap is_some (named_nowhere t.kept t.by_name t.listed t.next c.args.name.now c.self.invariant (sym c.remove.ensures.value ∙ c.in-None.is)).0)

pub returns-in-None-clause-removed : goal.returns-in-None-clause-removed
returns-in-None-clause-removed c =
    let t = c.self.inside in
    sym (named_nowhere t.kept t.by_name t.listed t.next c.args.name.now c.self.invariant (sym c.remove.ensures.value ∙ c.in-None.is)).1
    ∙ ap (λ (ss : List ShardModel). without_shard ss c.args.name.now) c.self.view_is
