use Rattle.std.proofs.Common.{◌≡◌, ◌∙◌, ℕ, Some, None, refl, sym, ap, subst}
use Rattle.std.specs.Option.{option_copied}
use Rattle.std.specs.FinMap.{FinMap, get, insert, remove}
use Rattle.xet_types.specs.Names.{hash_cmp}
use Rattle.xet_bytes.proofs.Maps.{some_is}
use Rattle.xet_shard.specs.Listings.{ShardModel}
use Rattle.xet_shard.specs.Canonical.{shard_name}
use Rattle.xet_store.specs.StoreModel.{with_shard}
use Rattle.xet_store.specs.Indexed.{Kept, Listed, in_order, IsIndexed, with_pairs, unlisted}
use Rattle.xet_store.proofs.Indexed.{put_same, put_back, next_is_fresh, settles}
use Rattle.xet_store.proofs.memory.shards.ShardTable.accept.Goals as goal

pub unreachable-requires : goal.unreachable-requires
unreachable-requires c =
    let t = c.self.inside in
    let there : get c.insert.new.self t.next ≡ Some c.args.shard = ap (λ (m : Kept). get m t.next) c.in_ok-insert.ensures.ok ∙ put_same t.kept t.next c.args.shard in
    let none : get c.insert.new.self t.next ≡ None = sym c.get.ensures ∙ ap option_copied c.in-None.is in
    let no : ⊥ = cc in
    no

pub invariant_of-self-in-Some-earlier : goal.invariant_of-self-in-Some-earlier
invariant_of-self-in-Some-earlier c =
    let t = c.self.inside in
    let s = c.args.shard in
    let k = c.in-Some-earlier.earlier in
    let put = c.in_ok-insert.ensures.ok in
    let same : c.in-Some.shard.now ≡ s = some_is c.in-Some.shard.now s (c.in-Some.ensures ∙ ap (λ (m : Kept). get m t.next) put ∙ put_same t.kept t.next s) in
    (settles t.kept t.by_name t.listed t.next s (Some k) c.self.invariant
    (sym c.in-Some-earlier.is ∙ c.in-Ok.ensures.earlier ∙ ap (λ (u : ShardModel). get t.by_name (shard_name u)) same)
    c.take_out.new.kept c.index-indexed.new.by_name c.take_out.new.listed
    (c.take_out.ensures.kept ∙ ap (λ (m : Kept). remove m k) put)
    (c.in-Ok.ensures.named ∙ ap (λ (u : ShardModel). insert t.by_name (shard_name u) t.next) same)
    (c.take_out.ensures.listed
    ∙ ap (λ (p : Listed). unlisted p k (get c.insert.new.self k)) (c.in-Ok.ensures.listed ∙ ap (λ (u : ShardModel). with_pairs t.listed u.files t.next) same)
    ∙ ap (λ (m : Kept). unlisted (with_pairs t.listed s.files t.next) k (get m k)) put)).0

pub returns-in-Some-earlier-clause-ok : goal.returns-in-Some-earlier-clause-ok
returns-in-Some-earlier-clause-ok c =
    let t = c.self.inside in
    let s = c.args.shard in
    let k = c.in-Some-earlier.earlier in
    let put = c.in_ok-insert.ensures.ok in
    let same : c.in-Some.shard.now ≡ s = some_is c.in-Some.shard.now s (c.in-Some.ensures ∙ ap (λ (m : Kept). get m t.next) put ∙ put_same t.kept t.next s) in
    (settles t.kept t.by_name t.listed t.next s (Some k) c.self.invariant
    (sym c.in-Some-earlier.is ∙ c.in-Ok.ensures.earlier ∙ ap (λ (u : ShardModel). get t.by_name (shard_name u)) same)
    c.take_out.new.kept c.index-indexed.new.by_name c.take_out.new.listed
    (c.take_out.ensures.kept ∙ ap (λ (m : Kept). remove m k) put)
    (c.in-Ok.ensures.named ∙ ap (λ (u : ShardModel). insert t.by_name (shard_name u) t.next) same)
    (c.take_out.ensures.listed
    ∙ ap (λ (p : Listed). unlisted p k (get c.insert.new.self k)) (c.in-Ok.ensures.listed ∙ ap (λ (u : ShardModel). with_pairs t.listed u.files t.next) same)
    ∙ ap (λ (m : Kept). unlisted (with_pairs t.listed s.files t.next) k (get m k)) put)).1
    ∙ ap (λ ss. with_shard ss s) c.self.view_is

pub invariant_of-self-in_default : goal.invariant_of-self-in_default
invariant_of-self-in_default c =
    let t = c.self.inside in
    let s = c.args.shard in
    let put = c.in_ok-insert.ensures.ok in
    let same : c.in-Some.shard.now ≡ s = some_is c.in-Some.shard.now s (c.in-Some.ensures ∙ ap (λ (m : Kept). get m t.next) put ∙ put_same t.kept t.next s) in
    (settles t.kept t.by_name t.listed t.next s None c.self.invariant
    (sym c.in_default.is ∙ c.in-Ok.ensures.earlier ∙ ap (λ (u : ShardModel). get t.by_name (shard_name u)) same)
    c.insert.new.self c.index-indexed.new.by_name c.index-indexed.new.listed put
    (c.in-Ok.ensures.named ∙ ap (λ (u : ShardModel). insert t.by_name (shard_name u) t.next) same)
    (c.in-Ok.ensures.listed ∙ ap (λ (u : ShardModel). with_pairs t.listed u.files t.next) same)).0

pub returns-in_default-clause-ok : goal.returns-in_default-clause-ok
returns-in_default-clause-ok c =
    let t = c.self.inside in
    ap in_order c.in_ok-insert.ensures.ok
    ∙ (settles t.kept t.by_name t.listed t.next c.args.shard None c.self.invariant
    (sym c.in_default.is ∙ c.in-Ok.ensures.earlier
    ∙ ap (λ (u : ShardModel). get t.by_name (shard_name u)) (some_is c.in-Some.shard.now c.args.shard (c.in-Some.ensures ∙ ap (λ (m : Kept). get m t.next) c.in_ok-insert.ensures.ok ∙ put_same t.kept t.next c.args.shard)))
    (insert t.kept t.next c.args.shard) (insert t.by_name (shard_name c.args.shard) t.next) (with_pairs t.listed c.args.shard.files t.next) refl refl refl).1
    ∙ ap (λ ss. with_shard ss c.args.shard) c.self.view_is

pub invariant_of-self-in-Err : goal.invariant_of-self-in-Err
invariant_of-self-in-Err c =
    let t = c.self.inside in
    let kept : c.remove.new.self ≡ t.kept = c.remove.ensures.removed ∙ ap (λ (m : Kept). remove m t.next) c.in_ok-insert.ensures.ok ∙ put_back t.kept t.by_name t.listed t.next c.args.shard c.self.invariant in
    subst (λ (m : Kept). IsIndexed m c.index-indexed.new.by_name c.index-indexed.new.listed t.next) (sym kept)
    (subst (λ (n : FinMap hash_cmp ℕ). IsIndexed t.kept n c.index-indexed.new.listed t.next) (sym c.in-Err.ensures.unnamed) (subst (λ (p : Listed). IsIndexed t.kept t.by_name p t.next) (sym c.in-Err.ensures.unlisted) c.self.invariant))

pub returns-in-Err-clause-err : goal.returns-in-Err-clause-err
returns-in-Err-clause-err c =
    let t = c.self.inside in
    ap in_order (c.remove.ensures.removed ∙ ap (λ (m : Kept). remove m t.next) c.in_ok-insert.ensures.ok ∙ put_back t.kept t.by_name t.listed t.next c.args.shard c.self.invariant) ∙ c.self.view_is

pub index-indexed-requires : goal.index-indexed-requires
index-indexed-requires c = next_is_fresh c.self.inside.kept c.self.inside.by_name c.self.inside.listed c.self.inside.next c.self.invariant
