use Rattle.std.proofs.Common.{◌∙◌, cond, ap, refl, subst, Some, None, Option}
use Rattle.std.specs.BTreeMap.{BTreeMap, is_at}
use Rattle.std.specs.Map.{lookup}
use Rattle.std.specs.Global.{Vec}
use Rattle.std.specs.Option.{IsSome}
use Rattle.xet_plan.specs.declared.runs.MergedRange.{MergedRange}
use Rattle.xet_types.specs.RecordMaps.{hex_cmp}
use Rattle.xet_types.specs.declared.key.HexMerkleHash.{HexMerkleHash}
use Rattle.xet_store.proofs.Joining.{listed_joined}
use Rattle.xet_store.proofs.memory.batch.append.Goals as goal

pub returns-in-Some : goal.returns-in-Some
returns-in-Some c =
    let w = c.append.new.self in
    let held = c.get_mut.follows.holds w in
    listed_joined c.args.runs.now.entries (c.get_mut.follows.lender w).entries c.args.hash (Some c.in-Some.before.now) w c.args.more.items c.get_mut.ensures.ordered held.4
    c.in-Some.ensures.value (held.3 (subst (λ (o : Option (Vec MergedRange)). IsSome o) c.in-Some.ensures.value refl)).0 c.in_ok-append.ensures.items

pub returns : goal.returns
returns c =
    let kept = c.get_mut.follows.holds-at-none in
    listed_joined c.args.runs.now.entries c.insert.new.self.entries c.args.hash None c.args.more c.args.more.items c.get_mut.ensures.ordered c.in_ok-insert.ensures.ordered
    c.in_default.ensures.value
    (λ q. c.in_ok-insert.ensures.updates.0 q ∙ ap (λ (m : BTreeMap HexMerkleHash (Vec MergedRange)). cond (is_at (hex_cmp c.args.hash) q) (Some c.args.more) (lookup (is_at (hex_cmp q)) m.entries)) kept)
    refl
