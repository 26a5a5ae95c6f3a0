use Rattle.std.proofs.Common.{◌≡◌, ◌∙◌, List, ℕ, map, refl, ap}
use Rattle.xet_types.specs.Records.{RangesFetch}
use Rattle.xet_types.specs.RecordMaps.{listed}
use Rattle.xet_types.specs.declared.key.HexMerkleHash.{HexMerkleHash}
use Rattle.std.specs.Global.{Vec}
use Rattle.xet_plan.specs.declared.runs.MergedRange.{MergedRange}
use Rattle.xet_plan.specs.Groups.{in_groups}
use Rattle.xet_store.specs.Responses.{ranges_fetch}
use Rattle.xet_store.proofs.Links.{Merged, groups_at, links_none, links_more}
use Rattle.xet_store.proofs.memory.second.links.Goals as goal

shown : (max at : ℕ) (g : Merged) (k : HexMerkleHash) (v : Vec RangesFetch) → k.0 ≡ g.0 → v.items ≡ map (ranges_fetch at g.0) (in_groups max g.1.items) → listed (k, v) ≡ groups_at max at g
shown max at g k v key value = λ j. (key j, value j)

pub loop-hash-init : goal.loop-hash-init
loop-hash-init c = links_none (groups_at c.args.max c.args.at) c.args.merged.now c.new-links.result.entries c.new-links.ensures.empty c.requires.rising

pub loop-hash-preserved : goal.loop-hash-preserved
loop-hash-preserved c =
    let g = c.loop-hash-item.result in
    links_more (groups_at c.args.max c.args.at) c.args.merged.now c.loop-hash.hash-index c.loop-hash.links.entries c.insert.new.self.entries g _ c.in_ok-fetches.fetches c.loop-hash-test.true c.loop-hash-item.is refl
    (shown c.args.max c.args.at g _ c.in_ok-fetches.fetches refl (c.in_ok-fetches.ensures ∙ ap (λ (rs : List MergedRange). map (ranges_fetch c.args.at g.0) (in_groups c.args.max rs)) c.deref.ensures.value)) c.loop-hash.invariant c.in_ok-insert.ensures.entries
