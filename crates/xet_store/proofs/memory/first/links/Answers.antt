use Rattle.std.proofs.Common.{◌≡◌, ◌∙◌, List, ℕ, map, refl, ap}
use Rattle.xet_types.specs.Records.{FetchInfo}
use Rattle.xet_types.specs.RecordMaps.{listed}
use Rattle.xet_types.specs.declared.key.HexMerkleHash.{HexMerkleHash}
use Rattle.std.specs.Global.{Vec}
use Rattle.xet_store.specs.Responses.{fetch_info_of}
use Rattle.xet_store.proofs.Links.{Merged, links_at, links_none, links_more}
use Rattle.xet_store.proofs.memory.first.links.Goals as goal

shown : (at : ℕ) (g : Merged) (k : HexMerkleHash) (v : Vec FetchInfo) → k.0 ≡ g.0 → v.items ≡ map (fetch_info_of at g.0) g.1.items → listed (k, v) ≡ links_at at g
shown at g k v key value = λ j. (key j, value j)

pub loop-hash-init : goal.loop-hash-init
loop-hash-init c = links_none (links_at c.args.at) c.args.merged.now c.new-links.result.entries c.new-links.ensures.empty c.requires.rising

pub loop-hash-preserved : goal.loop-hash-preserved
loop-hash-preserved c =
    let g = c.loop-hash-item.result in
    links_more (links_at c.args.at) c.args.merged.now c.loop-hash.hash-index c.loop-hash.links.entries c.insert.new.self.entries g _ c.in_ok-infos.infos c.loop-hash-test.true c.loop-hash-item.is refl
    (shown c.args.at g _ c.in_ok-infos.infos refl (c.in_ok-infos.ensures ∙ ap (map (fetch_info_of c.args.at g.0)) c.deref.ensures.value)) c.loop-hash.invariant c.in_ok-insert.ensures.entries
