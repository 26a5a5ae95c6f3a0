use Rattle.std.proofs.Common.{◌≡◌, ◌∙◌, ℕ, List, ap, sym}
use Rattle.std.specs.BTreeMap.{insert_entry}
use Rattle.xet_types.specs.Names.{hash_cmp}
use Rattle.xet_shard.specs.Values.{ListedXorb}
use Rattle.xet_shard.specs.Canonical.{xorb_hash_of}
use Rattle.xet_shard.proofs.CanonicalLaws.{nothing, last_more}
use Rattle.xet_shard.proofs.canonical_form.xorbs_by_hash.Goals as goal

pub loop-xorb-init : goal.loop-xorb-init
loop-xorb-init c = c.new-last.ensures.empty ∙ sym nothing

pub loop-xorb-preserved : goal.loop-xorb-preserved
loop-xorb-preserved c =
    let hash : c.xorb.inside.xorb_hash ≡ c.xorb-item.result.xorb_hash = ap xorb_hash_of c.xorb.view_is in
    c.in_ok-_earlier.ensures.entries
    ∙ ap (λ (k : List ℕ). insert_entry hash_cmp c.loop-xorb.last.entries k c.in_ok-clone.field-0) hash
    ∙ ap (λ (x : ListedXorb). insert_entry hash_cmp c.loop-xorb.last.entries c.xorb-item.result.xorb_hash x) c.in_ok-clone.ensures
    ∙ last_more xorb_hash_of c.args.xorbs.now c.loop-xorb.xorb-index c.xorb-item.result c.loop-xorb.last.entries c.loop-xorb-test.true c.xorb-item.is c.loop-xorb.invariant
