use Rattle.std.proofs.Common.{◌≡◌, ◌∙◌, ℕ, List, ap, sym}
use Rattle.std.specs.BTreeMap.{insert_entry}
use Rattle.xet_types.specs.Names.{hash_cmp}
use Rattle.xet_shard.specs.Values.{Listing}
use Rattle.xet_shard.specs.Canonical.{file_hash_of}
use Rattle.xet_shard.proofs.CanonicalLaws.{nothing, last_more}
use Rattle.xet_shard.proofs.canonical_form.files_by_hash.Goals as goal

pub loop-file-init : goal.loop-file-init
loop-file-init c = c.new-last.ensures.empty ∙ sym nothing

pub loop-file-preserved : goal.loop-file-preserved
loop-file-preserved c =
    let hash : c.file.inside.file_hash ≡ c.file-item.result.file_hash = ap file_hash_of c.file.view_is in
    c.in_ok-_earlier.ensures.entries
    ∙ ap (λ (k : List ℕ). insert_entry hash_cmp c.loop-file.last.entries k c.in_ok-clone.field-0) hash
    ∙ ap (λ (x : Listing). insert_entry hash_cmp c.loop-file.last.entries c.file-item.result.file_hash x) c.in_ok-clone.ensures
    ∙ last_more file_hash_of c.args.files.now c.loop-file.file-index c.file-item.result c.loop-file.last.entries c.loop-file-test.true c.file-item.is c.loop-file.invariant
