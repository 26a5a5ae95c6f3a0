use Rattle.std.proofs.Common.{◌∙◌, ℕ, List, map, slice_range, ap}
use Rattle.xet_types.specs.Names.{chunk_hash}
use Rattle.xet_xorb.proofs.Slices.{slice_range-map}
use Rattle.xet_generated.specs.Making.{chunks_at}
use Rattle.xet_generated.proofs.cut.hashes_of.Goals as goal

pub returns : goal.returns
returns c =
    let t = c.args.term.now in
    ap (λ (hs : List (List ℕ)). slice_range hs t.1.0 t.1.1) (c.chunk_hashes.ensures ∙ ap (map chunk_hash) c.xorb_of.ensures) ∙ slice_range-map chunk_hash (chunks_at c.args.xorbs.now.entries t.0) t.1.0 t.1.1
