use Rattle.std.proofs.Common.{◌≡◌, ◌∙◌, ℕ, List, Some, length, ap}
use Rattle.xet_xorb.specs.Lengths.{unpacked_before}
use Rattle.xet_xorb.specs.Values.{Xorb}
use Rattle.xet_xorb.specs.ChunkLists.{lengths_of, object_of}
use Rattle.xet_generated.proofs.Pieces.{text_end, whole_length}
use Rattle.xet_generated.proofs.xorb.GeneratedXorb.upload.Goals as goal

pub returns-clause-plain : goal.returns-clause-plain
returns-clause-plain c =
    let n = c.num_chunks-num_chunks in
    let lens : c.self.inside.object.lengths ≡ lengths_of c.args.self.now = ap (λ (x : Xorb). x.lengths) c.self.invariant.object ∙ ap lengths_of c.self.view_is in
    c.from.ensures ∙ whole_length c.args.self.now n.result c.unpacked_before.result (n.ensures.count ∙ ap (λ (ns : List ℕ). length ns) lens) (c.unpacked_before.ensures ∙ ap (λ ns. unpacked_before ns n.result) lens)

pub returns-clause-footer : goal.returns-clause-footer
returns-clause-footer c =
    let n = c.num_chunks-num_chunks in
    ap (λ (k : ℕ). Some k) (text_end c.self.inside.object c.args.self.now n.result c.packed_before.result (c.self.invariant.object ∙ ap object_of c.self.view_is) n.ensures.count c.packed_before.ensures)
