use Rattle.std.proofs.Common.{◌≡◌, ◌∙◌, ◌+◌, ◌≤◌, [], length, slice_range, sym, ap, subst}
use Rattle.xet_xorb.specs.Lengths.{packed_before}
use Rattle.xet_xorb.specs.ChunkLists.{lengths_of}
use Rattle.xet_xorb.specs.XorbBytes.{xorb_bytes}
use Rattle.xet_xorb.specs.Values.{Xorb}
use Rattle.xet_store.proofs.Chunks.{kept_chunk, kept_within}
use Rattle.xet_store.proofs.memory.xorb.StoredXorb.place.Goals as goal

pub returns-clause-order : goal.returns-clause-order
returns-clause-order c =
    let cs = c.args.self.now in
    let ls = lengths_of cs in
    let object : c.deref.result.now.lengths ≡ ls = ap (λ (x : Xorb). x.lengths) (c.deref.ensures ∙ c.self.invariant.object) ∙ ap lengths_of c.self.view_is in
    let object-2 : c.deref-2.result.now.lengths ≡ ls = ap (λ (x : Xorb). x.lengths) (c.deref-2.ensures ∙ c.self.invariant.object) ∙ ap lengths_of c.self.view_is in
    let start : c.packed_before.result ≡ packed_before ls c.args.k = c.packed_before.ensures ∙ ap (λ ns. packed_before ns c.args.k) object in
    let end : c.packed_before-end.result ≡ packed_before ls (c.args.k + 1) = c.packed_before-end.ensures ∙ ap (λ ns. packed_before ns (c.args.k + 1)) object-2 in
    subst (λ n. n + 8 ≤ c.packed_before-end.result) (sym start) (subst (λ n. packed_before ls c.args.k + 8 ≤ n) (sym end) (kept_within cs c.args.k [] c.requires).0)

pub returns-clause-fits : goal.returns-clause-fits
returns-clause-fits c =
    let cs = c.args.self.now in
    let ls = lengths_of cs in
    let object-2 : c.deref-2.result.now.lengths ≡ ls = ap (λ (x : Xorb). x.lengths) (c.deref-2.ensures ∙ c.self.invariant.object) ∙ ap lengths_of c.self.view_is in
    let end : c.packed_before-end.result ≡ packed_before ls (c.args.k + 1) = c.packed_before-end.ensures ∙ ap (λ ns. packed_before ns (c.args.k + 1)) object-2 in
    subst (λ n. n ≤ length (xorb_bytes cs)) (sym end) (kept_within cs c.args.k [] c.requires).1

pub returns-clause-chunk : goal.returns-clause-chunk
returns-clause-chunk c =
    let cs = c.args.self.now in
    let ls = lengths_of cs in
    let object : c.deref.result.now.lengths ≡ ls = ap (λ (x : Xorb). x.lengths) (c.deref.ensures ∙ c.self.invariant.object) ∙ ap lengths_of c.self.view_is in
    let object-2 : c.deref-2.result.now.lengths ≡ ls = ap (λ (x : Xorb). x.lengths) (c.deref-2.ensures ∙ c.self.invariant.object) ∙ ap lengths_of c.self.view_is in
    let start : c.packed_before.result ≡ packed_before ls c.args.k = c.packed_before.ensures ∙ ap (λ ns. packed_before ns c.args.k) object in
    let end : c.packed_before-end.result ≡ packed_before ls (c.args.k + 1) = c.packed_before-end.ensures ∙ ap (λ ns. packed_before ns (c.args.k + 1)) object-2 in
    ap (λ n. slice_range (xorb_bytes cs) (n + 8) c.packed_before-end.result) start
    ∙ ap (λ n. slice_range (xorb_bytes cs) (packed_before ls c.args.k + 8) n) end
    ∙ kept_chunk cs c.args.k [] c.requires
