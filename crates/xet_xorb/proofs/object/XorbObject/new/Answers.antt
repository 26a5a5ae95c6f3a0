use Rattle.std.proofs.Common.{◌≡◌, ◌∙◌, ℕ, ◌+◌, ◌*◌, ◌≤◌, List, ◌++◌, length, get_or, drop, sym, ap, subst, arith}
use Rattle.std.proofs.lemmas.List.{append-nil, drop_all}
use Rattle.std.proofs.lemmas.List.Elements.{recursion_from_All}
use Rattle.xet_xorb.specs.Lengths.{AreLengths, IsChunkLength}
use Rattle.xet_types.specs.Names.{name_of_hashes}
use Rattle.xet_xorb.specs.Objects.{steps, Rises}
use Rattle.xet_xorb.proofs.Offsets.{ends, steps-ends, rises-ends, length-ends, ends-header, above_zero}
use Rattle.xet_xorb.proofs.object.XorbObject.new.Goals as goal

-- a loop that has come to its end
done : (h at i : ℕ) (ns xs ys : List ℕ) → length ns ≤ i → xs ++ ends h at (drop i ns) ≡ ys → xs ≡ ys
done h at i ns xs ys l e = sym (append-nil xs) ∙ ap (λ zs. xs ++ ends h at zs) (sym (drop_all i ns l)) ∙ e

pub invariant_of-result : goal.invariant_of-result
invariant_of-result c =
    let ns = c.args.lengths.now in
    let u : c.loop-length.unpacked_chunk_offsets.items ≡ ends 0 0 ns = done 0 c.loop-length.end c.loop-length.length-index ns c.loop-length.unpacked_chunk_offsets.items (ends 0 0 ns) (omega arith) c.loop-length.invariant.0 in
    let b : c.loop-length.chunk_boundary_offsets.items ≡ ends 8 0 ns = done 8 c.loop-length.boundary c.loop-length.length-index ns c.loop-length.chunk_boundary_offsets.items (ends 8 0 ns) (omega arith) c.loop-length.invariant.1 in
    let lu : length c.loop-length.unpacked_chunk_offsets.items ≡ length ns = ap length u ∙ length-ends 0 0 ns in
    let lb : length c.loop-length.chunk_boundary_offsets.items ≡ length ns = ap length b ∙ length-ends 8 0 ns in
    record {
      rises = subst (Rises 0) (sym u) (rises-ends 0 ns (above_zero ns (recursion_from_All IsChunkLength ns c.requires.lengths.each)));
      lengths = subst AreLengths (sym (ap (steps 0) u ∙ steps-ends 0 ns)) c.requires.lengths;
      count = sym lu;
      hashes = c.requires.hashes ∙ sym lu;
      bounds = lb ∙ sym lu;
      boundary = λ k l.
          let x : get_or (ends 8 0 ns) k 0 + 0 ≡ get_or (ends 0 0 ns) k 0 + 8 * (k + 1) + 0 = ends-header 0 0 ns k (omega arith) in
          let p : get_or c.loop-length.chunk_boundary_offsets.items k 0 ≡ get_or (ends 8 0 ns) k 0 = ap (λ xs. get_or xs k 0) b in
          let q : get_or c.loop-length.unpacked_chunk_offsets.items k 0 ≡ get_or (ends 0 0 ns) k 0 = ap (λ xs. get_or xs k 0) u in
          omega arith;
      named = c.xorb_hash.ensures ∙ ap name_of_hashes c.deref.ensures.value;
      info_length = omega arith;
    }

pub returns : goal.returns
returns c =
    let ns = c.args.lengths.now in
    let u : c.loop-length.unpacked_chunk_offsets.items ≡ ends 0 0 ns = done 0 c.loop-length.end c.loop-length.length-index ns c.loop-length.unpacked_chunk_offsets.items (ends 0 0 ns) (omega arith) c.loop-length.invariant.0 in
    ap (λ (ls : List ℕ). record { hashes = c.args.chunk_hashes.items; lengths = ls }) (ap (steps 0) u ∙ steps-ends 0 ns)
