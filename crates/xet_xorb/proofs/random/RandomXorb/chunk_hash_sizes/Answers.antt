use Rattle.std.proofs.Common.{◌≡◌, ◌∙◌, map, slice_range, List, ℕ, subst, sym, ap, IfOk}
use Rattle.xet_xorb.specs.declared.generate.RandomChunkInfo.{RandomChunkInfo}
use Rattle.xet_xorb.specs.Generated.{hash_and_size, hash_and_size_of}
use Rattle.xet_xorb.proofs.Slices.{slice_range-map}
use Rattle.xet_xorb.proofs.Generating.{at_hand, pairs_of}
use Rattle.xet_xorb.proofs.random.RandomXorb.chunk_hash_sizes.Goals as goal

pub returns : goal.returns
returns c =
    let h = (at_hand c.self.inside c.args.self.now c.self.invariant c.self.view_is) in
    let s = c.args.start in
    let e = c.args.end in
    let items = c.self.inside.chunks.items in
    let part : c.part.result.now ≡ slice_range items s e = c.part.ensures ∙ ap (λ (is : List RandomChunkInfo). slice_range is s e) c.as_slice.ensures.value in
    let is : map hash_and_size_of c.part.result.now ≡ slice_range (map hash_and_size c.args.self.now) s e =
    ap (map hash_and_size_of) part ∙ sym (slice_range-map hash_and_size_of items s e) ∙ ap (λ (t : List (List ℕ × ℕ)). slice_range t s e) (pairs_of items c.args.self.now h.hashes h.sizes) in
    subst (λ (t : List (List ℕ × ℕ)). IfOk c.hash_sizes_of.result (λ pairs. pairs.items ≡ t)) is c.hash_sizes_of.ensures
