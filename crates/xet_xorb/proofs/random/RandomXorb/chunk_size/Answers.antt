use Rattle.std.proofs.Common.{◌≡◌, ◌∙◌, ℕ, Some, List, length, slice_get, refl, sym, ap}
use Rattle.std.specs.Option.{option_map}
use Rattle.std.proofs.lemmas.Bool.{ltb-true}
use Rattle.std.proofs.lemmas.Option.{slice_get_read, slice_get-map}
use Rattle.xet_xorb.specs.declared.generate.RandomChunkInfo.{RandomChunkInfo}
use Rattle.xet_xorb.proofs.Generating.{at_hand}
use Rattle.xet_xorb.proofs.random.RandomXorb.chunk_size.Goals as goal

pub returns : goal.returns
returns c =
    let size : RandomChunkInfo → ℕ = λ i. i.size in
    let k = c.args.idx in
    let items = c.self.inside.chunks.items in
    let l = c.in_ok-chunk.ensures.lookup in
    let read : slice_get items k ≡ Some c.in_ok-chunk.chunk.now =
    ap (λ (is : List RandomChunkInfo). slice_get is k) (sym c.deref.ensures.value) ∙ slice_get_read c.deref.result.now (length c.deref.result.now) k c.in_ok-chunk.chunk.now refl (ltb-true k (length c.deref.result.now) (sym l.0)) l.1 in
    sym (ap (λ (ns : List ℕ). slice_get ns k) (sym (at_hand c.self.inside c.args.self.now c.self.invariant c.self.view_is).sizes) ∙ slice_get-map size items k ∙ ap (option_map size) read)
