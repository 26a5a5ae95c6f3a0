use Rattle.std.proofs.Common.{◌≡◌, ◌∙◌, ◌++◌, ◌<◌, arith, min, [], List, ℕ, length, get_or, slice_range, append_assoc, sym, ap}
use Rattle.std.specs.List.{concat}
use Rattle.std.proofs.lemmas.List.{length-map}
use Rattle.xet_xorb.specs.Values.{Xorb}
use Rattle.xet_xorb.specs.XorbBytes.{xorb_bytes}
use Rattle.xet_store.specs.StoreModel.{Chunks}
use Rattle.xet_store.proofs.Chunks.{range_more, range_ends, concat_push}
use Rattle.xet_store.proofs.memory.xorb.StoredXorb.append.Goals as goal

pub loop-k-preserved : goal.loop-k-preserved
loop-k-preserved c =
    let cs = c.args.self.now in
    let out = c.args.out.now.items in
    let k = c.loop-k.k in
    let s = c.args.chunks.start in
    let count : c.num_chunks.result ≡ length cs =
    c.num_chunks.ensures.count ∙ ap (λ (x : Xorb). length x.lengths) (c.deref.ensures ∙ c.self.invariant.object) ∙ length-map _ length ∙ ap (λ (ds : Chunks). length ds) c.self.view_is in
    let inside : k < length cs = omega (arith, c.loop-k-test.true, c.min-last.ensures, count) in
    let text : c.as_slice.result.now ≡ xorb_bytes cs = c.as_slice.ensures ∙ c.self.invariant.text ∙ ap xorb_bytes c.self.view_is in
    let piece = slice_range c.as_slice.result.now c.place-start.result.0 c.place-start.result.1 in
    let chunk : piece ≡ get_or cs k [] = ap (λ (t : List ℕ). slice_range t c.place-start.result.0 c.place-start.result.1) text ∙ c.place-start.ensures.chunk in
    record {
      from = omega (arith, c.loop-k.invariant.from);
      upto = omega (arith, c.loop-k-test.true);
      joined = c.in_ok-extend_from_slice.ensures.items
          ∙ ap (λ (t : List ℕ). t ++ piece) c.loop-k.invariant.joined
          ∙ append_assoc out (concat (slice_range cs s k)) piece
          ∙ ap (λ (t : List ℕ). out ++ (concat (slice_range cs s k) ++ t)) chunk
          ∙ ap (λ (t : List ℕ). out ++ t) (sym (concat_push (slice_range cs s k) (get_or cs k [])) ∙ ap concat (sym (range_more cs s k [] c.loop-k.invariant.from inside)));
    }

pub returns : goal.returns
returns c =
    let cs = c.args.self.now in
    let out = c.args.out.now.items in
    let count : c.num_chunks.result ≡ length cs =
    c.num_chunks.ensures.count ∙ ap (λ (x : Xorb). length x.lengths) (c.deref.ensures ∙ c.self.invariant.object) ∙ length-map _ length ∙ ap (λ (ds : Chunks). length ds) c.self.view_is in
    c.loop-k.invariant.joined
    ∙ ap (λ (ds : Chunks). out ++ concat ds)
    (range_ends cs c.args.chunks.start c.args.chunks.end c.loop-k.k c.min-last.result (c.min-last.ensures ∙ ap (min c.args.chunks.end) count) c.loop-k-test.false c.loop-k.invariant.upto)
