use Rattle.std.proofs.Common.{◌≡◌, ◌∙◌, ◌++◌, ◌∷◌, ◌<◌, ◌^◌, arith, [], List, ℕ, length, sum, get_or, slice_range, sym, ap, subst}
use Rattle.xet_xorb.specs.ChunkLists.{IsWellFormed, lengths_of}
use Rattle.xet_store.proofs.TermLaws.{cut_short}
use Rattle.std.proofs.lemmas.List.{length-map}
use Rattle.xet_xorb.specs.Values.{Xorb}
use Rattle.xet_xorb.specs.XorbBytes.{xorb_bytes}
use Rattle.xet_store.specs.StoreModel.{Chunks}
use Rattle.xet_store.proofs.Chunks.{range_more}
use Rattle.xet_store.proofs.memory.xorb.StoredXorb.cut.Goals as goal

pub loop-k-preserved : goal.loop-k-preserved
loop-k-preserved c =
    let cs = c.args.self.now in
    let k = c.loop-k.k in
    let s = c.args.chunks.start in
    let count : c.num_chunks.result ≡ length cs =
    c.num_chunks.ensures.count ∙ ap (λ (x : Xorb). length x.lengths) (c.deref.ensures ∙ c.self.invariant.object) ∙ length-map _ length ∙ ap (λ (ds : Chunks). length ds) c.self.view_is in
    let inside : k < length cs = omega (arith, c.loop-k-test.true, c.if-chunks-num_chunks.false, count) in
    let text : c.self.inside.text ≡ xorb_bytes cs = c.self.invariant.text ∙ ap xorb_bytes c.self.view_is in
    let chunk : c.in_ok-slice.field-0 ≡ get_or cs k [] =
    c.in_ok-slice.ensures.ok ∙ ap (λ (t : List ℕ). slice_range t c.place-start.result.0 c.place-start.result.1) text ∙ c.place-start.ensures.chunk in
    record {
      from = omega (arith, c.loop-k.invariant.from);
      cut = c.in_ok-push.ensures.items
          ∙ ap (λ (ds : Chunks). ds ++ c.in_ok-slice.field-0 ∷ []) c.loop-k.invariant.cut
          ∙ ap (λ (d : List ℕ). slice_range cs s k ++ d ∷ []) chunk
          ∙ sym (range_more cs s k [] c.loop-k.invariant.from inside);
    }

pub returns-clause-short : goal.returns-clause-short
returns-clause-short c =
    let cs = c.args.self.now in
    let is : c.from_vec.result ≡ slice_range cs c.args.chunks.start c.loop-k.k = c.from_vec.ensures ∙ c.loop-k.invariant.cut in
    subst (λ (ds : Chunks). sum (lengths_of ds) < 2 ^ 32) (sym is) (cut_short cs c.args.chunks.start c.loop-k.k (subst IsWellFormed c.self.view_is c.self.invariant.formed))
