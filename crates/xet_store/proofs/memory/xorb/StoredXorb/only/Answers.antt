use Rattle.std.proofs.Common.{◌≡◌, ◌∙◌, min, [], List, ℕ, length, get_or, slice_range, sym, ap, arith}
use Rattle.std.specs.List.{concat}
use Rattle.std.proofs.lemmas.List.{length-map, append-nil}
use Rattle.xet_xorb.specs.Values.{Xorb}
use Rattle.xet_xorb.specs.XorbBytes.{xorb_bytes}
use Rattle.xet_store.specs.StoreModel.{Chunks}
use Rattle.xet_store.proofs.Chunks.{one_of_range}
use Rattle.xet_store.proofs.memory.xorb.StoredXorb.only.Goals as goal

pub returns : goal.returns
returns c =
    let cs = c.args.self.now in
    let s = c.args.chunks.start in
    let count : c.num_chunks.result ≡ length cs =
    c.num_chunks.ensures.count ∙ ap (λ (x : Xorb). length x.lengths) (c.deref.ensures ∙ c.self.invariant.object) ∙ length-map _ length ∙ ap (λ (ds : Chunks). length ds) c.self.view_is in
    let last : c.min-last.result ≡ min c.args.chunks.end (length cs) = c.min-last.ensures ∙ ap (min c.args.chunks.end) count in
    let text : c.self.inside.text ≡ xorb_bytes cs = c.self.invariant.text ∙ ap xorb_bytes c.self.view_is in
    c.in_ok-slice.ensures.ok
    ∙ ap (λ (t : List ℕ). slice_range t c.place-start.result.0 c.place-start.result.1) text
    ∙ c.place-start.ensures.chunk
    ∙ sym (append-nil (get_or cs s []))
    ∙ ap concat (sym (one_of_range cs s c.args.chunks.end c.min-last.result [] last (omega (arith, c.saturating_sub.ensures, c.if-saturating_sub-ne1.false))))
