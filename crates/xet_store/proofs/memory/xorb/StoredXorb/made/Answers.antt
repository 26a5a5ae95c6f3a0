use Rattle.std.proofs.Common.{◌∙◌, sym, ap, subst}
use Rattle.xet_xorb.specs.Values.{Xorb}
use Rattle.xet_store.specs.Kept.{chunks_in, IsKeptXorb}
use Rattle.xet_store.proofs.Chunks.{kept_text}
use Rattle.xet_store.proofs.memory.xorb.StoredXorb.made.Goals as goal

pub invariant_of-result : goal.invariant_of-result
invariant_of-result c =
    let parts = c.into_parts-object.result in
    let kept = kept_text parts.1 c.args.xorb parts.0 c.into_parts-object.ensures.formed c.into_parts-object.ensures.object c.into_parts-object.ensures.text in
    subst (IsKeptXorb parts.1) (sym c.in_ok-object.ensures.ok) kept.1

pub returns : goal.returns
returns c =
    let parts = c.into_parts-object.result in
    let kept = kept_text parts.1 c.args.xorb parts.0 c.into_parts-object.ensures.formed c.into_parts-object.ensures.object c.into_parts-object.ensures.text in
    ap (λ (x : Xorb). chunks_in parts.1 x.lengths) c.in_ok-object.ensures.ok ∙ kept.0
