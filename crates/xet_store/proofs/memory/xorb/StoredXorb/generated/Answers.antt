use Rattle.std.proofs.Common.{◌∙◌, sym, ap, subst}
use Rattle.xet_xorb.specs.Values.{Xorb}
use Rattle.xet_store.specs.Kept.{chunks_in, IsKeptXorb}
use Rattle.xet_store.proofs.Chunks.{kept_text}
use Rattle.xet_store.proofs.memory.xorb.StoredXorb.generated.Goals as goal

pub invariant_of-result : goal.invariant_of-result
invariant_of-result c =
    let kept = kept_text c.in_ok-text.text c.args.xorb c.into_object.result c.into_object.ensures.formed c.into_object.ensures.value c.in_ok-text.ensures in
    subst (IsKeptXorb c.in_ok-text.text) (sym c.in_ok-object.ensures.ok) kept.1

pub returns : goal.returns
returns c =
    let kept = kept_text c.in_ok-text.text c.args.xorb c.into_object.result c.into_object.ensures.formed c.into_object.ensures.value c.in_ok-text.ensures in
    ap (λ (x : Xorb). chunks_in c.in_ok-text.text x.lengths) c.in_ok-object.ensures.ok ∙ kept.0
