use Rattle.std.proofs.Common.{◌≡◌, ◌∙◌, sym}
use lib.Pointwise.{bytes_decides}
use Rattle.xet_xorb.proofs.Owning.{same_hashes, same_by_ends, other_hashes}
use Rattle.xet_xorb.proofs.object.XorbObject.is_same.Goals as goal

pub returns-then-eq : goal.returns-then-eq
returns-then-eq c =
    let o = c.self.inside in
    let p = c.other.inside in
    let hashes : o.info.chunk_hashes.items ≡ p.info.chunk_hashes.items = sym c.as_slice.ensures.value ∙ (same_hashes c.as_slice.result.now c.as_slice-2.result.now).0 (sym c.if-eq.ensures) ∙ c.as_slice-2.ensures.value in
    same_by_ends o p c.args.self.now c.args.other.now c.eq-then-eq.result c.self.invariant c.other.invariant c.self.view_is c.other.view_is hashes
    (λ same. sym c.as_slice-then-eq.ensures.value ∙ (bytes_decides c.as_slice-then-eq.result.now c.as_slice-then-eq-2.result.now).0 (sym c.eq-then-eq.ensures ∙ same) ∙ c.as_slice-then-eq-2.ensures.value)
    (λ ends. c.eq-then-eq.ensures ∙ (bytes_decides c.as_slice-then-eq.result.now c.as_slice-then-eq-2.result.now).1 (c.as_slice-then-eq.ensures.value ∙ ends ∙ sym c.as_slice-then-eq-2.ensures.value))

pub returns-else-eq : goal.returns-else-eq
returns-else-eq c =
    other_hashes c.self.inside c.other.inside c.args.self.now c.args.other.now c.eq.result c.self.view_is c.other.view_is c.if-eq.false
    (λ hashes. c.eq.ensures ∙ (same_hashes c.as_slice.result.now c.as_slice-2.result.now).1 (c.as_slice.ensures.value ∙ hashes ∙ sym c.as_slice-2.ensures.value))
