use Rattle.std.proofs.Common.{inl, inr, List, ℕ, subst}
use Rattle.xet_wire.specs.Multipart.{IsAbsent}
use Rattle.xet_wire.proofs.multipart.boundary.pick_boundary.Goals as goal

pub returns-then-stands_in : goal.returns-then-stands_in
returns-then-stands_in c = inr (subst (λ (t : List ℕ). ¬ IsAbsent t c.args.parts.now) c.as_bytes.ensures.value c.if-stands_in.ensures, c.in_ok-text.ensures)

pub returns : goal.returns
returns c = inl (c.in_ok-text-2.ensures.ok, subst (λ (t : List ℕ). IsAbsent t c.args.parts.now) c.as_bytes.ensures.value c.if-stands_in.ensures)
