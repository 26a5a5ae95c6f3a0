-- Bodies that a reader is handed.
use Rattle.std.proofs.Common.{◌≡◌, ℕ, ◌↔◌, List, Option, Some, None, Err, Result, refl, sym, subst, arith}
use Rattle.std.specs.Prelude.{IfSome, IsTrue}
use Rattle.std.specs.Option.{is_some}
use Rattle.memchr.specs.Find.{OccursAt, FindsNeedle}
use Rattle.xet_types.specs.declared.error.Refusal.{Refusal}
use Rattle.xet_types.specs.declared.error.Refusal.TheVariants.{Other}
use Rattle.xet_store.specs.Answered.{AnsweredErr}

-- a needle is found exactly where it occurs
pub found : (hay needle : List ℕ) (r : Option ℕ) → FindsNeedle hay needle 0 r → IsTrue (is_some r) ↔ ((k : ℕ) × OccursAt hay needle k)
found hay needle None h = (λ e. absurd cc, λ p. absurd (h p.0 (omega arith) (omega (arith, p.1.fits)) p.1))
found hay needle (Some k) h = (λ _. (k, h.1), λ _. refl)

-- a refusal with a text, or want of memory in its place
pub refused : {T : Type 0} (o : Option Refusal) (P : Result T Refusal → Type 0) (Q : Type 0) → IfSome o (λ why. why ≡ Other) → P (Err Other) → Q → AnsweredErr o P Q
refused {T} (Some why) P Q e p q = subst (λ why. P (Err why)) (sym e) p
refused None P Q e p q = q
