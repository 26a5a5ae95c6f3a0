use Rattle.std.proofs.Common.{◌≡◌, ◌∙◌, ℕ, ◌%◌, ◌^◌, Bool, not, eqb, List, length, sym, ap, arith, w8}
use Rattle.std.proofs.lemmas.Bool.{eqb-true}
use Rattle.std.proofs.lemmas.Simd.{tops_compared, mask_l-mod, length-zip2}
use lib.Lanes.{zip2, mask_l}
use Rattle.xet_demo.proofs.HexLower.{same_lanes}
use Rattle.xet_demo.proofs.script.digits.are_same.Goals as goal

pub returns : goal.returns
returns c =
    λ none.
    let a : List ℕ = c.args.a in
    let b : List ℕ = c.args.b in
    let differ : ℕ → ℕ → Bool = λ x y. not (eqb x y) in
    let long : length a ≡ length b = c.requires.one ∙ sym c.requires.other in
    let mask = ap (λ (ms : List Bool). mask_l ms % 2 ^ 64) (tops_compared w8 differ a b) ∙ mask_l-mod (zip2 differ a b) 64 (omega (arith, length-zip2 differ a b long, c.requires.one)) in
    same_lanes a b long (sym mask ∙ eqb-true _ 0 none)
