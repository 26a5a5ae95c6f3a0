use Rattle.std.proofs.Common.{◌∙◌, ℕ, ◌%◌, ◌^◌, Bool, eqb, leb, List, replicate, ap, arith, w8}
use Rattle.std.proofs.lemmas.Simd.{length-chunk, length-zip2, tops_compared, mask_l-mod, zip2_splat_left}
use lib.Lanes.{chunk, mask_l, zip2}
use Rattle.xet_demo.proofs.AsciiParts.{none_set}
use Rattle.xet_demo.proofs.script.line.is_ascii_part.Goals as goal

pub returns : goal.returns
returns c =
    let part : List ℕ = chunk c.args.at 16 c.args.text.now in
    let limit : List ℕ = replicate 16 128 in
    let long = length-chunk c.args.at 16 c.args.text.now c.requires in
    let mask = ap (λ (ms : List Bool). mask_l ms % 2 ^ 64) (tops_compared w8 leb limit part) ∙ mask_l-mod (zip2 leb limit part) 64 (omega (arith, length-zip2 leb limit part (omega (arith, long)))) ∙ ap mask_l (zip2_splat_left leb 128 16 part long) in
    ap (λ (m : ℕ). eqb m 0) mask ∙ none_set part
