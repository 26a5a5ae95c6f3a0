use Rattle.std.proofs.Common.{ℕ, ◌*◌, ◌+◌, ◌<◌, List, get_or, arith}
use Rattle.std.proofs.lemmas.Bool.{ltb-true}
use Rattle.hex.proofs.Pairs.{decode_step, decode_done}
use Rattle.xet_demo.proofs.HexPairs.{pair_computed}
use Rattle.xet_demo.proofs.script.digits.spell_each.Goals as goal

pub bytes-preserved : goal.bytes-preserved
bytes-preserved c =
    λ small.
    let text : List ℕ = c.args.text.now in
    let i : ℕ = c.bytes.i in
    let high : c.value-high.result < 16 = omega (arith, small, c.max.ensures, c.max-greatest.ensures) in
    let low : c.value-low.result < 16 = omega (arith, small, c.max.ensures, c.max-greatest.ensures) in
    let before : c.bytes.greatest < 16 = omega (arith, small, c.max.ensures, c.max-greatest.ensures) in
    let pair = pair_computed (get_or text (2 * i) 0) (get_or text (2 * i + 1) 0) c.value-high.result c.value-low.result (2 * i) high low (c.value-high.ensures high) (c.value-low.ensures low) in
    decode_step text c.bytes.out i _ (omega arith) (omega arith) pair (c.bytes.invariant before)

pub returns : goal.returns
returns c =
    λ all. decode_done c.args.text.now c.bytes.out c.bytes.i (omega arith) (omega arith) (c.bytes.invariant (ltb-true c.bytes.greatest 16 all))
