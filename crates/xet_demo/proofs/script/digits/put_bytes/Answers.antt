use Rattle.std.proofs.Common.{◌≡◌, ◌∙◌, ◌*◌, List, ℕ}
use lib.Lanes.{chunk}
use Rattle.hex.specs.Hex.{encode_lower, lower_digits}
use Rattle.xet_demo.proofs.HexLower.{put_behind, two_chunks}
use Rattle.xet_demo.proofs.script.digits.put_bytes.Goals as goal

pub returns-then-are_same-clause-spelled : goal.returns-then-are_same-clause-spelled
returns-then-are_same-clause-spelled c =
    λ same.
    let text : List ℕ = c.args.text.now in
    let at : ℕ = c.args.at in
    let bytes : List ℕ = c.guess-bytes.result in
    let digits : chunk (2 * at) 32 text ≡ encode_lower bytes = two_chunks text c.digits.result.0 c.digits.result.1 (2 * at) (c.are_same.ensures c.if-are_same.true) (c.are_same-then-are_same.ensures same) ∙ c.digits.ensures.digits in
    put_behind lower_digits c.args.out.now bytes (chunk (2 * at) 32 text) at c.guess-bytes.ensures c.requires.inside digits
