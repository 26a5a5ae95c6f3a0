use Rattle.std.proofs.Common.{◌≡◌, ◌+◌, ◌*◌, ◌++◌, List, ℕ, take, subst, arith}
use Rattle.hex.specs.Hex.{encode_lower}
use lib.Lanes.{chunk, put_chunk}
use Rattle.xet_demo.proofs.HexBlocks.{stored_twice}
use Rattle.xet_demo.proofs.print.digits.put_digits.Goals as goal

pub returns-clause-digits : goal.returns-clause-digits
returns-clause-digits c =
    let at : ℕ = c.args.at in
    let out : List ℕ = c.args.out.now in
    let front : List ℕ = c.digits.result.0 in
    let back : List ℕ = c.digits.result.1 in
    let digits : List ℕ = encode_lower (chunk at 16 c.args.bytes.now) in
    let end : 2 * at + 32 ≡ 2 * (at + 16) = omega arith in
    subst (λ (n : ℕ). take n (put_chunk (2 * at + 16) (put_chunk (2 * at) out front) back) ≡ take (2 * at) out ++ digits) end
    (stored_twice out front back digits (2 * at) c.digits.ensures.front c.digits.ensures.back (omega (arith, c.requires.inside, c.requires.twice)) c.digits.ensures.digits)
