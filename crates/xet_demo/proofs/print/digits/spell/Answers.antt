use Rattle.std.proofs.Common.{◌≡◌, ◌+◌, ◌-◌, ◌*◌, ◌∙◌, ◌++◌, List, ℕ, length, ap, sym, arith}
use Rattle.std.proofs.lemmas.List.{take_all}
use lib.Lanes.{chunk}
use Rattle.hex.specs.Hex.{encode_lower, lower_digits}
use Rattle.xet_demo.proofs.Printing.{encode_with-nil}
use Rattle.xet_demo.proofs.HexBlocks.{encode_block, encode_fewer}
use Rattle.xet_demo.proofs.print.digits.spell.Goals as goal

pub blocks-2-init : goal.blocks-2-init
blocks-2-init c = record { room = c.requires; within = omega arith; put = sym (encode_with-nil lower_digits) }

pub blocks-2-preserved : goal.blocks-2-preserved
blocks-2-preserved c =
    let bytes : List ℕ = c.args.bytes.now in
    let at : ℕ = c.blocks-2.at in
    record {
      room = c.put_digits.ensures.room ∙ c.blocks-2.invariant.room;
      within = omega arith;
      put = c.put_digits.ensures.digits ∙ ap (λ (xs : List ℕ). xs ++ encode_lower (chunk at 16 bytes)) c.blocks-2.invariant.put ∙ encode_block lower_digits bytes at;
    }

pub returns : goal.returns
returns c =
    let bytes : List ℕ = c.args.bytes.now in
    let last : ℕ = length bytes - 16 in
    let all : last + 16 ≡ length bytes = omega arith in
    let front = encode_fewer lower_digits bytes c.blocks-2.out last c.blocks-2.at (omega arith) c.blocks-2.invariant.within c.blocks-2.invariant.put in
    sym (take_all (2 * (last + 16)) c.put_digits-2.new.out (omega (arith, c.put_digits-2.ensures.room, c.blocks-2.invariant.room)))
    ∙ c.put_digits-2.ensures.digits ∙ ap (λ (xs : List ℕ). xs ++ encode_lower (chunk last 16 bytes)) front ∙ encode_block lower_digits bytes last
    ∙ ap encode_lower (take_all (last + 16) bytes (omega arith))
