use Rattle.std.proofs.Common.{◌≡◌, ◌+◌, ◌-◌, ◌*◌, ◌∙◌, ◌++◌, List, ℕ, length, ap, sym, arith, rules}
use Rattle.std.specs.Prelude.{IsTrue}
use Rattle.std.proofs.lemmas.List.{take_all}
use lib.Lanes.{chunk}
use Rattle.hex.specs.Hex.{IsBytes, decode_pairs, encode_lower, lower_digits}
use Rattle.hex.proofs.HexLemmas.{decode_pairs-encode_with, IsDigits-lower_digits}
use Rattle.xet_demo.proofs.Printing.{encode_with-nil}
use Rattle.xet_demo.proofs.HexBlocks.{encode_fewer}
use Rattle.xet_demo.proofs.HexLower.{sixteen_more}
use Rattle.xet_demo.proofs.script.digits.spell_lower.Goals as goal

pub parts-init : goal.parts-init
parts-init c = record { room = c.requires; within = omega arith; spelled = sym (encode_with-nil lower_digits) }

pub parts-preserved : goal.parts-preserved
parts-preserved c =
    let text : List ℕ = c.args.text.now in
    let at : ℕ = c.parts.at in
    let put : IsTrue c.put_bytes.result = search rules in
    record {
      room = omega (arith, c.put_bytes.ensures.room, c.parts.invariant.room);
      within = omega (arith, c.put_bytes.ensures.room, c.parts-test.true, c.parts.auto.out);
      spelled = sym (sixteen_more text at) ∙ ap (λ (ds : List ℕ). ds ++ chunk (2 * at) 32 text) c.parts.invariant.spelled ∙ sym (c.put_bytes.ensures.spelled put);
    }

pub returns : goal.returns
returns c =
    λ put.
    let text : List ℕ = c.args.text.now in
    let out : List ℕ = c.put_bytes-2.new.out in
    let last : ℕ = length c.args.out.now - 16 in
    let long : length out ≡ last + 16 = omega (arith, c.put_bytes-2.ensures.room, c.parts.auto.out, c.if-out-lt16.false) in
    let front = encode_fewer lower_digits c.parts.out text last c.parts.at (omega arith) c.parts.invariant.within c.parts.invariant.spelled in
    let whole : text ≡ encode_lower out = sym (take_all (2 * (last + 16)) text (omega (arith, c.requires, c.if-out-lt16.false)))
    ∙ sym (sixteen_more text last) ∙ ap (λ (ds : List ℕ). ds ++ chunk (2 * last) 32 text) front ∙ sym (c.put_bytes-2.ensures.spelled put)
    ∙ ap encode_lower (take_all (last + 16) out (omega (arith, long))) in
    let bytes : IsBytes out = λ i. omega (arith, c.type_inv.out i) in
    ap (decode_pairs 0) whole ∙ decode_pairs-encode_with lower_digits IsDigits-lower_digits 0 out bytes
