use Rattle.std.proofs.Common.{◌≡◌, ℕ, ◌<◌, List, length, get_or, Some, arith, subst}
use Rattle.std.proofs.Math.Nat.{sub-zero}
use Rattle.std.proofs.lemmas.Bool.{eqb-true}
use Rattle.std.proofs.lemmas.Str.{IsCharBoundary-after_ascii}
use Rattle.memchr.specs.Find.{IsLastByte, is_byte}
use Rattle.xet_types.proofs.Cuts.{cut_at_last}
use Rattle.xet_wire.proofs.text.cut_at_last_colon.Goals as goal

inside : (text : List ℕ) (at : ℕ) → IsLastByte (is_byte 58) text (Some at) → (at < length text) × (get_or text at 0 ≡ 58)
inside text at found = (found.0.high, eqb-true (get_or text at 0) 58 found.1)

pub range_from-requires : goal.range_from-requires
range_from-requires c = λ _.
    let text = c.args.text.now in
    let found : IsLastByte (is_byte 58) text (Some c.in_ok-at.at) = subst (λ (t : List ℕ). IsLastByte (is_byte 58) t (Some c.in_ok-at.at)) c.as_bytes.ensures.value c.in_ok-at.ensures in
    let there = inside text c.in_ok-at.at found in
    IsCharBoundary-after_ascii text c.in_ok-at.at c.utf8.text there.0 (omega (arith, there.1))

pub returns : goal.returns
returns c =
    let text = c.args.text.now in
    let at = c.in_ok-at.at in
    let found : IsLastByte (is_byte 58) text (Some at) = subst (λ (t : List ℕ). IsLastByte (is_byte 58) t (Some at)) c.as_bytes.ensures.value c.in_ok-at.ensures in
    let cut = cut_at_last 58 text at found in
    rw (c.range.ensures.value, c.range_from.ensures.value, sub-zero) cut
