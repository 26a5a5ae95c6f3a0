use Rattle.std.proofs.Common.{◌≡◌, ◌+◌, ◌-◌, List, length, take, drop, ℕ, Some, None, ap, ◌∙◌, arith, subst, length-drop}
use Rattle.std.proofs.lemmas.List.{take_all}
use Rattle.memchr.specs.Find.{IsLastByte, is_byte}
use Rattle.xet_types.proofs.Cuts.{cut_at_last, cut_after, no_cut}
use Rattle.xet_types.proofs.key.parts_of.Goals as goal

pub returns-in_default : goal.returns-in_default
returns-in_default c = λ k spells.
    let text = c.as_bytes-bytes.ensures.value in
    let nowhere : IsLastByte (is_byte 47) c.args.text.now None = subst (λ (t : List ℕ). IsLastByte (is_byte 47) t None) text c.in_default.ensures in
    no_cut 47 c.args.text.now k.prefix spells.0 nowhere spells.1

pub returns-in-Err : goal.returns-in-Err
returns-in-Err c = λ k spells.
    let text = c.args.text.now in
    let at = c.in-Some.at in
    let found : IsLastByte (is_byte 47) text (Some at) = subst (λ (t : List ℕ). IsLastByte (is_byte 47) t (Some at)) c.as_bytes-bytes.ensures.value c.in-Some.ensures in
    let same : spells.0 ≡ drop (at + 1) text = cut_after 47 text k.prefix spells.0 (take at text) (drop (at + 1) text) spells.1 (cut_at_last 47 text at found) in
    let bytes = c.as_bytes-bytes.result.now in
    let whole : take (length bytes - (at + 1)) (drop (at + 1) bytes) ≡ drop (at + 1) text = ap (λ (t : List ℕ). take (length t - (at + 1)) (drop (at + 1) t)) c.as_bytes-bytes.ensures.value ∙ take_all (length text - (at + 1)) (drop (at + 1) text) (omega (arith, length-drop (at + 1) text)) in
    c.in-Err.ensures.value k.hash (rw (whole, ← same) spells.2)
