use Rattle.std.proofs.Common.{◌≡◌, ◌∙◌, length, eqb, false, Some, Err, List, ℕ, ap, sym, subst, arith}
use Rattle.std.proofs.lemmas.Result.{err_from_is_err_and}
use Rattle.xet_bytes.specs.Reading.{Gives}
use Rattle.xet_xorb.specs.Footers.{footer_at}
use Rattle.xet_xorb.proofs.ChunkText.{some_left}
use Rattle.xet_xorb.proofs.Footing.{footer_stops, end_stops, footer_read}
use Rattle.xet_xorb.proofs.footer.read_footer.Goals as goal

pub returns-in_err-pass_footer : goal.returns-in_err-pass_footer
returns-in_err-pass_footer c =
    let p = err_from_is_err_and c.from_residual.result c.from_residual.ensures.1 in
    let o = c.object.inside in
    let bytes = c.args.content.now in
    let test : eqb (length bytes) 0 ≡ false = cc in
    let none = subst (λ (t : List ℕ). Gives {X = Unit {0}} (λ x. x) (Err c.in_err-pass_footer.field-0.0) c.pass_footer.new.cursor (footer_at o.info o.info_length t)) c.new-cursor.ensures c.in_err-pass_footer.ensures in
    rw (p.1, p.2) (footer_stops c.in_err-pass_footer.field-0.0 o c.args.object.now bytes c.pass_footer.new.cursor (some_left bytes test) c.object.invariant c.object.view_is none)

pub returns-in_err-end : goal.returns-in_err-end
returns-in_err-end c =
    let p = err_from_is_err_and c.from_residual-in_err-end.result c.from_residual-in_err-end.ensures.1 in
    let o = c.object.inside in
    let bytes = c.args.content.now in
    let test : eqb (length bytes) 0 ≡ false = cc in
    let footer : footer_at o.info o.info_length bytes ≡ Some (tt, c.pass_footer.new.cursor) = ap (footer_at o.info o.info_length) (sym c.new-cursor.ensures) ∙ c.in_ok-pass_footer.ensures in
    rw (p.1, p.2) (end_stops c.in_err-end.field-0.0 o c.args.object.now bytes c.pass_footer.new.cursor c.pass_footer.new.cursor (some_left bytes test) c.object.invariant c.object.view_is footer c.in_err-end.ensures.value)

pub returns : goal.returns
returns c =
    let o = c.object.inside in
    let bytes = c.args.content.now in
    let footer : footer_at o.info o.info_length bytes ≡ Some (tt, c.pass_footer.new.cursor) = ap (footer_at o.info o.info_length) (sym c.new-cursor.ensures) ∙ c.in_ok-pass_footer.ensures in
    footer_read o c.args.object.now bytes c.pass_footer.new.cursor c.pass_footer.new.cursor (λ i. omega (arith, c.type_inv.content i)) c.object.invariant c.object.view_is footer c.in_ok-end.ensures.value
