use Rattle.std.proofs.Common.{◌≡◌, ◌∙◌, List, ℕ, Some, Err, ap, sym, subst}
use Rattle.std.proofs.lemmas.Result.{err_from_is_err_and}
use Rattle.std.specs.List.{flat_map}
use Rattle.xet_bytes.specs.Reading.{Gives, literal_at}
use Rattle.xet_xorb.proofs.Literals.{passes_next, passes_all, passes_none}
use Rattle.xet_xorb.proofs.footer.pass_hashes.Goals as goal

pub returns-in_err-literal : goal.returns-in_err-literal
returns-in_err-literal c =
    let p = err_from_is_err_and c.from_residual.result c.from_residual.ensures.1 in
    let none = subst (λ (t : List ℕ). Gives {X = Unit {0}} (λ x. x) (Err c.in_err-literal.field-0.0) c.literal.new.self (literal_at t c.loop-hash.cursor)) c.as_bytes.ensures.value c.in_err-literal.ensures.value in
    rw (p.1, p.2) (passes_none (λ hash. hash) c.args.hashes.now c.loop-hash.hash-index c.hash-item.result c.in_err-literal.field-0.0 c.loop-hash.cursor c.literal.new.self c.literal.new.self (literal_at (flat_map (λ hash. hash) c.args.hashes.now) c.args.cursor.now) c.loop-hash-test.true c.hash-item.is none c.loop-hash.invariant)

pub loop-hash-preserved : goal.loop-hash-preserved
loop-hash-preserved c =
    let one : literal_at c.hash-item.result c.loop-hash.cursor ≡ Some (tt, c.literal.new.self) = ap (λ (t : List ℕ). literal_at t c.loop-hash.cursor) (sym c.as_bytes.ensures.value) ∙ c.in_ok-literal.ensures.value in
    passes_next (λ hash. hash) c.args.hashes.now c.loop-hash.hash-index c.hash-item.result c.loop-hash.cursor c.literal.new.self (literal_at (flat_map (λ hash. hash) c.args.hashes.now) c.args.cursor.now) c.loop-hash-test.true c.hash-item.is one c.loop-hash.invariant

pub returns : goal.returns
returns c = passes_all (λ hash. hash) c.args.hashes.now c.loop-hash.hash-index c.loop-hash.cursor (literal_at (flat_map (λ hash. hash) c.args.hashes.now) c.args.cursor.now) c.loop-hash-test.false c.loop-hash.invariant
