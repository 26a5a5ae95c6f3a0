use Rattle.std.proofs.Common.{ap, sym, ◌∙◌, arith, subst, List, ℕ, Err}
use Rattle.std.proofs.lemmas.Result.{err_from_is_err_and}
use Rattle.xet_bytes.specs.Reading.{Gives}
use Rattle.xet_xorb.specs.Steps.{header_at}
use Rattle.xet_xorb.proofs.ChunkText.{has_header, header_ends}
use Rattle.xet_xorb.proofs.read.chunk_length.Goals as goal

pub returns-in_err-length-clause-value : goal.returns-in_err-length-clause-value
returns-in_err-length-clause-value c =
    let p = err_from_is_err_and c.from_residual.result c.from_residual.ensures.1 in
    let same = c.new-cursor.ensures in
    rw (p.1, p.2) (header_ends c.in_err-length.field-0.0 c.args.content.now c.header.new.cursor (subst (λ (bytes : List ℕ). Gives {X = ℕ} {Y = ℕ} (λ n. n) (Err c.in_err-length.field-0.0) c.header.new.cursor (header_at bytes)) same c.in_err-length.ensures.value))

pub returns-clause-value : goal.returns-clause-value
returns-clause-value c =
    has_header c.args.content.now c.in_ok-length.length c.header.new.cursor (λ i. omega (arith, c.type_inv.content i))
    (ap header_at (sym c.new-cursor.ensures) ∙ c.in_ok-length.ensures.value)
