use Rattle.std.proofs.Common.{◌++◌, ◌+◌, List, ℕ, take, arith}
use Rattle.std.proofs.lemmas.Result.{err_from_is_err_and}
use Rattle.xet_demo.proofs.Reading.{nothing_more, joined}
use Rattle.xet_demo.proofs.run.read_past.Goals as goal

pub returns-in_err-count : goal.returns-in_err-count
returns-in_err-count g c = λ start before script read.
    let found = c.pieces.invariant.read start before script read in
    let p = err_from_is_err_and c.from_residual.result c.from_residual.ensures.1 in
    rw (p.1, p.2) (c.in_err-count.ensures.read start before (script ++ found.0) found.1)

pub returns-in-0 : goal.returns-in-0
returns-in-0 g c = λ start before script read.
    let found = c.pieces.invariant.read start before script read in
    record {
      more = found.0;
      read = nothing_more start (g.S.Source.left c.read_piece.new.source) before (g.S.Source.faults c.read_piece.new.source) (script ++ found.0) c.read_piece.new.buffer c.pieces.length c.in_ok-count.count c.in-0.is (c.in_ok-count.ensures.read start before (script ++ found.0) found.1);
    }

pub pieces-preserved : goal.pieces-preserved
pieces-preserved g c = record {
  short = c.in_ok-count.ensures.short;
  read = λ start before script read.
      let found = c.pieces.invariant.read start before script read in
      let piece : List ℕ = take c.in_ok-count.count c.read_piece.new.buffer in
      (found.0 ++ piece, joined start (g.S.Source.left c.read_piece.new.source) before (g.S.Source.faults c.read_piece.new.source) script found.0 piece (c.pieces.length + c.in_ok-count.count) (c.in_ok-count.ensures.read start before (script ++ found.0) found.1).0);
}
