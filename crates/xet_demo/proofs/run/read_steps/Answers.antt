use Rattle.std.proofs.Common.{◌++◌, List, ℕ, Err, take, subst, sym, arith}
use Rattle.std.proofs.lemmas.Result.{err_from_is_err_and}
use Rattle.xet_demo.specs.Script.{IsFirstBad, Parses, Refuses, lines_of}
use Rattle.xet_demo.specs.declared.script.ScriptError.{ScriptError}
use Rattle.xet_demo.specs.declared.script.ScriptError.TheVariants.{BadLine}
use Rattle.xet_demo.proofs.Reading.{nothing_more, no_steps}
use Rattle.xet_demo.proofs.run.read_steps.Goals as goal

pub returns-in_err-count : goal.returns-in_err-count
returns-in_err-count g c =
    let start = g.S.Source.left c.args.source.now in
    let before : ℕ = g.S.Source.faults c.args.source.now in
    let p = err_from_is_err_and c.from_residual.result c.from_residual.ensures.1 in
    rw (p.1, p.2) (no_steps start (g.S.Source.left c.read_piece.new.source) before (g.S.Source.faults c.read_piece.new.source) c.in_err-count.field-0.0 (c.in_err-count.ensures.read start before c.pieces.invariant.script c.pieces.invariant.read))

pub pieces-preserved : goal.pieces-preserved
pieces-preserved g c =
    let read = c.in_ok-count.ensures.read (g.S.Source.left c.args.source.now) (g.S.Source.faults c.args.source.now) c.pieces.invariant.script c.pieces.invariant.read in
    record {
      script = c.pieces.invariant.script ++ take c.in_ok-count.count c.read_piece.new.buffer;
      read = read.0;
      parsed = c.in-Ok.ensures c.pieces.invariant.script c.pieces.invariant.parsed;
    }

pub returns-in_err-read_past-in-Err-BadLine : goal.returns-in_err-read_past-in-Err-BadLine
returns-in_err-read_past-in-Err-BadLine g c =
    let start = g.S.Source.left c.args.source.now in
    let before : ℕ = g.S.Source.faults c.args.source.now in
    let script : List ℕ = c.pieces.invariant.script in
    let piece : List ℕ = take c.in_ok-count.count c.read_piece.new.buffer in
    let read = c.in_ok-count.ensures.read start before script c.pieces.invariant.read in
    let p = err_from_is_err_and c.from_residual-in_err-read_past-in-Err-BadLine.result c.from_residual-in_err-read_past-in-Err-BadLine.ensures.1 in
    rw (p.1, p.2) (no_steps start (g.S.Source.left c.read_past.new.source) before (g.S.Source.faults c.read_past.new.source) c.in_err-read_past-in-Err-BadLine.field-0.0 (c.in_err-read_past-in-Err-BadLine.ensures start before (script ++ piece) read.0))

pub returns-in-Err-BadLine : goal.returns-in-Err-BadLine
returns-in-Err-BadLine g c =
    let start = g.S.Source.left c.args.source.now in
    let before : ℕ = g.S.Source.faults c.args.source.now in
    let script : List ℕ = c.pieces.invariant.script in
    let piece : List ℕ = take c.in_ok-count.count c.read_piece.new.buffer in
    let read = c.in_ok-count.ensures.read start before script c.pieces.invariant.read in
    let past = c.in_ok-read_past-in-Err-BadLine.ensures start before (script ++ piece) read.0 in
    let refused : Refuses (script ++ piece) (BadLine c.in-Err-BadLine.n) = subst (λ (e : ScriptError). Refuses (script ++ piece) e) c.in-Err-BadLine.field-0-is (c.in-Err-BadLine.ensures script c.pieces.invariant.parsed) in
    record {
      script = (script ++ piece) ++ past.more;
      read = past.read;
      bad = subst (λ (n : ℕ). IsFirstBad (lines_of ((script ++ piece) ++ past.more)) n) (sym c.in-Err-BadLine.n-is) (refused past.more);
    }

pub returns-in-Err-OutOfMemory : goal.returns-in-Err-OutOfMemory
returns-in-Err-OutOfMemory g c =
    let read = c.in_ok-count.ensures.read (g.S.Source.left c.args.source.now) (g.S.Source.faults c.args.source.now) c.pieces.invariant.script c.pieces.invariant.read in
    record {
      bytes = c.pieces.invariant.script ++ take c.in_ok-count.count c.read_piece.new.buffer;
      consumed = read.0.consumed;
      no_further = omega (arith, read.0.counted, read.0.short);
      faults = read.0.faults;
    }

pub returns-in-Ok-finish : goal.returns-in-Ok-finish
returns-in-Ok-finish g c =
    let start = g.S.Source.left c.args.source.now in
    let before : ℕ = g.S.Source.faults c.args.source.now in
    let script : List ℕ = c.pieces.invariant.script in
    let read = c.in_ok-count.ensures.read start before script c.pieces.invariant.read in
    record {
      script = script;
      read = nothing_more start (g.S.Source.left c.read_piece.new.source) before (g.S.Source.faults c.read_piece.new.source) script c.read_piece.new.buffer c.pieces.length c.in_ok-count.count c.if-count-eq0.true read;
      parsed = c.in-Ok-finish.ensures script c.pieces.invariant.parsed;
    }

pub returns-in-Err-BadLine-finish : goal.returns-in-Err-BadLine-finish
returns-in-Err-BadLine-finish g c =
    let start = g.S.Source.left c.args.source.now in
    let before : ℕ = g.S.Source.faults c.args.source.now in
    let script : List ℕ = c.pieces.invariant.script in
    let read = c.in_ok-count.ensures.read start before script c.pieces.invariant.read in
    record {
      script = script;
      read = nothing_more start (g.S.Source.left c.read_piece.new.source) before (g.S.Source.faults c.read_piece.new.source) script c.read_piece.new.buffer c.pieces.length c.in_ok-count.count c.if-count-eq0.true read;
      bad = subst (λ (e : ScriptError). Parses script (Err e)) c.in-Err-BadLine-finish.field-0-is (c.in-Err-BadLine-finish.ensures script c.pieces.invariant.parsed);
    }
