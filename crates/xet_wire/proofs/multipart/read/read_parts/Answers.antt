use Rattle.std.proofs.Common.{List, subst, sym, rules, ◌≡◌, ◌++◌, ◌∷◌, []}
use Rattle.std.proofs.lemmas.Result.{err_from_is_err_and}
use Rattle.xet_wire.specs.Multipart.{Part, part, TakesPart}
use Rattle.xet_wire.proofs.MultipartReads.{ReadsOn, reads_more, reads_all, reads_wrong}
use Rattle.xet_wire.proofs.multipart.read.read_parts.Goals as goal

pub returns-in_err-read_part : goal.returns-in_err-read_part
returns-in_err-read_part c =
    let p = err_from_is_err_and c.from_residual-in_err-read_part.result c.from_residual-in_err-read_part.ensures.1 in
    rw (p.1, p.2) (reads_wrong c.args.word.now c.args.after c.loop-alloc.parts.items c.loop-alloc.rest c.pass_line_end.new.rest c.in_ok-piece.piece c.take_piece.new.rest _ c.loop-alloc.invariant c.loop-alloc-test.ensures c.in_ok-piece.ensures c.in_err-read_part.ensures)

pub loop-alloc-preserved : goal.loop-alloc-preserved
loop-alloc-preserved c =
    let p : Part = part c.in_ok-read_part.field-0.range c.in_ok-read_part.field-0.content in
    let pushed : c.push.new.self.items ≡ c.loop-alloc.parts.items ++ part c.in_ok-read_part.field-0.range c.in_ok-read_part.field-0.content ∷ [] = search rules in
    let takes : TakesPart c.args.word.now c.loop-alloc.rest (part c.in_ok-read_part.field-0.range c.in_ok-read_part.field-0.content) c.take_piece.new.rest = record {
      rest = c.pass_line_end.new.rest;
      piece = c.in_ok-piece.piece;
      begins = c.loop-alloc-test.ensures;
      reaches = c.in_ok-piece.ensures;
      spelled = c.in_ok-read_part.ensures;
    } in
    subst (λ (ps : List Part). ReadsOn c.args.word.now c.args.after ps c.take_piece.new.rest) (sym pushed) (reads_more c.args.word.now c.args.after c.loop-alloc.parts.items c.loop-alloc.rest p c.take_piece.new.rest c.loop-alloc.invariant takes)

pub returns : goal.returns
returns c = reads_all c.args.word.now c.args.after c.loop-alloc.parts.items c.loop-alloc.rest c.loop-alloc.invariant c.loop-alloc-test.ensures
