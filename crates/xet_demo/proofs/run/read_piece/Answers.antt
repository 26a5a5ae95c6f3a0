use Rattle.std.proofs.Common.{◌++◌, ◌∙◌, List, ℕ, take, arith}
use Rattle.std.proofs.lemmas.List.{length-append, length-take}
use Rattle.std.proofs.KnownBytes.{Consumes-trans}
use Rattle.xet_demo.proofs.run.read_piece.Goals as goal

pub returns-then-count-length-clause-read : goal.returns-then-count-length-clause-read
returns-then-count-length-clause-read g c = λ start before script read.
    let bytes : List ℕ = c.read.new.into in
    let piece : List ℕ = take c.in-Ok.count bytes in
    record {
      bytes = script ++ piece;
      consumed = Consumes-trans start (g.S.Source.left c.args.source.now) (g.S.Source.left c.read.new.self) script piece read.consumed c.in-Ok.ensures.bytes.0;
      long = omega (arith, length-append script piece, length-take c.in-Ok.count bytes, read.counted, read.short, c.if-count-length.true, c.in-Ok.ensures.bound);
      no_further = omega (arith, length-append script piece, length-take c.in-Ok.count bytes, read.counted, read.short, c.in-Ok.ensures.bound, c.read.auto.into);
      faults = c.in-Ok.ensures.cause.kept ∙ read.faults;
    }
