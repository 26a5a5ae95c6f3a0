use Rattle.std.proofs.Common.{List, ℕ, ◌≤◌, ◌-◌, length, take, drop, subst, ◌∙◌, arith}
use Rattle.std.proofs.lemmas.List.{length-take, length-drop}
use Rattle.std.specs.Io.KnownBytes.{Appends}
use Rattle.std.proofs.KnownBytes.{Appends-trans}
use Rattle.xet_demo.proofs.Printing.{next_piece}
use Rattle.xet_demo.proofs.print.page.write_all.Goals as goal

pub pieces-preserved : goal.pieces-preserved
pieces-preserved g c =
    let text : List ℕ = c.args.bytes.now in
    let done = c.pieces.done in
    let h = c.in_ok-count.ensures in
    let fits : c.in_ok-count.count ≤ length text - done = omega (arith, h.bound, length-take (length text - done) (drop done text), length-drop done text) in
    record {
      within = omega (arith, fits, c.pieces.invariant.within);
      written = subst (Appends (g.K.Sink.taken c.args.sink.now) (g.K.Sink.taken c.write.new.self)) (next_piece text done c.in_ok-count.count fits)
          (Appends-trans (g.K.Sink.taken c.args.sink.now) (g.K.Sink.taken c.pieces.sink) (g.K.Sink.taken c.write.new.self) (take done text) (take c.in_ok-count.count (take (length text - done) (drop done text))) c.pieces.invariant.written h.bytes);
      faults = h.cause.kept ∙ c.pieces.invariant.faults;
    }
