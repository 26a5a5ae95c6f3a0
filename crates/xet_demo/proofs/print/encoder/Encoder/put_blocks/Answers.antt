use Rattle.std.proofs.Common.{◌≡◌, ◌∙◌, ◌++◌, List, ℕ, [], length, ap, sym, subst, arith}
use Rattle.xet_demo.specs.Pages.{Output, output}
use Rattle.xet_demo.specs.Blocks.{PrintsBlocks}
use Rattle.xet_demo.proofs.Encoding.{blocks_then, blocks_printed, blocks_wait}
use Rattle.xet_demo.proofs.print.encoder.Encoder.put_blocks.Goals as goal

pub pieces-preserved : goal.pieces-preserved
pieces-preserved g c =
    let here : Output = output (g.K.Sink.taken c.pieces.sink) (g.K.Sink.faults c.pieces.sink) c.pieces.page in
    let next : Output = output (g.K.Sink.taken c.print_encoded.new.sink) (g.K.Sink.faults c.print_encoded.new.sink) c.print_encoded.new.page in
    let block : List ℕ = c.split_at.result.0.now in
    let size : length block ≡ 48 = c.split_at.ensures.front_len in
    let whole : block ++ c.split_at.result.1.now ≡ c.pieces.rest.now = sym c.split_at.ensures.by_index.0 in
    let printed : PrintsBlocks here next [] [] block = blocks_printed here next block (omega (arith, size)) c.print_encoded.ensures in
    record {
      prints = λ out now rest. c.pieces.invariant.prints out now (subst (λ (t : List ℕ). PrintsBlocks here out [] now t) whole (blocks_then printed rest));
      empty = c.pieces.invariant.empty;
    }

pub returns : goal.returns
returns g c =
    let start : Output = output (g.K.Sink.taken c.args.sink.now) (g.K.Sink.faults c.args.sink.now) c.args.page.now in
    let here : Output = output (g.K.Sink.taken c.pieces.sink) (g.K.Sink.faults c.pieces.sink) c.pieces.page in
    let rest : List ℕ = c.pieces.rest.now in
    let now : List ℕ = c.add.new.self in
    let added : now ≡ rest = c.add.ensures ∙ ap (λ (s : List ℕ). s ++ rest) c.pieces.invariant.empty in
    let last : PrintsBlocks here here [] now rest = subst (λ (s : List ℕ). PrintsBlocks here here [] s rest) (sym added) (blocks_wait here [] rest) in
    subst (λ (s : List ℕ). PrintsBlocks start here s now c.args.bytes.now) (sym c.requires) (c.pieces.invariant.prints here now last)
