use Rattle.std.proofs.Common.{◌≡◌, ◌++◌, List, ℕ, ap, sym, subst, ◌∙◌}
use Rattle.hex.specs.Hex.{encode_lower, lower_digits}
use Rattle.xet_demo.specs.Pages.{Prints, output}
use Rattle.xet_demo.proofs.Printing.{prints_then, encode_with-append}
use Rattle.xet_demo.proofs.print.page.Page.put_hex.Goals as goal

pub pieces-preserved : goal.pieces-preserved
pieces-preserved g c =
    let here = output (g.K.Sink.taken c.pieces.sink) (g.K.Sink.faults c.pieces.sink) c.pieces.self in
    let piece : List ℕ = c.split_at.result.0.now in
    let back : List ℕ = c.split_at.result.1.now in
    let whole : encode_lower piece ++ encode_lower back ≡ encode_lower c.pieces.rest.now = sym (encode_with-append lower_digits piece back) ∙ ap encode_lower (sym c.split_at.ensures.by_index.0) in
    λ out rest. c.pieces.invariant out (subst (λ (t : List ℕ). Prints here out t) whole (prints_then {a = here} c.put_hex_piece.ensures rest))
