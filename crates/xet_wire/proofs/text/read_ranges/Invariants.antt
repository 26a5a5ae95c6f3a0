use Rattle.std.proofs.Common.{length}
use denote.Text.{Utf8}
use denote.Shadow.{shadow}
use Rattle.xet_wire.specs.Texts.{pieces_of}
use Rattle.xet_wire.proofs.Lists.{GoesOn}
use Rattle.xet_wire.proofs.text.read_ranges.Given as goal

abbrev pub invariant-loop-piece : goal.invariant-loop-piece
invariant-loop-piece g l = shadow (Utf8 l.rest) × GoesOn (pieces_of l.text) l.ranges.items (pieces_of l.rest)

abbrev pub decreases-loop-piece : goal.decreases-loop-piece
decreases-loop-piece g l = length l.rest
