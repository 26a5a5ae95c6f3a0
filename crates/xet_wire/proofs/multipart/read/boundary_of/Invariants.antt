use Rattle.std.proofs.Common.{length}
use Rattle.std.specs.Prelude.{◌==◌}
use Rattle.std.specs.List.{slice_split}
use denote.Text.{Utf8}
use denote.Shadow.{shadow}
use Rattle.xet_wire.specs.Multipart.{GivesBoundary}
use Rattle.xet_wire.proofs.MultipartReads.{SameTold}
use Rattle.xet_wire.proofs.multipart.read.boundary_of.Given as goal

abbrev pub invariant-loop-piece : goal.invariant-loop-piece
invariant-loop-piece l = shadow (Utf8 l.rest) × SameTold GivesBoundary (slice_split (λ b. b == 59) l.content_type) (slice_split (λ b. b == 59) l.rest)

abbrev pub decreases-loop-piece : goal.decreases-loop-piece
decreases-loop-piece l = length l.rest
