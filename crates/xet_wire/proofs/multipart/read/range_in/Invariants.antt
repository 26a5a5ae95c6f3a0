use Rattle.std.proofs.Common.{length}
use denote.Text.{Utf8}
use denote.Shadow.{shadow}
use Rattle.xet_wire.specs.Multipart.{TellsRange, lines_of}
use Rattle.xet_wire.proofs.MultipartReads.{SameTold}
use Rattle.xet_wire.proofs.multipart.read.range_in.Given as goal

abbrev pub invariant-loop-line : goal.invariant-loop-line
invariant-loop-line l = shadow (Utf8 l.rest) × SameTold TellsRange (lines_of l.headers) (lines_of l.rest)

abbrev pub decreases-loop-line : goal.decreases-loop-line
decreases-loop-line l = length l.rest
