use Rattle.memchr.specs.Find.{Nowhere, Passes, is_byte}
use Rattle.xet_demo.proofs.script.places.place_in_few.Given as goal

abbrev pub invariant-bytes : goal.invariant-bytes
invariant-bytes l = Nowhere (Passes (is_byte l.byte) l.text) l.from l.place
