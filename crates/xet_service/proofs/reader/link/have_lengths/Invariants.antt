use Rattle.std.proofs.Common.{◌≡◌, drop}
use Rattle.xet_service.specs.Reading.{have_lengths}
use Rattle.xet_service.proofs.reader.link.have_lengths.Given as goal

abbrev pub invariant-loop-held : goal.invariant-loop-held
invariant-loop-held l = have_lengths l.got (drop l.held-index l.terms) ≡ have_lengths l.got l.terms
