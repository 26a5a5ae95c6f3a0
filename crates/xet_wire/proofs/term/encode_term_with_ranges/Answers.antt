use Rattle.std.proofs.Common.{inr}
use Rattle.xet_wire.specs.Terms.{file_bytes_of}
use Rattle.xet_wire.proofs.Written.{all_fit}
use Rattle.xet_wire.proofs.LinkTexts.{term_written}
use Rattle.xet_wire.proofs.term.encode_term_with_ranges.Goals as goal

pub returns-clause-reads_back : goal.returns-clause-reads_back
returns-clause-reads_back c = (_, c.in_ok-text.ensures.encodes, inr (rw (c.as_str.ensures.value, c.in_ok-payload.ensures.text) (term_written c.args.xorb_hash.now _ c.in_ok-payload.ensures.hash (all_fit file_bytes_of c.args.ranges.now c.in_ok-payload.ensures.fit))))
