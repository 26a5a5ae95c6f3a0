use Rattle.std.proofs.Common.{arith}
use Rattle.xet_wire.specs.Links.{bytes_of}
use Rattle.xet_wire.proofs.Written.{all_fit}
use Rattle.xet_wire.proofs.LinkTexts.{payload_written}
use Rattle.xet_wire.proofs.link.generate_v2_fetch_url.Goals as goal

pub returns-clause-reads_back : goal.returns-clause-reads_back
returns-clause-reads_back c = (_, c.in_ok-text.ensures.encodes, rw (c.as_str.ensures.value, c.in_ok-payload.ensures.text) (payload_written c.args.hash.now c.args.at _ c.in_ok-payload.ensures.hash (omega arith) (all_fit bytes_of c.args.ranges.now c.in_ok-payload.ensures.fit)))
