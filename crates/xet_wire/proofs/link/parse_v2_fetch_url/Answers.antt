use Rattle.xet_wire.proofs.LinkTexts.{second_reads, second_gives, undecoded_reads, undecoded_gives}
use Rattle.xet_wire.proofs.link.parse_v2_fetch_url.Goals as goal

pub returns-in-Ok-clause-value : goal.returns-in-Ok-clause-value
returns-in-Ok-clause-value c = second_reads c.args.url.now _ c.parse_payload.result (rw c.as_str.ensures.value c.in-Ok.ensures) c.parse_payload.ensures

pub returns-in-Ok-clause-reads : goal.returns-in-Ok-clause-reads
returns-in-Ok-clause-reads c = second_gives c.args.url.now _ c.parse_payload.result (rw c.as_str.ensures.value c.in-Ok.ensures) c.parse_payload.ensures

pub returns-in-Err-clause-value : goal.returns-in-Err-clause-value
returns-in-Err-clause-value c = undecoded_reads c.args.url.now c.in-Err.error c.in-Err.ensures

pub returns-in-Err-clause-reads : goal.returns-in-Err-clause-reads
returns-in-Err-clause-reads c = undecoded_gives c.args.url.now c.in-Err.error c.in-Err.ensures
