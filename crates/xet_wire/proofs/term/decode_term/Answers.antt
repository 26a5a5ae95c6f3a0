use Rattle.xet_wire.proofs.LinkTexts.{term_reads, term_gives, undecoded_term, undecoded_term_gives}
use Rattle.xet_wire.proofs.term.decode_term.Goals as goal

pub returns-in-Ok-clause-value : goal.returns-in-Ok-clause-value
returns-in-Ok-clause-value c = term_reads c.args.term.now _ c.parse_payload.result (rw c.as_str.ensures.value c.in-Ok.ensures) c.parse_payload.ensures

pub returns-in-Ok-clause-reads : goal.returns-in-Ok-clause-reads
returns-in-Ok-clause-reads c = term_gives c.args.term.now _ c.parse_payload.result (rw c.as_str.ensures.value c.in-Ok.ensures) c.parse_payload.ensures

pub returns-in-Err-clause-value : goal.returns-in-Err-clause-value
returns-in-Err-clause-value c = undecoded_term c.args.term.now c.in-Err.error c.in-Err.ensures

pub returns-in-Err-clause-reads : goal.returns-in-Err-clause-reads
returns-in-Err-clause-reads c = undecoded_term_gives c.args.term.now c.in-Err.error c.in-Err.ensures
