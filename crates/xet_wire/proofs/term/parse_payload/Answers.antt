use Rattle.xet_wire.proofs.LinkTexts.{no_term_plain, no_term_hash, refused_term}
use Rattle.xet_wire.proofs.term.parse_payload.Goals as goal

pub returns-in_default-from_hex : goal.returns-in_default-from_hex
returns-in_default-from_hex c = no_term_hash c.args.payload.now _ _ c.in-Some.ensures c.in_default-from_hex.ensures.value

pub returns-in-Err-read_ranges : goal.returns-in-Err-read_ranges
returns-in-Err-read_ranges c = refused_term c.args.payload.now _ _ _ c.in-Err-read_ranges.error c.in-Some.ensures c.in-Ok-from_hex.ensures.value c.in-Err-read_ranges.ensures

pub returns-in-Err : goal.returns-in-Err
returns-in-Err c = no_term_plain c.args.payload.now c.in_default.ensures c.in-Err.ensures.value
