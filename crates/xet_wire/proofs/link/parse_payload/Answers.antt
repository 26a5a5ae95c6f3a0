use Rattle.xet_wire.proofs.Marks.{no_hash_then, no_hash}
use Rattle.xet_wire.proofs.LinkTexts.{hash_of_cut, no_payload_hash, no_payload_number, refused_payload}
use Rattle.xet_wire.proofs.link.parse_payload.Goals as goal

pub returns-in_default : goal.returns-in_default
returns-in_default c = no_payload_hash c.args.payload.now (no_hash_then c.args.payload.now c.in_default.ensures)

pub returns-in_default-from_hex : goal.returns-in_default-from_hex
returns-in_default-from_hex c = no_payload_hash c.args.payload.now (no_hash c.args.payload.now _ _ c.in-Some.ensures c.in_default-from_hex.ensures.value)

pub returns-in_default-number_then : goal.returns-in_default-number_then
returns-in_default-number_then c = no_payload_number c.args.payload.now _ _ (hash_of_cut c.args.payload.now _ _ _ c.in-Some.ensures c.in-Ok.ensures.value) c.in_default-number_then.ensures

pub returns-in-Err : goal.returns-in-Err
returns-in-Err c = refused_payload c.args.payload.now _ _ _ _ c.in-Err.error (hash_of_cut c.args.payload.now _ _ _ c.in-Some.ensures c.in-Ok.ensures.value) c.in-Some-number_then.ensures c.in-Err.ensures

pub returns-in-Ok-read_ranges : goal.returns-in-Ok-read_ranges
returns-in-Ok-read_ranges c = record {
  rest = _;
  list = _;
  is_hash = hash_of_cut c.args.payload.now _ _ _ c.in-Some.ensures c.in-Ok.ensures.value;
  is_moment = c.in-Some-number_then.ensures;
  is_list = c.in-Ok-read_ranges.ensures;
}
