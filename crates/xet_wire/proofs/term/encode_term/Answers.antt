use Rattle.std.proofs.Common.{refl, inl}
use Rattle.xet_wire.proofs.term.encode_term.Goals as goal

pub returns-clause-reads_back : goal.returns-clause-reads_back
returns-clause-reads_back c = (_, c.in_ok-text.ensures.encodes, inl (record { is_hash = rw c.as_str.ensures.value c.in_ok-payload.ensures.reads_back; no_ranges = refl }))
