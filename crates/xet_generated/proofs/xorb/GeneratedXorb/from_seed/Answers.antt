use Rattle.std.proofs.Common.{◌≡◌, ◌∙◌, sym, ap, subst}
use Rattle.xet_xorb.specs.ChunkLists.{IsWellFormed, object_of}
use Rattle.xet_xorb.specs.XorbBytes.{xorb_bytes}
use Rattle.xet_xorb.specs.Generated.{seeded_chunks}
use Rattle.xet_generated.proofs.Pieces.{text_end, text_within, text_cut, read_are}
use Rattle.xet_generated.proofs.xorb.GeneratedXorb.from_seed.Goals as goal

pub slice-requires-clause-in_bounds : goal.slice-requires-clause-in_bounds
slice-requires-clause-in_bounds c =
    let cs = seeded_chunks c.args.seed c.args.num_chunks c.args.chunk_size in
    let made = c.in-Ok.ensures in
    text_within cs c.in-Ok.text c.packed_before.result made.text (text_end c.in-Ok.object cs c.num_chunks.result c.packed_before.result made.object c.num_chunks.ensures.count c.packed_before.ensures)

pub invariant_of-result : goal.invariant_of-result
invariant_of-result c =
    let cs = seeded_chunks c.args.seed c.args.num_chunks c.args.chunk_size in
    let made = c.in-Ok.ensures in
    let end = text_end c.in-Ok.object cs c.num_chunks.result c.packed_before.result made.object c.num_chunks.ensures.count c.packed_before.ensures in
    let is : c.in-Ok-read_chunks.chunks.items ≡ cs = read_are cs c.in-Ok-read_chunks.chunks.items c.in_ok-packed.packed made.formed (c.in_ok-packed.ensures.ok ∙ text_cut cs c.in-Ok.text c.packed_before.result made.text end) c.in-Ok-read_chunks.ensures in
    record { formed = subst IsWellFormed (sym is) made.formed; text = made.text ∙ ap xorb_bytes (sym is); object = made.object ∙ ap object_of (sym is) }

pub returns : goal.returns
returns c =
    let cs = seeded_chunks c.args.seed c.args.num_chunks c.args.chunk_size in
    let made = c.in-Ok.ensures in
    let end = text_end c.in-Ok.object cs c.num_chunks.result c.packed_before.result made.object c.num_chunks.ensures.count c.packed_before.ensures in
    read_are cs c.in-Ok-read_chunks.chunks.items c.in_ok-packed.packed made.formed (c.in_ok-packed.ensures.ok ∙ text_cut cs c.in-Ok.text c.packed_before.result made.text end) c.in-Ok-read_chunks.ensures
