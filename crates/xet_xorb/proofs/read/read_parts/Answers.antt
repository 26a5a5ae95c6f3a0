use Rattle.std.proofs.Common.{◌≡◌, ◌≤◌, ◌^◌, ◌∷◌, ◌++◌, eqb, true, false, [], ◌<◌, length, List, ℕ, ap, sym, ◌∙◌, arith}
use Rattle.std.proofs.lemmas.Result.{err_from_is_err_and}
use Rattle.xet_xorb.specs.Lengths.{serialized_length}
use Rattle.xet_xorb.specs.ChunkLists.{lengths_of}
use Rattle.xet_xorb.specs.Steps.{at_chunks_end}
use Rattle.xet_xorb.proofs.ChunkText.{IsReadSoFar, reads_on, stops_by, too_long, serialized-push, begins_with, is_empty, some_left, none_left}
use Rattle.xet_xorb.proofs.read.read_parts.Goals as goal

pub returns-in_err-chunk : goal.returns-in_err-chunk
returns-in_err-chunk c =
    let p = err_from_is_err_and c.from_residual-in_err-chunk.result c.from_residual-in_err-chunk.ensures.1 in
    let on : at_chunks_end c.loop-rest.rest ≡ false = ap at_chunks_end (sym c.as_slice.ensures) ∙ sym c.loop-rest-test.ensures in
    rw (p.1, p.2) (stops_by {X = List ℕ} (λ x. x) (λ x. c.take_chunk.new.rest) c.in_err-chunk.field-0.0 c.args.content.now c.loop-rest.chunks.items c.loop-rest.rest on c.loop-rest.invariant.so_far c.in_err-chunk.ensures)

pub returns-then-serialized_length : goal.returns-then-serialized_length
returns-then-serialized_length c = λ others tail.
    let chunks = c.loop-rest.chunks.items in
    let chunk = c.in_ok-chunk.chunk in
    let so_far : IsReadSoFar c.args.content.now (chunks ++ chunk ∷ []) c.take_chunk.new.rest = reads_on c.args.content.now chunks c.loop-rest.rest chunk c.take_chunk.new.rest c.loop-rest.invariant.so_far c.in_ok-chunk.ensures in
    let long : 2 ^ 32 ≤ serialized_length (lengths_of (chunks ++ chunk ∷ [])) = omega (arith, serialized-push chunks chunk, c.loop-rest.invariant.total, c.len.ensures.value, c.if-serialized_length.true) in
    too_long c.args.content.now (chunks ++ chunk ∷ []) others tail c.take_chunk.new.rest so_far long

pub returns-then-is_empty : goal.returns-then-is_empty
returns-then-is_empty c = λ others tail.
    let ends : at_chunks_end c.loop-rest.rest ≡ true = ap at_chunks_end (sym c.as_slice.ensures) ∙ cc in
    let none : eqb (length c.loop-rest.chunks.items) 0 ≡ true = cc in
    is_empty c.args.content.now c.loop-rest.chunks.items others tail c.loop-rest.rest c.loop-rest.invariant.so_far ends (ap length (none_left c.loop-rest.chunks.items none))

pub returns : goal.returns
returns c =
    let ends : at_chunks_end c.loop-rest.rest ≡ true = ap at_chunks_end (sym c.as_slice.ensures) ∙ cc in
    let some : eqb (length c.loop-rest.chunks.items) 0 ≡ false = cc in
    let short : serialized_length (lengths_of c.loop-rest.chunks.items) < 2 ^ 32 = omega (arith, c.loop-rest.invariant.total, c.loop-rest.invariant.short) in
    record {
      chunks = begins_with c.args.content.now c.loop-rest.chunks.items c.loop-rest.rest c.loop-rest.invariant.so_far ends (some_left c.loop-rest.chunks.items some) short;
      hashes = c.loop-rest.invariant.hashes;
      lengths = c.loop-rest.invariant.lengths;
    }
