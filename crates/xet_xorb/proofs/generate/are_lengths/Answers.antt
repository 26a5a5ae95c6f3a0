use Rattle.std.proofs.Common.{◌≤◌, ◌<◌, ◌^◌, ◌+◌, ℕ, take, refl, arith}
use Rattle.std.proofs.lemmas.Bool.{false≢true}
use Rattle.std.proofs.lemmas.List.Elements.{All-more}
use Rattle.xet_xorb.specs.Lengths.{IsChunkLength, serialized_length}
use Rattle.xet_xorb.proofs.WellFormed.{false_iff}
use Rattle.xet_xorb.proofs.Limits.{sizes, one_more, too_big, no_length, are_all, empty_iff}
use Rattle.xet_xorb.proofs.generate.are_lengths.Goals as goal

pub returns-then-not-is_chunk_length : goal.returns-then-not-is_chunk_length
returns-then-not-is_chunk_length c =
    let none : ℕ × ℕ = (0, 0) in
    false_iff (no_length c.args.chunk_specs.now c.loop-size.size-index none c.loop-size-test.true (λ is. false≢true (c.if-not-is_chunk_length.ensures.1 is)))

pub returns-then-serialized_length : goal.returns-then-serialized_length
returns-then-serialized_length c =
    let none : ℕ × ℕ = (0, 0) in
    let more = one_more c.args.chunk_specs.now c.loop-size.size-index none c.loop-size-test.true in
    let long : 2 ^ 32 ≤ serialized_length (sizes (take (c.loop-size.size-index + 1) c.args.chunk_specs.now)) = omega (arith, more, c.loop-size.invariant.total, c.from.ensures, c.if-serialized_length.true) in
    false_iff (too_big c.args.chunk_specs.now (c.loop-size.size-index + 1) long)

pub loop-size-preserved : goal.loop-size-preserved
loop-size-preserved c =
    let none : ℕ × ℕ = (0, 0) in
    let more = one_more c.args.chunk_specs.now c.loop-size.size-index none c.loop-size-test.true in
    record {
      each = All-more (λ (s : ℕ × ℕ). IsChunkLength s.1) c.args.chunk_specs.now c.loop-size.size-index none c.loop-size-test.true c.loop-size.invariant.each (c.if-not-is_chunk_length.ensures.0 refl);
      total = omega (arith, more, c.loop-size.invariant.total, c.from.ensures);
      short = c.if-serialized_length.false;
    }

pub returns : goal.returns
returns c =
    let short : serialized_length (sizes (take c.loop-size.size-index c.args.chunk_specs.now)) < 2 ^ 32 = omega (arith, c.loop-size.invariant.total, c.loop-size.invariant.short) in
    empty_iff c.args.chunk_specs.now c.is_empty.result c.is_empty.ensures (are_all c.args.chunk_specs.now c.loop-size.size-index c.loop-size-test.false c.loop-size.invariant.each short)
