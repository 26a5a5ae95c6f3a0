use Rattle.std.proofs.Common.{◌≡◌, ◌≤◌, ◌^◌, ◌+◌, eqb, false, inl, inr, length, List, ℕ}
use Rattle.std.proofs.lemmas.Result.{err_from_is_err_and}
use Rattle.std.proofs.lemmas.Bool.{cases_lt}
use denote.Ref.{Bor}
use Rattle.xet_xorb.specs.Steps.{HasChunk}
use Rattle.xet_xorb.proofs.ChunkText.{some_left}
use Rattle.xet_xorb.proofs.Joining.{stops_by, too_long, joins_on}
use Rattle.xet_xorb.proofs.deserialize.join_chunks.Goals as goal

pub returns-in_err-chunk : goal.returns-in_err-chunk
returns-in_err-chunk c =
    let p = err_from_is_err_and c.from_residual-in_err-chunk.result c.from_residual-in_err-chunk.ensures.1 in
    let test : eqb (length c.loop-rest.rest.now) 0 ≡ false = cc in
    rw (p.1, p.2) (stops_by {X = Bor (List ℕ) × Bor (List ℕ)} (λ x. x.0.now) (λ x. x.1.now) c.in_err-chunk.field-0.0 c.args.content.now c.loop-rest.all.items c.loop-rest.offsets.items c.loop-rest.rest.now c.loop-rest.end (some_left c.loop-rest.rest.now test) c.loop-rest.invariant c.in_err-chunk.ensures.value)

pub returns-in-None : goal.returns-in-None
returns-in-None c = λ others.
    let chunk : HasChunk c.loop-rest.rest.now c.in_ok-chunk.chunk.now c.in_ok-chunk.after.now = c.in_ok-chunk.ensures.value in
    let long : 2 ^ 32 ≤ c.loop-rest.end + length c.in_ok-chunk.chunk.now = elim (cases_lt (c.loop-rest.end + length c.in_ok-chunk.chunk.now) (2 ^ 32)) [ inl lt ↦ absurd (c.in-None.ensures lt) | inr le ↦ le ] in
    too_long c.args.content.now c.loop-rest.all.items c.loop-rest.offsets.items c.loop-rest.rest.now c.loop-rest.end c.in_ok-chunk.chunk.now c.in_ok-chunk.after.now others c.loop-rest.invariant chunk long

pub loop-rest-preserved : goal.loop-rest-preserved
loop-rest-preserved c =
    let chunk : HasChunk c.loop-rest.rest.now c.in_ok-chunk.chunk.now c.in_ok-chunk.after.now = c.in_ok-chunk.ensures.value in
    let end : c.in-Some.end ≡ c.loop-rest.end + length c.in_ok-chunk.chunk.now = c.in-Some.ensures.1 in
    let on = joins_on c.args.content.now c.loop-rest.all.items c.loop-rest.offsets.items c.loop-rest.rest.now c.loop-rest.end c.in_ok-chunk.chunk.now c.in_ok-chunk.after.now c.loop-rest.invariant chunk c.in-Some.ensures.0 in
    rw (c.in_ok-extend_from_slice.ensures.items, c.in_ok-push-2.ensures.items, end) on
