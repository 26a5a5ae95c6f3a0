use Rattle.std.proofs.Common.{◌∙◌, ℕ, ◌+◌, List, Ok, sym, subst, take, arith}
use Rattle.std.proofs.lemmas.Result.{err_from_is_err_and}
use Rattle.xet_types.specs.declared.range.Range.{Range}
use Rattle.xet_types.specs.declared.range._F.{_F}
use Rattle.xet_service.specs.Bodies.{CutsStored}
use Rattle.xet_service.proofs.Fetched.{refused_at, cuts_at}
use Rattle.xet_service.proofs.body.fetch_pieces.Goals as goal

pub returns-in_err-bytes-clause-told : goal.returns-in_err-bytes-clause-told
returns-in_err-bytes-clause-told g c = λ m told.
    let p = err_from_is_err_and c.from_residual-in_err-bytes.result c.from_residual-in_err-bytes.ensures.1 in
    rw (p.1, p.2) (refused_at m c.args.hash.now c.args.ranges.now c.loop-range.range-index _ c.in_err-bytes.field-0.0 c.loop-range-test.true (c.in_err-bytes.ensures.told m (c.loop-range.invariant.stays ∙ told)))

pub loop-range-preserved : goal.loop-range-preserved
loop-range-preserved g c = record {
  told = λ m told.
      let i = c.loop-range.range-index in
      let more = cuts_at m c.args.hash.now c.args.ranges.now i _ c.loop-range.pieces.items c.in_ok-bytes.bytes c.loop-range-test.true (c.loop-range.invariant.told m told) (c.in_ok-bytes.ensures.told m (c.loop-range.invariant.stays ∙ told)) in
      subst (λ (ps : List (Range ℕ _F × List ℕ)). CutsStored m c.args.hash.now (take (i + 1) c.args.ranges.now) (Ok ps)) (sym c.in_ok-push.ensures.items) more;
  stays = c.fetch_piece.ensures.stays ∙ c.loop-range.invariant.stays;
  later = omega (arith, c.loop-range.invariant.later, c.fetch_piece.ensures.cause.later);
}
