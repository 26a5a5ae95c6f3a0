use Rattle.std.proofs.Common.{List, ℕ, ◌∷◌, [], Err, subst, refl, inl, inr}
use Rattle.std.specs.Prelude.{⊤}
use Rattle.std.proofs.lemmas.Result.{err_from_is_err_and}
use Rattle.xet_types.specs.declared.record.XorbRangeDescriptor.{XorbRangeDescriptor}
use Rattle.xet_store.specs.Answered.{Answered}
use Rattle.xet_service.specs.Reading.{IsReadInParts, IsCutInto}
use Rattle.xet_service.specs.ReadingParts.{BringsCut, CutsApart}
use Rattle.xet_service.proofs.PartsLaws.{split_refused, cut_brings}
use Rattle.xet_service.proofs.reader.link.ReadLink.read.Goals as goal

pub returns-in_err-parts : goal.returns-in_err-parts
returns-in_err-parts c =
    let l = c.args.self.now in
    let text = c.args.content_type.now in
    let body = c.args.body.now in
    let p = err_from_is_err_and c.from_residual.result c.from_residual.ensures.1 in
    let h = subst (λ (rs : List XorbRangeDescriptor). Answered {T = List (List ℕ)} (Err c.in_err-parts.field-0.0) (CutsApart rs text body) ⊤) c.as_slice.ensures c.in_err-parts.ensures in
    rw (p.1, p.2) (split_refused l text body c.in_err-parts.field-0.0 (c.is_multipart.ensures.0 c.if-is_multipart.true) h)

pub returns-then-is_multipart : goal.returns-then-is_multipart
returns-then-is_multipart c =
    let l = c.args.self.now in
    let text = c.args.content_type.now in
    let body = c.args.body.now in
    let apart = subst (λ (rs : List XorbRangeDescriptor). IsReadInParts rs text body c.in_ok-parts.parts) c.as_slice.ensures c.in_ok-parts.ensures in
    let cut : IsCutInto l.ranges text body c.in_ok-parts.parts = inl (c.is_multipart.ensures.0 c.if-is_multipart.true, apart) in
    cut_brings l text body c.in_ok-parts.parts c.read_cut.result cut (subst (λ (ps : List (List ℕ)). Answered c.read_cut.result (BringsCut l ps) ⊤) c.as_slice-then-is_multipart.ensures c.read_cut.ensures)

pub returns : goal.returns
returns c =
    let l = c.args.self.now in
    let text = c.args.content_type.now in
    let body = c.args.body.now in
    let cut : IsCutInto l.ranges text body (body ∷ []) = inr (λ is. (let e = c.is_multipart.ensures.1 is in absurd cc), refl) in
    cut_brings l text body (body ∷ []) c.read_cut-2.result cut (subst (λ (ps : List (List ℕ)). Answered c.read_cut-2.result (BringsCut l ps) ⊤) c.from_ref.ensures.value c.read_cut-2.ensures)
