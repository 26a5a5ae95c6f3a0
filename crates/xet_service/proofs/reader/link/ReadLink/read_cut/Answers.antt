use Rattle.std.proofs.Common.{◌∙◌, List, sym, ap}
use Rattle.std.specs.Prelude.{⊤}
use Rattle.std.proofs.lemmas.Result.{err_from_is_err_and}
use Rattle.xet_types.specs.Faults.{refusal_of}
use Rattle.xet_types.specs.declared.record.XorbRangeDescriptor.{XorbRangeDescriptor}
use Rattle.xet_service.specs.ReadingParts.{are_sized, BringsCut}
use Rattle.xet_service.proofs.ReaderBodies.{refused}
use Rattle.xet_service.proofs.PartsLaws.{are_long, unsized, chunks_refused, fits_so, misfits_so}
use Rattle.xet_service.proofs.reader.link.ReadLink.read_cut.Goals as goal

pub returns-then-not-are_sized : goal.returns-then-not-are_sized
returns-then-not-are_sized c =
    let l = c.args.self.now in
    let parts = c.args.parts.now in
    refused (refusal_of c.unlike.result) (BringsCut l parts) ⊤ c.unlike.ensures
    (unsized l parts (ap (λ (rs : List XorbRangeDescriptor). are_sized rs parts) (sym c.as_slice-ranges.ensures) ∙ sym c.are_sized.ensures ∙ c.if-not-are_sized.true)) tt

pub returns-in_err-got : goal.returns-in_err-got
returns-in_err-got c =
    let l = c.args.self.now in
    let parts = c.args.parts.now in
    let sized = are_long l.ranges parts (ap (λ (rs : List XorbRangeDescriptor). are_sized rs parts) (sym c.as_slice-ranges.ensures) ∙ sym c.are_sized.ensures ∙ c.if-not-are_sized.false) in
    let p = err_from_is_err_and c.from_residual.result c.from_residual.ensures.1 in
    rw (p.1, p.2) (chunks_refused l parts c.in_err-got.field-0.0 sized c.in_err-got.ensures)

pub returns-then-not-fits : goal.returns-then-not-fits
returns-then-not-fits c =
    let l = c.args.self.now in
    let parts = c.args.parts.now in
    let sized = are_long l.ranges parts (ap (λ (rs : List XorbRangeDescriptor). are_sized rs parts) (sym c.as_slice-ranges.ensures) ∙ sym c.are_sized.ensures ∙ c.if-not-are_sized.false) in
    misfits_so l parts _ _ _ c.in_ok-got.got c.fits.result sized c.in_ok-got.ensures c.as_slice-ranges.ensures c.as_slice.ensures c.as_slice-2.ensures c.fits.ensures c.if-not-fits.true

pub returns : goal.returns
returns c =
    let l = c.args.self.now in
    let parts = c.args.parts.now in
    let sized = are_long l.ranges parts (ap (λ (rs : List XorbRangeDescriptor). are_sized rs parts) (sym c.as_slice-ranges.ensures) ∙ sym c.are_sized.ensures ∙ c.if-not-are_sized.false) in
    fits_so l parts _ _ _ c.in_ok-got.got c.fits.result sized c.in_ok-got.ensures c.as_slice-ranges.ensures c.as_slice.ensures c.as_slice-2.ensures c.fits.ensures c.if-not-fits.false
