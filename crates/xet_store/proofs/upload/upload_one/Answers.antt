use Rattle.std.proofs.Common.{◌≡◌, sym}
use Rattle.std.proofs.lemmas.Result.{err_from_is_err_and}
use Rattle.xet_store.specs.Commands.{UploadsXorb}
use Rattle.xet_store.proofs.Uploading.{spelled, one_stored, one_stays}
use Rattle.xet_store.proofs.upload.upload_one.Goals as goal

pub returns-in_err-_length-clause-told : goal.returns-in_err-_length-clause-told
returns-in_err-_length-clause-told g c = λ m told.
    let u = c.in_ok-upload.upload in
    let text = spelled c.args.xorb.now u.serialized_data c.upload.ensures.formed c.in_ok-upload.ensures.data in
    let p = err_from_is_err_and c.from_residual-in_err-_length.result c.from_residual-in_err-_length.ensures.1 in
    rw p.1 (one_stays (UploadsXorb m u.hash u.serialized_data) m c.in_err-_length.field-0.0 (g.C.Client.told c.upload_xorb.new.self)
    (c.in_err-_length.ensures.accepts c.args.xorb.now text (sym c.in_ok-upload.ensures.hash)) (c.in_err-_length.ensures.told m told))

pub returns-clause-told : goal.returns-clause-told
returns-clause-told g c = λ m told.
    let u = c.in_ok-upload.upload in
    let text = spelled c.args.xorb.now u.serialized_data c.upload.ensures.formed c.in_ok-upload.ensures.data in
    one_stored m u.hash u.serialized_data c.args.xorb.now c.in_ok-_length._length (g.C.Client.told c.upload_xorb.new.self) c.in_ok-upload.ensures.hash text (c.in_ok-_length.ensures.told m told)
