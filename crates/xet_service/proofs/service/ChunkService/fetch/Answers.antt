use Rattle.std.proofs.Common.{◌∙◌, List, Ok, subst}
use Rattle.std.proofs.lemmas.Result.{err_from_is_err_and}
use Rattle.xet_types.specs.declared.record.XorbRangeDescriptor.{XorbRangeDescriptor}
use Rattle.xet_service.specs.Bodies.{SendsStored}
use Rattle.xet_service.specs.Steps.{asked_bytes}
use Rattle.xet_service.proofs.Doing.{leaves_same}
use Rattle.xet_service.proofs.Fetching.{fresh_is, asked_is, fetch_does, unsent_does}
use Rattle.xet_service.proofs.service.ChunkService.fetch.Goals as goal

pub returns-in_err-sent-clause-asked : goal.returns-in_err-sent-clause-asked
returns-in_err-sent-clause-asked g c = λ m told e.
    let s = c.args.self.now in
    let r = c.in-Some.open.now in
    asked_is m s.reads s.next c.args.at c.args.read c.args.link r c.in-Some-left_link.wanted.now c.in-Some.ensures c.in-Some-left_link.ensures
    (fresh_is c.args.at r.stamp c.fetch_term_url_expiration.result m.expiration c.is_expired.result (c.fetch_term_url_expiration.ensures.told m told) c.is_expired.ensures c.if-is_expired.false)

pub returns-in_err-sent-clause-told : goal.returns-in_err-sent-clause-told
returns-in_err-sent-clause-told g c = λ m told.
    let s = c.args.self.now in
    let r = c.in-Some.open.now in
    let l = c.in-Some-left_link.wanted.now in
    let asked = c.fetch_term_url_expiration.ensures.stays ∙ told in
    let p = err_from_is_err_and c.from_residual.result c.from_residual.ensures.1 in
    rw (p.1, p.2) (leaves_same m _ (g.K.Client.told c.fetch_ranges.new.store) (c.fetch_ranges.ensures.stays ∙ asked)
    (unsent_does m s.reads s.next c.args.at c.args.read c.args.link r l c.in-Some.ensures c.in-Some-left_link.ensures
    (fresh_is c.args.at r.stamp c.fetch_term_url_expiration.result m.expiration c.is_expired.result (c.fetch_term_url_expiration.ensures.told m told) c.is_expired.ensures c.if-is_expired.false)
    c.as_slice-ranges.result.now c.in_err-sent.field-0.0 c.as_slice-ranges.ensures (c.in_err-sent.ensures.told m asked)))

pub returns-clause-told : goal.returns-clause-told
returns-clause-told g c = λ m told.
    let s = c.args.self.now in
    let r = c.in-Some.open.now in
    let l = c.in-Some-left_link.wanted.now in
    let asked = c.fetch_term_url_expiration.ensures.stays ∙ told in
    let sent = subst (λ (rs : List XorbRangeDescriptor). SendsStored m l.hash (asked_bytes rs) (Ok c.in_ok-sent.sent)) c.as_slice-ranges.ensures (c.in_ok-sent.ensures.told m asked) in
    leaves_same m _ (g.K.Client.told c.fetch_ranges.new.store) (c.fetch_ranges.ensures.stays ∙ asked)
    (fetch_does m s.reads c.take.new.reads s.next c.args.at c.args.read c.args.link r l c.in_ok-sent.sent c.in-Some.ensures c.in-Some-left_link.ensures
    (fresh_is c.args.at r.stamp c.fetch_term_url_expiration.result m.expiration c.is_expired.result (c.fetch_term_url_expiration.ensures.told m told) c.is_expired.ensures c.if-is_expired.false)
    sent c.take.result c.take.ensures.outside c.take.ensures.takes)
