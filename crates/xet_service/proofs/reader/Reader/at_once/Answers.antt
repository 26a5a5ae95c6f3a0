use Rattle.std.proofs.Common.{◌∙◌, ap, sym, subst}
use Rattle.xet_service.specs.Gathering.{IsWindow}
use Rattle.xet_service.specs.Reading.{Reading}
use Rattle.xet_service.proofs.ReaderLinks.{reads_at_once, multipart_not}
use Rattle.xet_service.proofs.reader.Reader.at_once.Goals as goal

pub returns : goal.returns
returns c =
    let terms = sym (ap (λ (x : Reading). x.terms) c.self.view_is) ∙ sym c.as_slice.ensures.value ∙ c.in_ok-held.ensures in
    let window = subst (λ (x : Reading). IsWindow c.in-Some.total x.offset x.length c.window-skip.result) c.self.view_is c.window-skip.ensures in
    reads_at_once c.args.self.now c.args.link c.args.content_type.now c.args.body.now c.in_ok-held.held.now c.in_ok-wanted.wanted.now c.in-Some.chunks c.in-Some.total c.window-skip.result.0 c.window-skip.result.1 c.from_chunks.result
    terms (search) (sym c.in_ok-wanted.ensures) (multipart_not _ _ c.is_multipart.ensures c.if-is_multipart.false) c.in-Some.ensures window c.from_chunks.ensures
