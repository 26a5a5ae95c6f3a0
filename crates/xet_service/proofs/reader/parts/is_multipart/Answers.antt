use Rattle.std.proofs.Common.{◌∙◌, List, ℕ, sym, subst}
use Rattle.memchr.specs.Find.{FindsNeedle}
use Rattle.xet_service.specs.Reading.{multipart_type}
use Rattle.xet_service.proofs.ReaderBodies.{found}
use Rattle.xet_service.proofs.reader.parts.is_multipart.Goals as goal

pub returns : goal.returns
returns c =
    let hay = c.args.content_type.now in
    let finds : FindsNeedle hay multipart_type 0 c.find.result = subst (λ (bytes : List ℕ). FindsNeedle bytes multipart_type 0 c.find.result) c.as_bytes.ensures.value c.find.ensures in
    let is = found hay multipart_type c.find.result finds in
    (λ e. is.0 (sym c.is_some.ensures ∙ e), λ p. c.is_some.ensures ∙ is.1 p)
