use Rattle.std.proofs.Common.{sym, subst}
use Rattle.std.proofs.lemmas.List.Elements.{All-more}
use Rattle.xet_types.specs.Ranges.{http_range_of}
use Rattle.xet_wire.specs.Texts.{Fits64}
use Rattle.xet_wire.proofs.MultipartWritten.{body_more}
use Rattle.xet_wire.proofs.multipart.write.body_of.Goals as goal

pub loop-part-preserved : goal.loop-part-preserved
loop-part-preserved c = (
  body_more c.args.boundary.now c.args.total c.args.parts.now c.loop-part.part-index c.part-item.result c.loop-part.body.items c.push_part.new.body.items c.loop-part-test.true (sym c.part-item.is) c.loop-part.invariant.0 c.in_ok-push_part.ensures.text,
  All-more (λ p. Fits64 (http_range_of p.0)) c.args.parts.now c.loop-part.part-index c.part-item.result c.loop-part-test.true c.loop-part.invariant.1 (subst (λ p. Fits64 (http_range_of p.0)) c.part-item.is c.in_ok-push_part.ensures.fit),
)
