use Rattle.xet_wire.proofs.HeadersWritten.{headers_written}
use Rattle.xet_wire.proofs.multipart.write.push_headers.Goals as goal

pub returns-clause-text : goal.returns-clause-text
returns-clause-text c = rw (c.in_ok-push_decimal-3.ensures.text, c.in_ok-push-2.ensures.items, c.in_ok-push_decimal-2.ensures.text, c.in_ok-push.ensures.items, c.in_ok-push_decimal.ensures.text, c.in_ok-extend_from_slice.ensures.items) (headers_written c.args.body.now.items c.args.range c.args.total)
