use Rattle.xet_wire.proofs.LinkTexts.{any_first, any_second, any_refused, any_error}
use Rattle.xet_wire.proofs.link.parse_any_fetch_url.Goals as goal

pub returns-in-Some-clause-reads : goal.returns-in-Some-clause-reads
returns-in-Some-clause-reads c = λ hash at s. any_first c.args.url.now _ hash _ _ at c.in-Some.ensures s

pub returns-in-Ok-clause-reads : goal.returns-in-Ok-clause-reads
returns-in-Ok-clause-reads c = λ hash at s. any_second c.args.url.now c.in-Ok.link.0 hash c.in-Ok.link.1 at c.in-Ok.link.2 c.in_default.ensures c.in-Ok.ensures.reads s

pub returns-in-Err-clause-value : goal.returns-in-Err-clause-value
returns-in-Err-clause-value c = any_refused c.args.url.now c.in-Err.error c.in_default.ensures c.in-Err.ensures.value

pub returns-in-Err-clause-reads : goal.returns-in-Err-clause-reads
returns-in-Err-clause-reads c = λ hash at s. any_error c.args.url.now hash at c.in-Err.error c.in_default.ensures c.in-Err.ensures.reads s
