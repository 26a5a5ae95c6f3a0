use Rattle.std.proofs.Common.{rules}
use Rattle.xet_wire.specs.Headers.{header_text}
use Rattle.xet_wire.proofs.Written.{each_fits}
use Rattle.xet_wire.proofs.HeaderTexts.{header_means}
use Rattle.xet_wire.proofs.header.ranges_header.Goals as goal

pub returns-clause-text : goal.returns-clause-text
unfolding header_text
returns-clause-text c = search rules

pub returns-clause-means : goal.returns-clause-means
returns-clause-means c = rw (returns-clause-text c) (header_means c.args.ranges.now (each_fits c.args.ranges.now c.in_ok-push_ranges.ensures.fit))
