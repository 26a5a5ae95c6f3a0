use Rattle.std.proofs.Common.{rules, arith}
use Rattle.xet_wire.specs.Links.{link_text}
use Rattle.xet_wire.proofs.LinkTexts.{first_written}
use Rattle.xet_wire.proofs.link.generate_fetch_url.Goals as goal

pub returns-clause-text : goal.returns-clause-text
unfolding link_text
returns-clause-text c = search rules

pub returns-clause-reads_back : goal.returns-clause-reads_back
returns-clause-reads_back c =
    rw (returns-clause-text c) (first_written c.args.hash.now c.args.byte_range.now.start c.args.byte_range.now.end c.args.at (rw (← c.in_ok-url.ensures.text) c.in_ok-url.ensures.reads_back) (omega arith) (omega arith) (omega arith))
