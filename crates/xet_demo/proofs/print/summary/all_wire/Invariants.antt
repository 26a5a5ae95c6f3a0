use Rattle.std.proofs.Common.{◌≡◌, take, sum_by}
use Rattle.xet_demo.specs.Summaries.{capped, wire_of}
use Rattle.xet_demo.proofs.print.summary.all_wire.Given as goal

abbrev pub invariant-loop-reply : goal.invariant-loop-reply
invariant-loop-reply l = l.wire ≡ capped (sum_by wire_of (take l.reply-index l.replies))
