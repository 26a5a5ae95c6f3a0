use Rattle.std.proofs.Common.{◌≡◌, take, sum_by}
use Rattle.xet_demo.specs.Summaries.{capped, finished_bytes}
use Rattle.xet_demo.proofs.print.summary.all_bytes.Given as goal

abbrev pub invariant-loop-reply : goal.invariant-loop-reply
invariant-loop-reply l = l.bytes ≡ capped (sum_by finished_bytes (take l.reply-index l.replies))
