use Rattle.std.proofs.Common.{◌≡◌, take, sum_by}
use Rattle.xet_demo.specs.Summaries.{capped, finished_reads}
use Rattle.xet_demo.proofs.print.summary.all_finished.Given as goal

abbrev pub invariant-loop-reply : goal.invariant-loop-reply
invariant-loop-reply l = l.finished ≡ capped (sum_by finished_reads (take l.reply-index l.replies))
