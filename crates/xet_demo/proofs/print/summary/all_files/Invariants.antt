use Rattle.std.proofs.Common.{◌≡◌, take, sum_by}
use Rattle.xet_demo.specs.Summaries.{capped, stored_files}
use Rattle.xet_demo.proofs.print.summary.all_files.Given as goal

abbrev pub invariant-loop-reply : goal.invariant-loop-reply
invariant-loop-reply l = l.files ≡ capped (sum_by stored_files (take l.reply-index l.replies))
