-- What a large run prints of its replies.
use Rattle.std.specs.Prelude.{ℕ, ◌-◌, ◌^◌, List, [], ◌∷◌, ◌++◌, length, min, sum_by, codes}
use Rattle.std.specs.Fmt.{decimal}
use Rattle.xet_service.specs.declared.reply.Reply.{Reply}
use Rattle.xet_service.specs.declared.reply.Reply.TheVariants.{Fetched, Finished, Lazy}
use Rattle.xet_demo.specs.declared.print.Report.{Report}
use Rattle.xet_demo.specs.declared.print.Report.TheVariants.{Lines, Summary}
use Rattle.xet_demo.specs.Printed.{joined, replies_text}

-- how many generated files were stored
abbrev pub stored_files : Reply → ℕ
stored_files (Lazy file size) = 1
stored_files reply = 0

-- how many reads have ended
abbrev pub finished_reads : Reply → ℕ
finished_reads (Finished read bytes wire cache) = 1
finished_reads reply = 0

-- how many bytes a read has given that has ended
abbrev pub finished_bytes : Reply → ℕ
finished_bytes (Finished read bytes wire cache) = length bytes
finished_bytes reply = 0

-- the length of the body that a fetch brought
abbrev pub wire_of : Reply → ℕ
wire_of (Fetched read link left wire cache) = wire
wire_of (Finished read bytes wire cache) = wire
wire_of reply = 0

-- a sum stands still at 2 ^ 64 - 1
abbrev pub capped : ℕ → ℕ
capped n = min n (2 ^ 64 - 1)

unfoldable pub count_line : List ℕ → ℕ → List ℕ
count_line word n = joined (word ∷ decimal n ∷ codes "\n" ∷ [])

-- how many files were stored and how many reads have ended, the bytes of these reads, and the lengths of all bodies
abbrev pub summary_text : List Reply → List ℕ
summary_text replies =
    count_line (codes "files ") (capped (sum_by stored_files replies))
    ++ count_line (codes "finished ") (capped (sum_by finished_reads replies))
    ++ count_line (codes "bytes ") (capped (sum_by finished_bytes replies))
    ++ count_line (codes "wire ") (capped (sum_by wire_of replies))

-- what is printed of replies
abbrev pub report_text : Report → List Reply → List ℕ
report_text Lines replies = replies_text replies
report_text Summary replies = summary_text replies
