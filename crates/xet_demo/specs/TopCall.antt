-- How a call of the program ends.
use Rattle.std.specs.Prelude.{◌≡◌, ℕ, ◌+◌, ◌<◌, ◌≤◌, List, [], ◌++◌, length, take, Option, Some, None, Result, Ok, Err}
use Rattle.std.specs.Io.KnownBytes.{Consumes, IsAtEnd, Appends}
use Rattle.std.specs.Global.{Vec}
use Rattle.xet_types.specs.Faults.{Rose}
use Rattle.xet_service.specs.declared.step.Step.{Step}
use Rattle.xet_service.specs.declared.reply.Reply.{Reply}
use Rattle.std.specs.List.{AllByRecursion}
use Rattle.xet_plan.specs.FileBytes.{Content}
use Rattle.xet_service.specs.World.{start}
use Rattle.xet_service.specs.Runs.{World, world, Event}
use Rattle.xet_service.specs.Runs as runs
use Rattle.xet_service.specs.Validity.{IsAgreed, IsQuiet, ReadsSucceed}
use Rattle.xet_service.specs.Headline.{Keeps, Finishes}
use Rattle.xet_service.specs.Readable.{ReadableServe}
use Rattle.xet_demo.specs.Script.{lines_of, AreStepsOf, IsFirstBad}
use Rattle.xet_demo.specs.Pages.{WritesFront}
use Rattle.xet_demo.specs.Printed.{replies_text}
use Rattle.xet_demo.specs.Summaries.{summary_text}
use Rattle.xet_demo.specs.Making.{made_steps}
use Rattle.xet_demo.specs.declared.words.Call.{Call}
use Rattle.xet_demo.specs.declared.words.Call.TheVariants.{Script, Make}
use Rattle.xet_demo.specs.declared.run.Status.{Status}
use Rattle.xet_demo.specs.declared.run.Status.TheVariants.{Done, Usage, BadLine, ReadFault, WriteFault, TooLong, OutOfMemory}

-- the exit status of the process
abbrev pub exit_of : Status → ℕ
exit_of Done = 0
exit_of Usage = 2
exit_of (BadLine n) = 3
exit_of ReadFault = 4
exit_of WriteFault = 5
exit_of TooLong = 6
exit_of OutOfMemory = 9

-- how many bytes a script may have, and how many are read at a time
abbrev pub limit : ℕ
limit = 67108864

abbrev pub piece : ℕ
piece = 65536

-- before the first plan no read has bytes
abbrev pub no_bytes : ℕ → List ℕ
no_bytes n = []

-- The replies are those of a run of the steps over the empty store in memory, which keeps the headline. One premise is left, of the first
-- and the fifth sentence: no two chunk lists that are met share a name.
pub record Answered (steps : List Step) (replies : List Reply) : Type 0 where
  pub events : List Event
  pub end : World
  pub run : runs.IsRun (world start 0 no_bytes) steps replies events end
  -- links exactly the met chunks; refusals change nothing and have their cause; what is left is left
  pub keeps : AllByRecursion Keeps events
  pub finishes : (m : Content) → IsAgreed m events → AllByRecursion Finishes events
  pub succeeds : (m : Content) → IsAgreed m events → ReadsSucceed events
  -- what follows a check of readable files that holds
  pub readable : ReadableServe events
  -- the outside never fails
  pub quiet : AllByRecursion IsQuiet events

-- These bytes were read, they are all that the source had and no more than the limit, and no call failed.
pub record WasRead (old new : Option (List ℕ)) (before now : ℕ) (script : List ℕ) : Type 0 where
  pub consumed : Consumes old new script
  pub ended : IsAtEnd new
  pub short : length script ≤ limit
  pub faults : now ≡ before

-- No more than the limit was read when a call failed.
pub record FailsToRead (old new : Option (List ℕ)) (before now : ℕ) : Type 0 where
  pub bytes : List ℕ
  pub consumed : Consumes old new bytes
  pub short : length bytes ≤ limit
  pub rose : Rose before now

-- More than the limit was read, by no more than one piece, and no call failed.
pub record ReadsTooMuch (old new : Option (List ℕ)) (before now : ℕ) : Type 0 where
  pub bytes : List ℕ
  pub consumed : Consumes old new bytes
  pub long : limit < length bytes
  pub no_further : length bytes ≤ limit + piece
  pub faults : now ≡ before

-- Some bytes were read, more than the limit by no more than one piece, and no call failed.
pub record ReadsSome (old new : Option (List ℕ)) (before now : ℕ) : Type 0 where
  pub bytes : List ℕ
  pub consumed : Consumes old new bytes
  pub no_further : length bytes ≤ limit + piece
  pub faults : now ≡ before

-- So many bytes were read so far, these, no more than the limit, and no call failed.
pub record HasRead (old new : Option (List ℕ)) (before now : ℕ) (bytes : List ℕ) (count : ℕ) : Type 0 where
  pub consumed : Consumes old new bytes
  pub counted : length bytes ≡ count
  pub short : count ≤ limit
  pub faults : now ≡ before

-- The source failed, or gave too much.
abbrev pub CannotRead : Option (List ℕ) → Option (List ℕ) → ℕ → ℕ → Status → Type 0
CannotRead old new before now ReadFault = FailsToRead old new before now
CannotRead old new before now TooLong = ReadsTooMuch old new before now
CannotRead old new before now OutOfMemory = ⊥
CannotRead old new before now Done = ⊥
CannotRead old new before now Usage = ⊥
CannotRead old new before now (BadLine n) = ⊥
CannotRead old new before now WriteFault = ⊥

-- After these bytes so many more were read, which are in the buffer, or there is a cause. None are read at the end alone.
abbrev pub ReadsOn : Option (List ℕ) → Option (List ℕ) → ℕ → ℕ → List ℕ → ℕ → List ℕ → Result ℕ Status → Type 0
ReadsOn old new before now bytes length buffer (Ok count) = HasRead old new before now (bytes ++ take count buffer) (length + count) × (count ≡ 0 → IsAtEnd new)
ReadsOn old new before now bytes length buffer (Err status) = CannotRead old new before now status

-- A script that begins with these bytes was read.
pub record IsReadPast (old new : Option (List ℕ)) (before now : ℕ) (bytes : List ℕ) : Type 0 where
  pub more : List ℕ
  pub read : WasRead old new before now (bytes ++ more)

-- After these bytes the script was read to its end, or there is a cause.
abbrev pub ReadsPast : Option (List ℕ) → Option (List ℕ) → ℕ → ℕ → List ℕ → Result (Unit {0}) Status → Type 0
ReadsPast old new before now bytes (Ok done) = IsReadPast old new before now bytes
ReadsPast old new before now bytes (Err status) = CannotRead old new before now status

-- A script was read, and these are its steps.
pub record ReadsStepsOf (old new : Option (List ℕ)) (before now : ℕ) (steps : List Step) : Type 0 where
  pub script : List ℕ
  pub read : WasRead old new before now script
  pub parsed : AreStepsOf (lines_of script) steps

-- A script was read, and this is its first line outside the grammar.
pub record ReadsBadLine (old new : Option (List ℕ)) (before now : ℕ) (n : ℕ) : Type 0 where
  pub script : List ℕ
  pub read : WasRead old new before now script
  pub bad : IsFirstBad (lines_of script) n

-- The steps of the whole script are answered, or there is a cause.
abbrev pub ReadsSteps : Option (List ℕ) → Option (List ℕ) → ℕ → ℕ → Result (Vec Step) Status → Type 0
ReadsSteps old new before now (Ok v) = ReadsStepsOf old new before now v.items
ReadsSteps old new before now (Err (BadLine n)) = ReadsBadLine old new before now n
ReadsSteps old new before now (Err ReadFault) = FailsToRead old new before now
ReadsSteps old new before now (Err TooLong) = ReadsTooMuch old new before now
ReadsSteps old new before now (Err OutOfMemory) = ReadsSome old new before now
ReadsSteps old new before now (Err Done) = ⊥
ReadsSteps old new before now (Err Usage) = ⊥
ReadsSteps old new before now (Err WriteFault) = ⊥

-- The text was written, or a front of it and the sink's count rose, or nothing.
abbrev pub WritesText : Option (List ℕ) → Option (List ℕ) → ℕ → ℕ → List ℕ → Status → Type 0
WritesText old new before now text Done = Appends old new text × (now ≡ before)
WritesText old new before now text WriteFault = WritesFront old new text × Rose before now
WritesText old new before now text OutOfMemory = (new ≡ old) × (now ≡ before)
WritesText old new before now text Usage = ⊥
WritesText old new before now text (BadLine n) = ⊥
WritesText old new before now text ReadFault = ⊥
WritesText old new before now text TooLong = ⊥

-- the bytes that the source has left and that the sink has taken, where they are told, and how often each failed
pub record Sides : Type 0 where
  pub left : Option (List ℕ)
  pub source_faults : ℕ
  pub taken : Option (List ℕ)
  pub sink_faults : ℕ

abbrev pub sides : Option (List ℕ) → ℕ → Option (List ℕ) → ℕ → Sides
sides left source_faults taken sink_faults = record { left = left; source_faults = source_faults; taken = taken; sink_faults = sink_faults }

-- nothing was written, and no call of the sink failed
pub record WritesNothing (old new : Sides) : Type 0 where
  pub taken : new.taken ≡ old.taken
  pub faults : new.sink_faults ≡ old.sink_faults

-- The script was read, its steps were run, and these are their replies.
pub record IsRun (answered : List Step → List Reply → Type 0) (old new : Sides) (replies : List Reply) : Type 0 where
  pub steps : List Step
  pub read : ReadsStepsOf old.left new.left old.source_faults new.source_faults steps
  pub replies_are : answered steps replies

-- The made steps were run, and these are their replies. The script was not read.
pub record IsMadeRun (answered : List Step → List Reply → Type 0) (count : ℕ) (old new : Sides) (replies : List Reply) : Type 0 where
  pub replies_are : answered (made_steps count) replies
  pub unread : new.left ≡ old.left
  pub source_faults : new.source_faults ≡ old.source_faults

-- The text of replies of the run was written, and nothing else.
pub record EndsDone (ran : List Reply → Type 0) (text : List Reply → List ℕ) (old new : Sides) : Type 0 where
  pub replies : List Reply
  pub ran_so : ran replies
  pub written : Appends old.taken new.taken (text replies)
  pub faults : new.sink_faults ≡ old.sink_faults

-- The sink failed when it had a front of the text.
pub record EndsUnwritten (ran : List Reply → Type 0) (text : List Reply → List ℕ) (old new : Sides) : Type 0 where
  pub replies : List Reply
  pub ran_so : ran replies
  pub written : WritesFront old.taken new.taken (text replies)
  pub rose : Rose old.sink_faults new.sink_faults

-- How the run of a script ends, by its status: each has its cause.
abbrev pub EndsSo : (List Step → List Reply → Type 0) → Sides → Sides → Status → Type 0
EndsSo answered old new Done = EndsDone (IsRun answered old new) replies_text old new
EndsSo answered old new Usage = new ≡ old
EndsSo answered old new (BadLine n) = ReadsBadLine old.left new.left old.source_faults new.source_faults n × WritesNothing old new
EndsSo answered old new ReadFault = FailsToRead old.left new.left old.source_faults new.source_faults × WritesNothing old new
EndsSo answered old new WriteFault = EndsUnwritten (IsRun answered old new) replies_text old new
EndsSo answered old new TooLong = ReadsTooMuch old.left new.left old.source_faults new.source_faults × WritesNothing old new
EndsSo answered old new OutOfMemory = ReadsSome old.left new.left old.source_faults new.source_faults × WritesNothing old new

-- How a run of so many made files ends. What is written is the summary.
abbrev pub EndsMade : (List Step → List Reply → Type 0) → ℕ → Sides → Sides → Status → Type 0
EndsMade answered count old new Done = EndsDone (IsMadeRun answered count old new) summary_text old new
EndsMade answered count old new WriteFault = EndsUnwritten (IsMadeRun answered count old new) summary_text old new
EndsMade answered count old new OutOfMemory = new ≡ old
EndsMade answered count old new Usage = ⊥
EndsMade answered count old new (BadLine n) = ⊥
EndsMade answered count old new ReadFault = ⊥
EndsMade answered count old new TooLong = ⊥

-- How a call ends, by what its words ask.
abbrev pub EndsAs : (List Step → List Reply → Type 0) → Option Call → Sides → Sides → Status → Type 0
EndsAs answered (Some Script) old new status = EndsSo answered old new status
EndsAs answered (Some (Make count)) old new status = EndsMade answered count old new status
EndsAs answered None old new status = new ≡ old
