-- What the lines of a script mean.
use Rattle.std.specs.Prelude.{◌≡◌, ℕ, Bool, true, false, ◌==◌, List, [], ◌∷◌, ◌++◌, length, slice_index, Option, Some, None, Result, Ok, Err, if◌then◌else◌, codes}
use Rattle.std.specs.List.{list_all}
use Rattle.std.specs.Char.{is_ascii}
use Rattle.xet_service.specs.declared.step.PlanVersion.{PlanVersion}
use Rattle.xet_service.specs.declared.step.PlanVersion.TheVariants.{V1, V2}
use Rattle.xet_service.specs.declared.step.Act.{Act}
use Rattle.xet_service.specs.declared.step.Act.TheVariants.{UploadXorb, UploadShard, Plan, Fetch, Abandon, HideFile, DeleteShard, DeleteXorb, SetExpiration, SetMaxRanges, SetDedupExpiration, DedupQuery, FileSize, FileData, RemoveDedup, ListXorbs, ListShards, ListFiles, CheckIntegrity, CheckReachable, CheckReadable, InsertRandomXorb, InsertLazyFile, Batch}
use Rattle.xet_service.specs.declared.step.Step.{Step}
use Rattle.xet_types.specs.declared.error.OutOfMemory.{OutOfMemory}
use Rattle.xet_demo.specs.Words.{◌>>=◌, parts_of, is_word, number_of, small_number_of, hash_of, octets_of, range_of}
use Rattle.xet_demo.specs.Terms.{terms_of}

-- `xorb HASH BYTES`
abbrev pub xorb_act : List ℕ → List ℕ → Option Act
xorb_act name content = do
  hash ← hash_of name
  bytes ← octets_of content
  Some (UploadXorb hash bytes)

-- `shard BYTES`
abbrev pub shard_act : List ℕ → Option Act
shard_act content = do
  bytes ← octets_of content
  Some (UploadShard bytes)

-- `plan1 FILE RANGE`, `plan2 FILE RANGE`
abbrev pub plan_act : PlanVersion → List ℕ → List ℕ → Option Act
plan_act version file bytes = do
  hash ← hash_of file
  range ← range_of bytes
  Some (Plan version hash range)

-- `fetch READ LINK`
abbrev pub fetch_act : List ℕ → List ℕ → Option Act
fetch_act read link = do
  r ← number_of read
  l ← small_number_of link
  Some (Fetch r l)

-- `abandon READ`
abbrev pub abandon_act : List ℕ → Option Act
abandon_act read = do
  r ← number_of read
  Some (Abandon r)

-- `hide FILE`
abbrev pub hide_act : List ℕ → Option Act
hide_act file = do
  hash ← hash_of file
  Some (HideFile hash)

-- `delete-shard HASH`
abbrev pub delete_shard_act : List ℕ → Option Act
delete_shard_act name = do
  hash ← hash_of name
  Some (DeleteShard hash)

-- `delete-xorb HASH`
abbrev pub delete_xorb_act : List ℕ → Option Act
delete_xorb_act name = do
  hash ← hash_of name
  Some (DeleteXorb hash)

-- `expire MS`
abbrev pub expire_act : List ℕ → Option Act
expire_act millis = do
  ms ← number_of millis
  Some (SetExpiration ms)

-- `max N`
abbrev pub max_act : List ℕ → Option Act
max_act max = do
  n ← number_of max
  Some (SetMaxRanges n)

-- `dedup-expire MS` or `dedup-expire never`
abbrev pub dedup_expire_act : List ℕ → Option Act
dedup_expire_act millis =
    if is_word millis (codes "never") then Some (SetDedupExpiration None)
    else do
      ms ← number_of millis
      Some (SetDedupExpiration (Some ms))

-- `dedup HASH`
abbrev pub dedup_act : List ℕ → Option Act
dedup_act chunk = do
  hash ← hash_of chunk
  Some (DedupQuery hash)

-- `drop-dedup HASH`
abbrev pub drop_dedup_act : List ℕ → Option Act
drop_dedup_act name = do
  hash ← hash_of name
  Some (RemoveDedup hash)

-- `size FILE`
abbrev pub size_act : List ℕ → Option Act
size_act file = do
  hash ← hash_of file
  Some (FileSize hash)

-- `data FILE RANGE`
abbrev pub data_act : List ℕ → List ℕ → Option Act
data_act file bytes = do
  hash ← hash_of file
  range ← range_of bytes
  Some (FileData hash range)

-- `random SEED COUNT SIZE`
abbrev pub random_act : List ℕ → List ℕ → List ℕ → Option Act
random_act seed count size = do
  s ← number_of seed
  n ← small_number_of count
  bytes ← small_number_of size
  Some (InsertRandomXorb s n bytes)

-- `lazy SIZE` and any number of terms
abbrev pub lazy_act : List (List ℕ) → Option Act
lazy_act (size ∷ words) = do
  bytes ← number_of size
  terms ← terms_of words
  Some (InsertLazyFile terms bytes)
lazy_act [] = None

-- the hashes of words, if each is one
abbrev pub hashes_of : List (List ℕ) → Option (List (List ℕ))
hashes_of [] = Some []
hashes_of (word ∷ words) = do
  hash ← hash_of word
  hashes ← hashes_of words
  Some (hash ∷ hashes)

-- `batch FILE FILE ..`, with one file or more
abbrev pub batch_act : List (List ℕ) → Option Act
batch_act words = do
  files ← hashes_of words
  if length files == 0 then None else Some (Batch files)

-- a command on deduplication
abbrev pub dedup_word : List ℕ → List ℕ → Option Act
dedup_word command a =
    if is_word command (codes "dedup-expire") then dedup_expire_act a
    else if is_word command (codes "dedup") then dedup_act a
    else if is_word command (codes "drop-dedup") then drop_dedup_act a
    else None

-- a command whose one word is a number or a hash
abbrev pub short_word : List ℕ → List ℕ → Option Act
short_word command a =
    if is_word command (codes "abandon") then abandon_act a
    else if is_word command (codes "hide") then hide_act a
    else if is_word command (codes "delete-shard") then delete_shard_act a
    else if is_word command (codes "delete-xorb") then delete_xorb_act a
    else if is_word command (codes "expire") then expire_act a
    else if is_word command (codes "max") then max_act a
    else if is_word command (codes "size") then size_act a
    else dedup_word command a

abbrev pub one_word : List ℕ → List ℕ → Option Act
one_word command a = if is_word command (codes "shard") then shard_act a else short_word command a

abbrev pub two_words : List ℕ → List ℕ → List ℕ → Option Act
two_words command a b =
    if is_word command (codes "xorb") then xorb_act a b
    else if is_word command (codes "plan1") then plan_act V1 a b
    else if is_word command (codes "plan2") then plan_act V2 a b
    else if is_word command (codes "fetch") then fetch_act a b
    else if is_word command (codes "data") then data_act a b
    else None

-- a check
abbrev pub check_word : List ℕ → Option Act
check_word command =
    if is_word command (codes "integrity") then Some CheckIntegrity
    else if is_word command (codes "reachable") then Some CheckReachable
    else if is_word command (codes "readable") then Some CheckReadable
    else None

-- a command without words
abbrev pub no_words : List ℕ → Option Act
no_words command =
    if is_word command (codes "xorbs") then Some ListXorbs
    else if is_word command (codes "shards") then Some ListShards
    else if is_word command (codes "files") then Some ListFiles
    else check_word command

abbrev pub three_words : List ℕ → List ℕ → List ℕ → List ℕ → Option Act
three_words command a b c = if is_word command (codes "random") then random_act a b c else None

-- a command of few words, by their number
abbrev pub words_from : List ℕ → List (List ℕ) → Option Act
words_from command [] = no_words command
words_from command (a ∷ []) = one_word command a
words_from command (a ∷ b ∷ []) = two_words command a b
words_from command (a ∷ b ∷ c ∷ []) = three_words command a b c
words_from command others = None

-- a command by its words, of which there are any number
abbrev pub words_of : List ℕ → List (List ℕ) → Option Act
words_of command [] = no_words command
words_of command (word ∷ words) = if is_word command (codes "lazy") then lazy_act (word ∷ words) else words_from command (word ∷ words)

-- a command and its words, which may be any number of files
abbrev pub act_of : List (List ℕ) → Option Act
act_of (command ∷ words) = if is_word command (codes "batch") then batch_act words else words_of command words
act_of [] = None

-- What a line means: nothing, as an empty line or a comment; or a step; or it is outside the grammar.
pub data Line : Type 0 where
  Passed : Line
  Command : Step → Line
  Bad : Line

abbrev pub line_with : ℕ → Option Act → Line
line_with at (Some act) = Command (record { at = at; act = act })
line_with at None = Bad

abbrev pub line_at : Option ℕ → Option Act → Line
line_at (Some at) act = line_with at act
line_at None act = Bad

-- a moment, a command and its words
abbrev pub words_line : List (List ℕ) → Line
words_line (at ∷ command) = line_at (number_of at) (act_of command)
words_line [] = Bad

-- an empty line, a comment, or words that are separated by single spaces
abbrev pub ascii_line : List ℕ → Line
ascii_line text =
    if length text == 0 then Passed
    else if slice_index text 0 == 35 then Passed
    else words_line (parts_of 32 text)

-- What a line without its end means: every byte must be below 128, also in a comment.
abbrev pub line_of : List ℕ → Line
line_of text = if list_all is_ascii text then ascii_line text else Bad

abbrev pub steps_in : Line → List Step
steps_in (Command step) = step ∷ []
steps_in Passed = []
steps_in Bad = []

abbrev pub is_inside : Line → Bool
is_inside Bad = false
is_inside Passed = true
is_inside (Command step) = true

-- The step of the line is added, if it has one, and the answer is whether the line is inside the grammar. Where there is no memory, nothing is added.
abbrev pub Adds : Line → List Step → List Step → Result Bool OutOfMemory → Type 0
Adds line old new (Ok inside) = (inside ≡ is_inside line) × (new ≡ old ++ steps_in line)
Adds line old new (Err e) = new ≡ old
