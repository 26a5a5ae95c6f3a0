-- What each act answers and leaves.
use Rattle.std.specs.Prelude.{◌≡◌, ℕ, zero, suc, ◌+◌, ◌==◌, Bool, true, false, List, [], ◌∷◌, map, length, Option, Some, None, Result, Ok, Err, if◌then◌else◌}
use Rattle.std.specs.Global.{Vec}
use Rattle.std.specs.FinMap.{get, insert, remove}
use Rattle.xet_types.specs.Ranges.{file_range_of}
use Rattle.xet_types.specs.Records.{SecondPlan, BatchPlan}
use Rattle.xet_types.specs.declared.error.ClientError.{ClientError}
use Rattle.xet_types.specs.declared.error.Refusal.{Refusal}
use Rattle.xet_types.specs.declared.error.Refusal.TheVariants.{InvalidArguments, PresignedUrlExpirationError, IOError}
use Rattle.xet_types.specs.declared.range.Range.{Range}
use Rattle.xet_types.specs.declared.range._F.{_F}
use Rattle.xet_types.specs.declared.record.XorbRangeDescriptor.{XorbRangeDescriptor}
use Rattle.xet_types.specs.Faults.{refusal_of}
use Rattle.xet_bytes.specs.Pairs.{TwoHashes}
use Rattle.xet_generated.specs.Contents.{FileModel}
use Rattle.xet_store.specs.StoreModel.{StoreModel}
use Rattle.xet_store.specs.Commands.{UploadsXorb, UploadsShard, Is, hide_file, delete_shard, delete_xorb, set_expiration, set_max_ranges, set_dedup_expiration, drop_dedup, InsertsSeeded, InsertsLazy}
use Rattle.xet_store.specs.Questions.{file_size, file_data, dedup_answer, xorb_hashes}
use Rattle.xet_store.specs.Responses.{RespondsBy}
use Rattle.xet_store.specs.Batches.{RespondsToAll}
use Rattle.xet_store.specs.TermData.{is_expired}
use Rattle.xet_store.specs.Lists.{shard_hashes, file_entries}
use Rattle.xet_store.specs.Checks.{checked, integrity, reachable, readable}
use Rattle.xet_service.specs.declared.step.Act.{Act}
use Rattle.xet_service.specs.declared.step.Act.TheVariants.{UploadXorb, UploadShard, Plan, Fetch, Abandon, HideFile, DeleteShard, DeleteXorb, SetExpiration, SetMaxRanges, FileSize, FileData, SetDedupExpiration, DedupQuery, RemoveDedup, ListXorbs, ListShards, ListFiles, CheckIntegrity, CheckReachable, CheckReadable, InsertRandomXorb, Batch, InsertLazyFile}
use Rattle.xet_service.specs.declared.step.PlanVersion.{PlanVersion}
use Rattle.xet_service.specs.declared.reply.CacheNote.{CacheNote}
use Rattle.xet_service.specs.declared.reply.Reply.{Reply}
use Rattle.xet_service.specs.declared.reply.Reply.TheVariants.{Uploaded, ShardTaken, NoPlan, Done, Planned, Fetched, Finished, NoShard, ShardBytes, Size, Data, Hashes, Files, Random, Lazy}
use Rattle.xet_service.specs.declared.reply.Reply.TheVariants as replies
use Rattle.xet_service.specs.declared.read.OpenRead.{OpenRead}
use Rattle.xet_service.specs.declared.reader.link.ReadLink.{ReadLink}
use Rattle.xet_service.specs.Links.{LinkModel, planned_links, batch_links, answer_of}
use Rattle.xet_service.specs.Bodies.{Body, type_text, SendsStored}
use Rattle.xet_service.specs.Reading.{Reading, left_link, count_left, Accepts, bytes_read}
use Rattle.xet_service.specs.ReadingPlans.{can_open, reading_of}
use Rattle.xet_service.specs.World.{State, Reads}

-- an answer, and the state after it
abbrev pub Outcome : Type 0
Outcome = Result Reply Refusal × State

-- a refusal changes nothing
abbrev pub refuses : State → Refusal → Outcome
refuses s why = (Err why, s)

-- no cache was asked
abbrev pub no_note : CacheNote
no_note = record { hits = 0; stored = 0; refused = None }

-- ---- the store's commands and questions

abbrev pub map_ok : {A B E : Type 0} → (A → B) → Result A E → Result B E
map_ok f (Ok x) = Ok (f x)
map_ok f (Err why) = Err why

-- the store answers so, and its answer is the reply
pub record Commands {T : Type 0} (Does : Result T Refusal → StoreModel → Type 0) (f : T → Reply) (old : State) (result : Result Reply Refusal) (new : State) : Type 0 where
  pub answer : Result T Refusal
  pub does : Does answer new.store
  pub reply : result ≡ map_ok f answer
  pub rest : new ≡ record old { store = new.store }

abbrev pub was_done : Unit {0} → Reply
was_done u = Done

-- the shard that has a chunk, where there is one
abbrev pub shard_reply : Option (List ℕ) → Reply
shard_reply None = NoShard
shard_reply (Some bytes) = ShardBytes bytes

-- a list's items
abbrev pub hashes_reply : Vec (List ℕ) → Reply
hashes_reply v = Hashes v.items

abbrev pub files_reply : Vec TwoHashes → Reply
files_reply v = Files v.items

-- a file's name, and how many bytes it has
abbrev pub lazy_reply : FileModel → Reply
lazy_reply file = Lazy file.file_hash (length file.content)

-- the answer of a question is the reply
abbrev pub asks : {T : Type 0} → (T → Reply) → State → Result T Refusal → Outcome
asks f s answer = (map_ok f answer, s)

-- ---- plans

-- the last number is not given
abbrev pub used_up : ℕ → Bool
used_up next = next == 18446744073709551615

-- the read that a plan opens at a moment
abbrev pub read_of : SecondPlan → Option (Range ℕ _F) → ℕ → OpenRead
read_of plan range at = record { reader = reading_of plan range; stamp = at }

abbrev pub opened : State → OpenRead → State
opened s r = record s { reads = insert s.reads s.next r; next = s.next + 1 }

-- a plan without links finishes at once
abbrev pub open_links : State → PlanVersion → SecondPlan → Option (Range ℕ _F) → ℕ → List LinkModel → Outcome
open_links s version plan range at [] = (Ok (Finished s.next [] 0 no_note), record s { next = s.next + 1 })
open_links s version plan range at (l ∷ ls) = (Ok (Planned version s.next plan.offset_into_first_range plan.terms (l ∷ ls)), opened s (read_of plan range at))

-- a plan that gives no read is refused; no store's plan is such a one
abbrev pub open_plan : State → PlanVersion → SecondPlan → Option (Range ℕ _F) → ℕ → Outcome
open_plan s version plan range at =
    if used_up s.next then refuses s InvalidArguments
    else if can_open plan then open_links s version plan range at (planned_links plan)
    else refuses s InvalidArguments

-- over what the store answers
abbrev pub plan_step : State → PlanVersion → Option (Range ℕ _F) → ℕ → Result (Option SecondPlan) Refusal → Outcome
plan_step s version range at (Err why) = refuses s why
plan_step s version range at (Ok None) = (Ok NoPlan, s)
plan_step s version range at (Ok (Some plan)) = open_plan s version plan range at

-- the store answers so in the plan's version, and its answer decides
pub record PlansBy (old : State) (version : PlanVersion) (file : List ℕ) (range : Option (Range ℕ _F)) (at : ℕ) (result : Result Reply Refusal) (new : State) : Type 0 where
  pub answer : Result (Option SecondPlan) Refusal
  pub responds : RespondsBy (answer_of version old.store.max_ranges at) old.store file range answer
  pub step : plan_step old version range at answer ≡ (result, new)

-- ---- plans of several files

-- the terms of the files, and the links
abbrev pub batch_reply : BatchPlan → Reply
batch_reply batch = replies.Batch batch.files (batch_links batch)

-- the store answers so, and its answer is the reply
pub record RepliesToAll (store : StoreModel) (files : List (List ℕ)) (at : ℕ) (result : Result Reply Refusal) : Type 0 where
  pub answer : Result BatchPlan Refusal
  pub responds : RespondsToAll store files at answer
  pub reply : result ≡ map_ok batch_reply answer

-- and nothing changes
pub record BatchesBy (old : State) (files : List (List ℕ)) (at : ℕ) (result : Result Reply Refusal) (new : State) : Type 0 where
  pub replies : RepliesToAll old.store files at result
  pub same : new ≡ old

-- ---- fetches

-- an answer, and the open reads after it
abbrev pub ReadsOutcome : Type 0
ReadsOutcome = Result Reply Refusal × Reads

abbrev pub keeps_reads : Reads → Refusal → ReadsOutcome
keeps_reads reads why = (Err why, reads)

-- the last link finishes the read
abbrev pub fetch_done : Reads → ℕ → ℕ → ℕ → OpenRead → ℕ → ReadsOutcome
fetch_done reads read link wire r zero = (Ok (Finished read (bytes_read r.reader) wire no_note), remove reads read)
fetch_done reads read link wire r (suc left) = (Ok (Fetched read link (suc left) wire no_note), insert reads read r)

abbrev pub with_reader : OpenRead → Reading → OpenRead
with_reader r reading = record r { reader = reading }

-- over what the reader answers
abbrev pub fetch_taken : Reads → ℕ → ℕ → ℕ → OpenRead → Result (Unit {0}) Refusal → Reading → ReadsOutcome
fetch_taken reads read link wire r (Err why) after = keeps_reads reads why
fetch_taken reads read link wire r (Ok done) after = fetch_done reads read link wire (with_reader r after) (count_left after.links)

-- the reader takes the body of the link, which has so many bytes
pub record TakesBody (old : Reads) (read link : ℕ) (r : OpenRead) (body : Body) (result : Result Reply Refusal) (new : Reads) : Type 0 where
  pub answer : Result (Unit {0}) Refusal
  pub after : Reading
  pub accepts : Accepts r.reader link (type_text body.content_type) body.bytes answer after
  pub step : fetch_taken old read link (length body.bytes) r answer after ≡ (result, new)

abbrev pub FetchesBody : Reads → ℕ → ℕ → OpenRead → Result Body Refusal → Result Reply Refusal → Reads → Type 0
FetchesBody old read link r (Err why) result new = keeps_reads old why ≡ (result, new)
FetchesBody old read link r (Ok body) result new = TakesBody old read link r body result new

-- the bytes of ranges, with ends that are excluded
abbrev pub asked_bytes : List XorbRangeDescriptor → List (Range ℕ _F)
asked_bytes ranges = map (λ (r : XorbRangeDescriptor). file_range_of r.bytes) ranges

-- the body of the link's ranges comes from the xorb as it is stored at this step
pub record FetchesSent (store : StoreModel) (old : Reads) (read link : ℕ) (r : OpenRead) (l : ReadLink) (result : Result Reply Refusal) (new : Reads) : Type 0 where
  pub body : Result Body Refusal
  pub sent : SendsStored store l.hash (asked_bytes l.ranges) body
  pub brings : FetchesBody old read link r body result new

abbrev pub FetchesIf : StoreModel → Reads → ℕ → ℕ → OpenRead → ReadLink → Bool → Result Reply Refusal → Reads → Type 0
FetchesIf store old read link r l true result new = keeps_reads old PresignedUrlExpirationError ≡ (result, new)
FetchesIf store old read link r l false result new = FetchesSent store old read link r l result new

abbrev pub FetchesLink : StoreModel → Reads → ℕ → ℕ → ℕ → OpenRead → Option ReadLink → Result Reply Refusal → Reads → Type 0
FetchesLink store old read link at r None result new = keeps_reads old InvalidArguments ≡ (result, new)
FetchesLink store old read link at r (Some l) result new = FetchesIf store old read link r l (is_expired at r.stamp store.expiration) result new

abbrev pub FetchesRead : StoreModel → Reads → ℕ → ℕ → ℕ → Option OpenRead → Result Reply Refusal → Reads → Type 0
FetchesRead store old read link at None result new = keeps_reads old InvalidArguments ≡ (result, new)
FetchesRead store old read link at (Some r) result new = FetchesLink store old read link at r (left_link r.reader.links link) result new

-- In this order: the read is open and the link is left; the link isn't expired; its xorb is stored and has the bytes of its ranges; they
-- spell its chunks.
pub record Fetches (old : State) (read link at : ℕ) (result : Result Reply Refusal) (new : State) : Type 0 where
  pub reads : FetchesRead old.store old.reads read link at (get old.reads read) result new.reads
  pub rest : new ≡ record old { reads = new.reads }

-- ---- abandoned reads

abbrev pub abandon_read : State → ℕ → Option OpenRead → Outcome
abandon_read s read None = refuses s InvalidArguments
abandon_read s read (Some r) = (Ok Done, record s { reads = remove s.reads read })

abbrev pub abandon_step : State → ℕ → Outcome
abandon_step s read = abandon_read s read (get s.reads read)

-- ---- all acts

-- An act may answer this, or be refused so, and leave that state.
abbrev pub Acts : State → ℕ → Act → Result Reply Refusal → State → Type 0
Acts old at (UploadXorb hash content) result new = Commands (UploadsXorb old.store hash content) Uploaded old result new
Acts old at (UploadShard content) result new = Commands (UploadsShard old.store content) ShardTaken old result new
Acts old at (Plan version file range) result new = PlansBy old version file range at result new
Acts old at (Fetch read link) result new = Fetches old read link at result new
Acts old at (Abandon read) result new = abandon_step old read ≡ (result, new)
Acts old at (HideFile file) result new = Commands (Is (hide_file old.store file)) was_done old result new
Acts old at (DeleteShard shard) result new = Commands (Is (delete_shard old.store shard)) was_done old result new
Acts old at (DeleteXorb xorb) result new = Commands (Is (delete_xorb old.store xorb)) was_done old result new
Acts old at (SetExpiration millis) result new = Commands (Is (set_expiration old.store millis)) was_done old result new
Acts old at (SetDedupExpiration millis) result new = Commands (Is (set_dedup_expiration old.store millis)) was_done old result new
Acts old at (DedupQuery chunk) result new = asks shard_reply old (Ok (dedup_answer old.store chunk at)) ≡ (result, new)
Acts old at (SetMaxRanges max) result new = Commands (Is (set_max_ranges old.store max)) was_done old result new
Acts old at (RemoveDedup shard) result new = Commands (Is (drop_dedup old.store shard)) was_done old result new
Acts old at ListXorbs result new = asks Hashes old (Ok (xorb_hashes old.store)) ≡ (result, new)
Acts old at ListShards result new = asks Hashes old (Ok (shard_hashes old.store)) ≡ (result, new)
Acts old at ListFiles result new = asks Files old (Ok (file_entries old.store)) ≡ (result, new)
Acts old at CheckIntegrity result new = asks was_done old (checked (integrity old.store)) ≡ (result, new)
Acts old at CheckReachable result new = asks was_done old (checked (reachable old.store)) ≡ (result, new)
Acts old at CheckReadable result new = asks was_done old (checked (readable old.store)) ≡ (result, new)
Acts old at (InsertRandomXorb seed count size) result new = Commands (InsertsSeeded old.store seed count size) Random old result new
Acts old at (FileSize file) result new = asks Size old (file_size old.store file) ≡ (result, new)
Acts old at (FileData file range) result new = asks Data old (file_data old.store file range) ≡ (result, new)
Acts old at (Batch files) result new = BatchesBy old files at result new
Acts old at (InsertLazyFile terms size) result new = Commands (InsertsLazy old.store terms size) lazy_reply old result new

-- ---- what the code owes

abbrev pub DoesErr : (Result Reply Refusal → State → Type 0) → State → Option Refusal → State → Type 0
DoesErr P old None new = new ≡ old
DoesErr P old (Some IOError) new = new ≡ old
DoesErr P old (Some why) new = P (Err why) new

-- P holds of the answer, its text aside, and of the state after it; where the outside failed or memory was wanting nothing has changed
abbrev pub Does : (Result Reply Refusal → State → Type 0) → State → Result Reply ClientError → State → Type 0
Does P old (Ok reply) new = P (Ok reply) new
Does P old (Err e) new = DoesErr P old (refusal_of e) new
