-- What the parts of a service's requests ask and leave.
use Rattle.std.specs.Prelude.{◌≡◌, ℕ, ◌-◌, true, List, Some, Result, OnErr}
use Rattle.std.specs.FinMap.{get, insert}
use Rattle.xet_types.specs.declared.error.Refusal.{Refusal}
use Rattle.xet_types.specs.declared.error.Refusal.TheVariants.{FormatError, InvalidRange, InvalidArguments, XORBNotFound, PresignedUrlExpirationError, Other}
use Rattle.xet_types.specs.declared.error.FormatFault.TheVariants as faults
use Rattle.xet_store.specs.Refusals.{OfOutside, OfSetting, OfXorbUpload, OfShardUpload, OfShardDeletion, OfFileSize, OfPlan, OfFileData, OfListing, OfCheck, OfGenerated}
use Rattle.xet_store.specs.StoreModel.{Chunks}
use Rattle.xet_service.specs.declared.step.Act.{Act}
use Rattle.xet_service.specs.declared.step.Act.TheVariants.{UploadXorb, UploadShard, Plan, Fetch, Abandon, HideFile, DeleteShard, DeleteXorb, SetExpiration, SetMaxRanges, FileSize, FileData, SetDedupExpiration, DedupQuery, RemoveDedup, ListXorbs, ListShards, ListFiles, CheckIntegrity, CheckReachable, CheckReadable, InsertRandomXorb, Batch, InsertLazyFile}
use Rattle.xet_service.specs.declared.reply.Reply.{Reply}
use Rattle.xet_service.specs.declared.reply.Reply.TheVariants.{Refused}
use Rattle.xet_service.specs.declared.read.OpenRead.{OpenRead}
use Rattle.xet_service.specs.Bodies.{Body}
use Rattle.xet_service.specs.Reading.{count_left, is_link_left, take_link}
use Rattle.xet_service.specs.World.{Reads}
use Rattle.xet_service.specs.Steps.{TakesBody, with_reader}

-- ---- refusals, whatever the store tells

-- a plan: also no number is left
abbrev pub OfPlanAct : Refusal → Type 0
OfPlanAct InvalidArguments = Unit {0}
OfPlanAct why = OfPlan why

-- the link isn't left
abbrev pub OfLink : Refusal → Type 0
OfLink InvalidArguments = Unit {0}
OfLink why = ⊥

-- the link isn't left or expired, the xorb isn't stored or hasn't its bytes, or they don't spell the link's chunks
abbrev pub OfFetch : Refusal → Type 0
OfFetch InvalidArguments = Unit {0}
OfFetch PresignedUrlExpirationError = Unit {0}
OfFetch (XORBNotFound h) = Unit {0}
OfFetch InvalidRange = Unit {0}
OfFetch (FormatError faults.Xorb) = Unit {0}
OfFetch (FormatError faults.Body) = Unit {0}
OfFetch Other = Unit {0}
OfFetch why = OfOutside why

-- the refusals of an act
abbrev pub OfAct : Act → Refusal → Type 0
OfAct (UploadXorb hash content) why = OfXorbUpload why
OfAct (UploadShard content) why = OfShardUpload why
OfAct (Plan version file range) why = OfPlanAct why
OfAct (Fetch read link) why = OfFetch why
OfAct (Abandon read) why = OfLink why
OfAct (HideFile file) why = OfOutside why
OfAct (DeleteShard shard) why = OfShardDeletion why
OfAct (DeleteXorb xorb) why = OfOutside why
OfAct (SetExpiration millis) why = OfOutside why
OfAct (SetDedupExpiration millis) why = OfOutside why
OfAct (DedupQuery chunk) why = OfListing why
OfAct (SetMaxRanges max) why = OfSetting why
OfAct (RemoveDedup shard) why = OfOutside why
OfAct ListXorbs why = OfOutside why
OfAct ListShards why = OfOutside why
OfAct ListFiles why = OfOutside why
OfAct CheckIntegrity why = OfCheck why
OfAct CheckReachable why = OfCheck why
OfAct CheckReadable why = OfCheck why
OfAct (InsertRandomXorb seed count size) why = OfGenerated why
OfAct (FileSize file) why = OfFileSize file why
OfAct (FileData file range) why = OfFileData file why
OfAct (Batch files) why = OfPlan why
OfAct (InsertLazyFile terms size) why = OfGenerated why

-- a reply that is no refusal
abbrev pub IsAnswer : Reply → Type 0
IsAnswer (Refused why) = ⊥
IsAnswer reply = Unit {0}

-- a refusal keeps the open reads and the next number
abbrev pub KeepsReads : {T E : Type 0} → Result T E → Reads → Reads → ℕ → ℕ → Type 0
KeepsReads result old new next next_after = OnErr result ((new ≡ old) × (next_after ≡ next))

-- ---- open reads

-- a read is open at the number
abbrev pub IsOpenAt : Reads → ℕ → Type 0
IsOpenAt reads n = (r : OpenRead) × (get reads n ≡ Some r)

-- a read is open at the number, and so many links are left but one
abbrev pub IsWantedAt : Reads → ℕ → ℕ → Type 0
IsWantedAt reads n left = (r : OpenRead) × ((get reads n ≡ Some r) × (left ≡ count_left r.reader.links - 1))

-- a read is open at the number, and the link is left
abbrev pub IsLinkLeftAt : Reads → ℕ → ℕ → Type 0
IsLinkLeftAt reads n link = (r : OpenRead) × ((get reads n ≡ Some r) × (is_link_left r.reader.links link ≡ true))

-- the link of the read of the number has these chunks
abbrev pub PutsAt : Reads → ℕ → ℕ → List Chunks → Reads → Type 0
PutsAt old n link got new = (r : OpenRead) → get old n ≡ Some r → new ≡ insert old n (with_reader r (take_link r.reader link got))

-- the read of the number takes the body
abbrev pub TakesAt : Reads → ℕ → ℕ → Body → Result Reply Refusal → Reads → Type 0
TakesAt old read link body result new = (r : OpenRead) × ((get old read ≡ Some r) × TakesBody old read link r body result new)
