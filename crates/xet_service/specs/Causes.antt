-- Why a step is answered as it is.
use Rattle.std.specs.Prelude.{◌≡◌, ℕ, true, false, List, ◌∷◌, ◌++◌, map, ◌⊎◌, Option, Some, None}
use Rattle.std.specs.List.{AllByRecursion}
use Rattle.std.specs.FinMap.{get}
use Rattle.xet_types.specs.declared.error.Refusal.{Refusal}
use Rattle.xet_types.specs.declared.error.Refusal.TheVariants.{FormatError, InvalidRange, InvalidArguments, FileNotFound, XORBNotFound, PresignedUrlExpirationError, IOError, Other, InvalidKey, CacheError, HttpStatus}
use Rattle.xet_types.specs.declared.error.FormatFault.TheVariants as faults
use Rattle.xet_types.specs.declared.range.Range.{Range}
use Rattle.xet_types.specs.declared.range._F.{_F}
use Rattle.xet_shard.specs.declared.listing.Segment.{Segment}
use Rattle.xet_shard.specs.Listings.{ShardModel}
use Rattle.xet_shard.specs.ShardBytes.{IsReadAs}
use Rattle.xet_shard.specs.Values.{size_of}
use Rattle.xet_xorb.specs.ChunkLists.{IsWellFormed}
use Rattle.xet_xorb.specs.XorbBytes.{IsXorbText}
use Rattle.xet_xorb.specs.Generated.{seeded_chunks}
use Rattle.xet_plan.specs.Places.{Interval, interval, reach, first_fault}
use Rattle.xet_generated.specs.Terms.{Term, CanGenerate}
use Rattle.xet_plan.specs.declared.place.Reach.TheVariants.{Past, Reversed, Within}
use Rattle.xet_store.specs.StoreModel.{StoreModel, Chunks, stored, listing, known_of}
use Rattle.xet_store.specs.StoreModel.{shard_named}
use Rattle.xet_store.specs.Commands.{IsMisnamed}
use Rattle.xet_store.specs.Checks.{integrity, reachable, readable}
use Rattle.xet_store.specs.Questions.{asked}
use Rattle.xet_store.specs.TermData.{is_expired}
use Rattle.xet_service.specs.declared.step.Act.{Act}
use Rattle.xet_service.specs.declared.step.Act.TheVariants.{UploadXorb, UploadShard, Plan, Fetch, Abandon, DeleteShard, SetMaxRanges, FileSize, FileData, CheckIntegrity, CheckReachable, CheckReadable, InsertRandomXorb, Batch, InsertLazyFile}
use Rattle.xet_service.specs.declared.step.PlanVersion.{PlanVersion}
use Rattle.xet_service.specs.declared.read.OpenRead.{OpenRead}
use Rattle.xet_service.specs.declared.reader.link.ReadLink.{ReadLink}
use Rattle.xet_service.specs.Bodies.{all_lie_in, bytes_at}
use Rattle.xet_service.specs.Reading.{left_link, fits, AreAllWhole}
use Rattle.xet_service.specs.World.{State}
use Rattle.xet_service.specs.Steps.{used_up, asked_bytes}

-- ---- uploads

-- bytes that spell no chunk list, under a hash that isn't stored
pub record NoXorb (s : State) (act : Act) : Type 0 where
  pub hash : List ℕ
  pub content : List ℕ
  pub is : act ≡ UploadXorb hash content
  pub fresh : stored s.store hash ≡ None
  pub unspelled : (chunks : Chunks) → IsXorbText content chunks → ⊥

-- bytes that spell a chunk list of another name, under a hash that isn't stored
pub record FalseName (s : State) (act : Act) : Type 0 where
  pub hash : List ℕ
  pub content : List ℕ
  pub is : act ≡ UploadXorb hash content
  pub fresh : stored s.store hash ≡ None
  pub misnamed : IsMisnamed hash content

-- bytes that spell no shard
pub record NoShard (act : Act) : Type 0 where
  pub content : List ℕ
  pub is : act ≡ UploadShard content
  pub unspelled : (shard : ShardModel) → IsReadAs content shard → ⊥

-- a generated xorb of chunks that aren't those of a xorb
pub record GeneratesNothing (act : Act) : Type 0 where
  pub seed : ℕ
  pub count : ℕ
  pub size : ℕ
  pub is : act ≡ InsertRandomXorb seed count size
  pub misshapen : IsWellFormed (seeded_chunks seed count size) → ⊥

-- a generated file of terms that aren't those of a file
pub record GeneratesNoFile (act : Act) : Type 0 where
  pub terms : List Term
  pub size : ℕ
  pub is : act ≡ InsertLazyFile terms size
  pub misshapen : CanGenerate terms size → ⊥

-- ---- deletions

-- of a shard that isn't stored
pub record DeletesNothing (s : State) (act : Act) : Type 0 where
  pub name : List ℕ
  pub is : act ≡ DeleteShard name
  pub unstored : shard_named s.store.shards name ≡ None

-- ---- checks

-- a check whose condition the store doesn't meet
abbrev pub FailsCheck : State → Act → Type 0
FailsCheck s CheckIntegrity = integrity s.store ≡ false
FailsCheck s CheckReachable = reachable s.store ≡ false
FailsCheck s CheckReadable = readable s.store ≡ false
FailsCheck s act = ⊥

-- ---- files

-- the file's size or bytes are asked
abbrev pub AsksOf : Act → List ℕ → Type 0
AsksOf (FileSize f) file = f ≡ file
AsksOf (FileData f range) file = f ≡ file
AsksOf act file = ⊥

-- the size or the bytes of a file that isn't live
pub record AsksNothing (s : State) (act : Act) (file : List ℕ) : Type 0 where
  pub is : AsksOf act file
  pub gone : listing s.store file ≡ None

-- the bytes of a live file
pub record AsksLive (s : State) (act : Act) : Type 0 where
  pub file : List ℕ
  pub range : Option (Range ℕ _F)
  pub is : act ≡ FileData file range
  pub segments : List Segment
  pub live : listing s.store file ≡ Some segments

-- in a range that begins at or past its end, or ends below its start
pub record AsksPast (s : State) (act : Act) : Type 0 where
  pub asks : AsksLive s act
  pub past : asked (size_of asks.segments) asks.range ≡ None

-- whose first fault is this one
pub record AsksFaulty (s : State) (act : Act) (why : Refusal) : Type 0 where
  pub asks : AsksLive s act
  pub clip : Interval
  pub inside : asked (size_of asks.segments) asks.range ≡ Some clip
  pub fault : first_fault (known_of s.store) clip asks.segments ≡ Some why

-- ---- plans

-- a plan of a live file
pub record PlansLive (s : State) (act : Act) : Type 0 where
  pub version : PlanVersion
  pub file : List ℕ
  pub range : Option (Range ℕ _F)
  pub is : act ≡ Plan version file range
  pub segments : List Segment
  pub live : listing s.store file ≡ Some segments

-- a plan whose range is empty or reversed and begins inside the file
pub record PlansReversed (s : State) (act : Act) : Type 0 where
  pub plan : PlansLive s act
  pub reversed : reach (size_of plan.segments) plan.range ≡ Reversed

-- a plan whose first fault is this one
pub record PlansFaulty (s : State) (act : Act) (why : Refusal) : Type 0 where
  pub plan : PlansLive s act
  pub clip : Interval
  pub reached : reach (size_of plan.segments) plan.range ≡ Within clip.start clip.end
  pub fault : first_fault (known_of s.store) clip plan.segments ≡ Some why

-- a plan without faults, where no number is left
pub record PlansUsedUp (s : State) (act : Act) : Type 0 where
  pub plan : PlansLive s act
  pub clip : Interval
  pub reached : reach (size_of plan.segments) plan.range ≡ Within clip.start clip.end
  pub faultless : first_fault (known_of s.store) clip plan.segments ≡ None
  pub used : used_up s.next ≡ true

-- a plan of a file that isn't live, or whose range begins at or past its end
pub record PlansNothing (s : State) (act : Act) : Type 0 where
  pub version : PlanVersion
  pub file : List ℕ
  pub range : Option (Range ℕ _F)
  pub is : act ≡ Plan version file range
  pub nothing : (listing s.store file ≡ None) ⊎ ((segments : List Segment) × (listing s.store file ≡ Some segments) × (reach (size_of segments) range ≡ Past))

-- where the file is live, none of its segments has a fault
abbrev pub HasNoFault : StoreModel → List ℕ → Type 0
HasNoFault store file = (segments : List Segment) → listing store file ≡ Some segments → first_fault (known_of store) (interval 0 (size_of segments)) segments ≡ None

-- plans of several files, the first of which with a fault is a live one whose first fault is this
pub record BatchesFaulty (s : State) (act : Act) (why : Refusal) : Type 0 where
  pub before : List (List ℕ)
  pub file : List ℕ
  pub after : List (List ℕ)
  pub is : act ≡ Batch (before ++ file ∷ after)
  pub faultless : AllByRecursion (HasNoFault s.store) before
  pub segments : List Segment
  pub live : listing s.store file ≡ Some segments
  pub fault : first_fault (known_of s.store) (interval 0 (size_of segments)) segments ≡ Some why

-- ---- open reads

-- the link of the read is left
pub record IsLeft (s : State) (read link : ℕ) : Type 0 where
  pub held : OpenRead
  pub it : ReadLink
  pub open_it : get s.reads read ≡ Some held
  pub left : left_link held.reader.links link ≡ Some it

-- a fetch of a link that isn't left, or of a read that isn't open
pub record FetchesNothing (s : State) (act : Act) : Type 0 where
  pub read : ℕ
  pub link : ℕ
  pub is : act ≡ Fetch read link
  pub gone : IsLeft s read link → ⊥

-- a read that isn't open is abandoned
pub record AbandonsNothing (s : State) (act : Act) : Type 0 where
  pub read : ℕ
  pub is : act ≡ Abandon read
  pub gone : get s.reads read ≡ None

-- a fetch of a link that is left
pub record FetchesLeft (s : State) (act : Act) : Type 0 where
  pub read : ℕ
  pub link : ℕ
  pub is : act ≡ Fetch read link
  pub left : IsLeft s read link

-- of one that is expired
pub record FetchesLate (s : State) (at : ℕ) (act : Act) : Type 0 where
  pub fetch : FetchesLeft s act
  pub late : is_expired at fetch.left.held.stamp s.store.expiration ≡ true

-- of one that isn't, and whose xorb isn't stored
pub record FetchesUnstored (s : State) (at : ℕ) (act : Act) (hash : List ℕ) : Type 0 where
  pub fetch : FetchesLeft s act
  pub fresh : is_expired at fetch.left.held.stamp s.store.expiration ≡ false
  pub hash_is : fetch.left.it.hash ≡ hash
  pub unstored : stored s.store hash ≡ None

-- of one whose xorb is stored
pub record FetchesStored (s : State) (at : ℕ) (act : Act) : Type 0 where
  pub fetch : FetchesLeft s act
  pub fresh : is_expired at fetch.left.held.stamp s.store.expiration ≡ false
  pub chunks : Chunks
  pub there : stored s.store fetch.left.it.hash ≡ Some chunks

-- the bytes of the link's ranges in it as it is stored now
abbrev pub link_bytes : ReadLink → Chunks → List (List ℕ)
link_bytes l chunks = map (bytes_at chunks) (asked_bytes l.ranges)

-- it hasn't these bytes
pub record FetchesPast (s : State) (at : ℕ) (act : Act) : Type 0 where
  pub of : FetchesStored s at act
  pub past : all_lie_in of.chunks (asked_bytes of.fetch.left.it.ranges) ≡ false

-- it has them
pub record FetchesBytes (s : State) (at : ℕ) (act : Act) : Type 0 where
  pub of : FetchesStored s at act
  pub inside : all_lie_in of.chunks (asked_bytes of.fetch.left.it.ranges) ≡ true

-- and those of some range aren't whole chunks
pub record FetchesBroken (s : State) (at : ℕ) (act : Act) : Type 0 where
  pub brings : FetchesBytes s at act
  pub broken : (got : List Chunks) → AreAllWhole (link_bytes brings.of.fetch.left.it brings.of.chunks) got → ⊥

-- and they are whole chunks, which don't fit: a range hasn't its number of chunks, or a term's chunks don't have its length
pub record FetchesMisfit (s : State) (at : ℕ) (act : Act) : Type 0 where
  pub brings : FetchesBytes s at act
  pub got : List Chunks
  pub whole : AreAllWhole (link_bytes brings.of.fetch.left.it brings.of.chunks) got
  pub misfit : fits brings.of.fetch.left.it.ranges brings.of.fetch.left.it.held got ≡ false

-- ---- settings

-- a link is to bring no runs
pub record SetsNone (act : Act) : Type 0 where
  pub is : act ≡ SetMaxRanges 0

-- The act asks the store: a fetch does so only for a link that is left and not expired.
abbrev pub IsAsked : State → ℕ → Act → Type 0
IsAsked s at (Fetch read link) = (l : IsLeft s read link) × (is_expired at l.held.stamp s.store.expiration ≡ false)
IsAsked s at (Abandon read) = ⊥
IsAsked s at act = Unit {0}

-- ---- refusals

-- The cause of each refusal but the outside's, which the count of faults shows.
abbrev pub HasCause : State → ℕ → Act → Refusal → Type 0
HasCause s at act (FormatError faults.Xorb) = NoXorb s act ⊎ FetchesBroken s at act
HasCause s at act (FormatError faults.Shard) = NoShard act
HasCause s at act (FormatError faults.Segment) = PlansFaulty s act (FormatError faults.Segment) ⊎ (AsksFaulty s act (FormatError faults.Segment) ⊎ BatchesFaulty s act (FormatError faults.Segment))
HasCause s at act (FormatError faults.Table) = ⊥
HasCause s at act (FormatError faults.Body) = FetchesMisfit s at act
HasCause s at act InvalidRange = PlansReversed s act ⊎ (FetchesPast s at act ⊎ AsksPast s act)
HasCause s at act InvalidArguments = PlansUsedUp s act ⊎ (FetchesNothing s act ⊎ (AbandonsNothing s act ⊎ (SetsNone act ⊎ (GeneratesNothing act ⊎ GeneratesNoFile act))))
HasCause s at act (FileNotFound hash) = AsksNothing s act hash
HasCause s at act (XORBNotFound hash) = PlansFaulty s act (XORBNotFound hash) ⊎ (AsksFaulty s act (XORBNotFound hash) ⊎ (FetchesUnstored s at act hash ⊎ BatchesFaulty s act (XORBNotFound hash)))
HasCause s at act PresignedUrlExpirationError = FetchesLate s at act
HasCause s at act IOError = ⊥
HasCause s at act Other = FalseName s act ⊎ (DeletesNothing s act ⊎ FailsCheck s act)
HasCause s at act InvalidKey = ⊥
HasCause s at act CacheError = ⊥
HasCause s at act (HttpStatus status) = ⊥
