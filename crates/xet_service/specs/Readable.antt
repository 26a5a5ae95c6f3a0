-- What follows a check of readable files that holds.
use Rattle.std.specs.Prelude.{◌≡◌, ℕ, zero, suc, ◌<◌, Bool, true, false, List, [], ◌∷◌, length, set, slice_get, Option, Some, None}
use Rattle.xet_types.specs.declared.range.Range.{Range}
use Rattle.xet_types.specs.declared.range._F.{_F}
use Rattle.xet_types.specs.declared.record.XorbReconstructionTerm.{XorbReconstructionTerm}
use Rattle.xet_shard.specs.declared.listing.Segment.{Segment}
use Rattle.xet_shard.specs.Values.{size_of}
use Rattle.xet_store.specs.StoreModel.{StoreModel, listing}
use Rattle.xet_store.specs.Checks.{HaveSameSets}
use Rattle.xet_store.specs.Plans.{file_bytes}
use Rattle.xet_store.specs.TermData.{is_expired}
use Rattle.xet_service.specs.declared.step.Act.{Act}
use Rattle.xet_service.specs.declared.step.Act.TheVariants.{Plan, Fetch, Abandon, CheckReadable}
use Rattle.xet_service.specs.declared.step.PlanVersion.{PlanVersion}
use Rattle.xet_service.specs.Links.{LinkModel}
use Rattle.xet_service.specs.declared.reply.Reply.{Reply}
use Rattle.xet_service.specs.declared.reply.Reply.TheVariants.{Done, Planned, Finished}
use Rattle.xet_service.specs.Steps.{used_up, no_note}
use Rattle.xet_service.specs.Runs.{Event}
use Rattle.xet_service.specs.Validity.{IsQuiet, IsFetchedOf, left_after, count_true, all_left}

-- ---- what is asked

-- the range begins below its end and below the size; where there is none, there are bytes
abbrev pub BeginsInside : ℕ → Option (Range ℕ _F) → Type 0
BeginsInside size None = 0 < size
BeginsInside size (Some r) = (r.start < r.end) × (r.start < size)

-- a plan of a live file in such a range, while the store has these xorbs, shards and hidden files, a number is left, and the outside
-- doesn't fail
pub record PlansInside (m : StoreModel) (e : Event) (file : List ℕ) (range : Option (Range ℕ _F)) : Type 0 where
  pub same : HaveSameSets m e.before.state.store
  pub segments : List Segment
  pub live : listing e.before.state.store file ≡ Some segments
  pub inside : BeginsInside (size_of segments) range
  pub numbered : used_up e.before.state.next ≡ false
  pub quiet : IsQuiet e

-- a fetch of a link that is left and not expired, while the store has these sets and the outside doesn't fail
pub record FetchesInTime (m : StoreModel) (e : Event) (stamp : ℕ) (left : List Bool) (link : ℕ) : Type 0 where
  pub same : HaveSameSets m e.before.state.store
  pub left_it : slice_get left link ≡ Some true
  pub fresh : is_expired e.step.at stamp e.before.state.store.expiration ≡ false
  pub quiet : IsQuiet e

-- a step that names the read is such a fetch
abbrev pub AsksAt : StoreModel → ℕ → ℕ → List Bool → Event → Act → Type 0
AsksAt m n stamp left e (Fetch read link) = read ≡ n → FetchesInTime m e stamp left link
AsksAt m n stamp left e (Abandon read) = read ≡ n → ⊥
AsksAt m n stamp left e act = Unit {0}

-- from here on, the steps that name the read fetch its links so
abbrev pub AsksRest : StoreModel → ℕ → ℕ → List Bool → List Event → Type 0
AsksRest m n stamp left [] = Unit {0}
AsksRest m n stamp left (e ∷ es) = AsksAt m n stamp left e e.step.act × AsksRest m n stamp (left_after n left e.step.act) es

-- ---- what is answered

-- the read ends with these bytes
pub record IsFinishedWith (n : ℕ) (bytes : List ℕ) (reply : Reply) : Type 0 where
  pub wire : ℕ
  pub is : reply ≡ Finished n bytes wire no_note

-- a fetch tells how many links are left, and the last one ends the read
abbrev pub Brings : ℕ → List ℕ → ℕ → ℕ → Reply → Type 0
Brings n bytes link zero reply = IsFinishedWith n bytes reply
Brings n bytes link (suc left) reply = IsFetchedOf n link (suc left) reply

abbrev pub BringsAt : ℕ → List ℕ → List Bool → Reply → Act → Type 0
BringsAt n bytes left reply (Fetch read link) = read ≡ n → Brings n bytes link (count_true (set left link false)) reply
BringsAt n bytes left reply act = Unit {0}

abbrev pub BringsRest : ℕ → List ℕ → List Bool → List Event → Type 0
BringsRest n bytes left [] = Unit {0}
BringsRest n bytes left (e ∷ es) = BringsAt n bytes left e.reply e.step.act × BringsRest n bytes (left_after n left e.step.act) es

-- The plan answers its links, in its version. Where the steps after it fetch these in time, while the store has these sets, each
-- brings its link, and the last one ends the read with the bytes that the file has in the range.
pub record IsReadThrough (m : StoreModel) (version : PlanVersion) (file : List ℕ) (range : Option (Range ℕ _F)) (e : Event) (es : List Event) : Type 0 where
  pub offset : ℕ
  pub terms : List XorbReconstructionTerm
  pub links : List LinkModel
  pub reply : e.reply ≡ Planned version e.before.state.next offset terms links
  pub some : 0 < length links
  pub bytes : List ℕ
  pub of_file : file_bytes e.before.state.store file range ≡ Some bytes
  pub rest : AsksRest m e.before.state.next e.step.at (all_left links) es → BringsRest e.before.state.next bytes (all_left links) es

-- each plan of these events, while the store has these sets, is of a read that can be read through
abbrev pub ServesIn : StoreModel → List Event → Type 0
ServesIn m [] = Unit {0}
ServesIn m (e ∷ es) = ((version : PlanVersion) (file : List ℕ) (range : Option (Range ℕ _F)) → e.step.act ≡ Plan version file range → PlansInside m e file range → IsReadThrough m version file range e es) × ServesIn m es

-- Where a check of readable files is answered that it holds, all plans after it are so, while the store has the same xorbs, shards and
-- hidden files as at the check.
abbrev pub ReadableServe : List Event → Type 0
ReadableServe [] = Unit {0}
ReadableServe (e ∷ es) = (e.step.act ≡ CheckReadable → e.reply ≡ Done → ServesIn e.before.state.store es) × ReadableServe es
