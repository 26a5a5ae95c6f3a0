-- Agreement, and valid reads.
use Rattle.std.specs.Prelude.{◌≡◌, ℕ, zero, suc, ◌<◌, ◌==◌, Bool, true, false, List, [], ◌∷◌, length, map, set, slice_get, Option, Some, None, if◌then◌else◌}
use Rattle.std.specs.List.{AllByRecursion}
use Rattle.xet_types.specs.declared.range.Range.{Range}
use Rattle.xet_types.specs.declared.range._F.{_F}
use Rattle.xet_types.specs.declared.record.XorbReconstructionTerm.{XorbReconstructionTerm}
use Rattle.xet_shard.specs.declared.listing.Segment.{Segment}
use Rattle.xet_shard.specs.Values.{size_of}
use Rattle.xet_plan.specs.Places.{Interval, reach, first_fault}
use Rattle.xet_plan.specs.declared.place.Reach.TheVariants.{Within}
use Rattle.xet_plan.specs.FileBytes.{Content}
use Rattle.xet_store.specs.StoreModel.{StoreModel, Chunks, stored, listing, known_of}
use Rattle.xet_service.specs.declared.step.Act.{Act}
use Rattle.xet_service.specs.declared.step.Act.TheVariants.{Plan, Fetch, Abandon}
use Rattle.xet_service.specs.declared.step.PlanVersion.{PlanVersion}
use Rattle.xet_service.specs.Links.{LinkModel}
use Rattle.xet_service.specs.declared.reply.Reply.{Reply}
use Rattle.xet_service.specs.declared.reply.Reply.TheVariants.{Planned, Fetched, Finished}
use Rattle.std.specs.FinMap as finmap
use Rattle.xet_types.specs.Faults.{Rose}
use Rattle.xet_service.specs.World.{State}
use Rattle.xet_store.specs.TermData.{is_expired}
use Rattle.xet_service.specs.Steps.{used_up, no_note}
use Rattle.xet_service.specs.Runs.{Event}

-- ---- agreement

-- the map gives each xorb that is stored
abbrev pub AgreesWith : Content → StoreModel → Type 0
AgreesWith m store = (hash : List ℕ) (chunks : Chunks) → stored store hash ≡ Some chunks → m hash ≡ Some chunks

-- one map gives each xorb that is stored in any world of the run: no two chunk lists met in it share a name
abbrev pub IsAgreed : Content → List Event → Type 0
IsAgreed m events = AllByRecursion (λ e. AgreesWith m e.before.state.store × AgreesWith m e.after.state.store) events

-- no read is open
abbrev pub NoneOpen : State → Type 0
NoneOpen s = s.reads ≡ finmap.empty

-- no read is open at the start, and no two chunk lists that are met share a name
pub record IsValidList (m : Content) (start : State) (events : List Event) : Type 0 where
  pub none_open : NoneOpen start
  pub agreed : IsAgreed m events

-- ---- valid reads

-- the outside doesn't fail
abbrev pub IsQuiet : Event → Type 0
IsQuiet e = Rose e.before.faults e.after.faults → ⊥

-- The file is live and not empty, the range begins inside, its met segments agree, a number is left, and the outside doesn't fail.
pub record IsServed (e : Event) (file : List ℕ) (range : Option (Range ℕ _F)) : Type 0 where
  pub segments : List Segment
  pub clip : Interval
  pub live : listing e.before.state.store file ≡ Some segments
  pub some : 0 < size_of segments
  pub reached : reach (size_of segments) range ≡ Within clip.start clip.end
  pub agree : first_fault (known_of e.before.state.store) clip segments ≡ None
  pub numbered : used_up e.before.state.next ≡ false
  pub quiet : IsQuiet e

-- a fetch of a link that is left and not expired, while its xorb is stored and the outside doesn't fail
pub record IsFetched (e : Event) (stamp : ℕ) (links : List LinkModel) (left : List Bool) (link : ℕ) : Type 0 where
  pub planned : LinkModel
  pub is : slice_get links link ≡ Some planned
  pub left_it : slice_get left link ≡ Some true
  pub chunks : Chunks
  pub there : stored e.before.state.store planned.hash ≡ Some chunks
  pub fresh : is_expired e.step.at stamp e.before.state.store.expiration ≡ false
  pub quiet : IsQuiet e

-- a step that names the read is such a fetch
abbrev pub ValidAt : ℕ → ℕ → List LinkModel → List Bool → Event → Act → Type 0
ValidAt n stamp links left e (Fetch read link) = read ≡ n → IsFetched e stamp links left link
ValidAt n stamp links left e (Abandon read) = read ≡ n → ⊥
ValidAt n stamp links left e act = Unit {0}

abbrev pub left_after : ℕ → List Bool → Act → List Bool
left_after n left (Fetch read link) = if read == n then set left link false else left
left_after n left act = left

-- from here on, the steps that name the read fetch its links
abbrev pub IsValidRest : ℕ → ℕ → List LinkModel → List Bool → List Event → Type 0
IsValidRest n stamp links left [] = Unit {0}
IsValidRest n stamp links left (e ∷ es) = ValidAt n stamp links left e e.step.act × IsValidRest n stamp links (left_after n left e.step.act) es

abbrev pub count_true : List Bool → ℕ
count_true [] = 0
count_true (true ∷ bs) = suc (count_true bs)
count_true (false ∷ bs) = count_true bs

-- the read is finished by the fetch of its last link
pub record IsFinished (n : ℕ) (reply : Reply) : Type 0 where
  pub bytes : List ℕ
  pub wire : ℕ
  pub is : reply ≡ Finished n bytes wire no_note

-- a link is fetched, and so many are left
pub record IsFetchedOf (n link left : ℕ) (reply : Reply) : Type 0 where
  pub wire : ℕ
  pub is : reply ≡ Fetched n link left wire no_note

abbrev pub Answered : ℕ → ℕ → ℕ → Reply → Type 0
Answered n link zero reply = IsFinished n reply
Answered n link (suc left) reply = IsFetchedOf n link (suc left) reply

abbrev pub AnsweredAt : ℕ → List Bool → Reply → Act → Type 0
AnsweredAt n left reply (Fetch read link) = read ≡ n → Answered n link (count_true (set left link false)) reply
AnsweredAt n left reply act = Unit {0}

abbrev pub AnsweredRest : ℕ → List Bool → List Event → Type 0
AnsweredRest n left [] = Unit {0}
AnsweredRest n left (e ∷ es) = AnsweredAt n left e.reply e.step.act × AnsweredRest n (left_after n left e.step.act) es

abbrev pub all_left : List LinkModel → List Bool
all_left links = map (λ l. true) links

-- The plan answers its links, and where the steps after it are valid they succeed, the last fetch finishing the read.
pub record IsReadWell (version : PlanVersion) (e : Event) (es : List Event) : Type 0 where
  pub offset : ℕ
  pub terms : List XorbReconstructionTerm
  pub links : List LinkModel
  pub reply : e.reply ≡ Planned version e.before.state.next offset terms links
  pub some : 0 < length links
  pub rest : IsValidRest e.before.state.next e.step.at links (all_left links) es → AnsweredRest e.before.state.next (all_left links) es

abbrev pub ReadSucceeds : Event → List Event → Type 0
ReadSucceeds e es = (version : PlanVersion) (file : List ℕ) (range : Option (Range ℕ _F)) → e.step.act ≡ Plan version file range → IsServed e file range → IsReadWell version e es

abbrev pub ReadsSucceed : List Event → Type 0
ReadsSucceed [] = Unit {0}
ReadsSucceed (e ∷ es) = ReadSucceeds e es × ReadsSucceed es
