-- A read finishes only with its file's bytes as its plan's store gave them.
use Rattle.std.proofs.Common.{◌≡◌, ◌≢◌, ◌∙◌, ℕ, zero, suc, ◌+◌, ◌<◌, ◌≤◌, true, false, Bool, cond, eqb, List, [], ◌∷◌, length, Option, Some, None, Result, Ok, Err, refl, sym, ap, subst, arith, inl, inr}
use Rattle.std.proofs.lemmas.Bool.{eqb-true, eq-eqb}
use Rattle.std.specs.List.{AllByRecursion}
use Rattle.std.specs.Ordering.{nat_cmp}
use Rattle.std.specs.FinMap.{get, insert, remove, get-empty}
use Rattle.xet_types.specs.Records.{SecondPlan}
use Rattle.xet_types.specs.declared.error.Refusal.{Refusal}
use Rattle.xet_types.specs.declared.error.Refusal.TheVariants.{InvalidArguments, PresignedUrlExpirationError, IOError}
use Rattle.xet_types.specs.declared.range.Range.{Range}
use Rattle.xet_types.specs.declared.range._F.{_F}
use Rattle.xet_shard.specs.declared.listing.Segment.{Segment}
use Rattle.xet_plan.specs.Places.{Interval}
use Rattle.xet_plan.specs.FileBytes.{Content, file_bytes as bytes_within}
use Rattle.xet_plan.specs.Plans.{PlanModel}
use Rattle.xet_store.specs.StoreModel.{StoreModel, Chunks, known_of, content_of, IsSound}
use Rattle.xet_store.specs.Commands.{Is, UploadsXorb, UploadsShard, hide_file, delete_shard, delete_xorb, set_expiration, set_max_ranges, set_dedup_expiration, drop_dedup, InsertsSeeded, InsertsLazy}
use Rattle.xet_store.specs.TermData.{is_expired}
use Rattle.xet_store.specs.Questions.{file_size, file_data, dedup_answer, xorb_hashes}
use Rattle.xet_store.specs.Lists.{shard_hashes, file_entries}
use Rattle.xet_store.specs.Checks.{checked, integrity, reachable, readable}
use Rattle.xet_store.specs.Plans.{Serves, file_bytes, bytes_listed, bytes_reached, bytes_clipped}
use Rattle.xet_store.specs.Responses.{response_by}
use Rattle.xet_store.proofs.StoreLaws.{uploads_xorb_sound, uploads_shard_sound, fewer_sound, same_sound, without_shard_sound, delete_leaves, set_max_sound, inserts_sound, lazy_sound}
use Rattle.xet_service.specs.declared.step.Act.{Act}
use Rattle.xet_service.specs.declared.step.Act.TheVariants.{UploadXorb, UploadShard, Plan, Fetch, Abandon, HideFile, DeleteShard, DeleteXorb, SetExpiration, SetMaxRanges, FileSize, FileData, SetDedupExpiration, DedupQuery, RemoveDedup, ListXorbs, ListShards, ListFiles, CheckIntegrity, CheckReachable, CheckReadable, InsertRandomXorb, Batch, InsertLazyFile}
use Rattle.xet_service.specs.declared.step.PlanVersion.{PlanVersion}
use Rattle.xet_service.specs.declared.reply.CacheNote.{CacheNote}
use Rattle.xet_service.specs.declared.reply.Reply.{Reply}
use Rattle.xet_service.specs.declared.reply.Reply.TheVariants.{Uploaded, ShardTaken, NoPlan, Done, Planned, Fetched, Finished, Size, Data, Refused, Hashes, Files, Random}
use Rattle.xet_service.specs.declared.read.OpenRead.{OpenRead}
use Rattle.xet_service.specs.declared.reader.link.ReadLink.{ReadLink}
use Rattle.xet_service.specs.Bodies.{Body, type_text, SendsStored}
use Rattle.xet_service.specs.Links.{LinkModel, answer_of}
use Rattle.xet_service.specs.Reading.{Reading, left_link, count_left, take_link, BringsTo, Accepts, bytes_read}
use Rattle.xet_service.specs.ReadingPlans.{can_open, reading_of}
use Rattle.xet_service.specs.World.{State, Reads}
use Rattle.xet_service.specs.Steps.{Outcome, ReadsOutcome, refuses, keeps_reads, no_note, used_up, read_of, opened, open_links, plan_step, fetch_done, fetch_taken, with_reader, asked_bytes, FetchesBody, FetchesIf, FetchesLink, FetchesRead, abandon_read, map_ok, asks, was_done, Commands, PlansBy, Acts, shard_reply, batch_reply, lazy_reply}
use Rattle.xet_service.specs.Runs.{World, Event, IsStep, Chain, outcome_of, fixed_after, with_fixed}
use Rattle.xet_service.specs.Validity.{AgreesWith, IsAgreed, NoneOpen}
use Rattle.xet_service.specs.Headline.{Finishes}
use Rattle.xet_service.proofs.Left.{by_put, by_gone}
use Rattle.xet_service.proofs.Planned.{answered_links, planned_empty}
use Rattle.xet_service.proofs.Causing.{Reached, Says, plan_says, batch_asked}
use Rattle.xet_service.proofs.Keeping.{reply_is}
use Rattle.xet_service.proofs.Goods.{GoodRead, GoodLink, IsGoodAt, GoodAt, Goods, all_chunks}
use Rattle.xet_service.proofs.Taken.{got_is, fetched_good, fetched_last}

-- What the read of a plan is: it is good, and it is to give the file's bytes.
pub record GoodFacts : Type 0 where
  pub planned_good : (version : PlanVersion) (max : ℕ) (store : StoreModel) (segments : List Segment) (range : Option (Range ℕ _F)) (clip : Interval) (plan : PlanModel) (at : ℕ) (m : Content) → AgreesWith m store → IsSound store → Serves (known_of store) segments range clip plan
      → 0 < length (answered_links version max at plan) → GoodRead m (bytes_within (content_of store) clip segments) (reading_of (answer_of version max at plan) range)

-- ---- reads that stay good

good_more : (m : Content) (w v : World) (n : ℕ) (o : Option OpenRead) → w.state.next ≤ v.state.next → ((k : ℕ) → k < w.state.next → v.fixed k ≡ w.fixed k) → (IsSound w.state.store → IsSound v.state.store) → GoodAt m w n o → GoodAt m v n o
good_more m w v n None le same sound g = tt
good_more m w v n (Some r) le same sound g = record { given = let lt = g.given in omega (arith, lt, le); read = subst (λ (b : List ℕ). GoodRead m b r.reader) (sym (same n g.given)) g.read; sound = sound g.sound }

below : (n m : ℕ) → n < m → eqb n m ≡ false
below n m lt = of (eqb n m) refl
  where
    of : (b : Bool) → eqb n m ≡ b → b ≡ false
    of true e = let is = eqb-true n m e in absurd (omega (arith, is, lt))
    of false e = refl

with_below : (f : ℕ → List ℕ) (next n : ℕ) (o : Option (List ℕ)) → n < next → with_fixed f next o n ≡ f n
with_below f next n None lt = refl
with_below f next n (Some b) lt = ap (λ (c : Bool). cond c b (f n)) (below n next lt)

fixed_below : (w : World) (act : Act) (n : ℕ) → n < w.state.next → fixed_after w act n ≡ w.fixed n
fixed_below w (Plan version file range) n lt = with_below w.fixed w.state.next n (file_bytes w.state.store file range) lt
fixed_below w (UploadXorb hash content) n lt = refl
fixed_below w (UploadShard content) n lt = refl
fixed_below w (Fetch read link) n lt = refl
fixed_below w (Abandon read) n lt = refl
fixed_below w (HideFile file) n lt = refl
fixed_below w (DeleteShard shard) n lt = refl
fixed_below w (DeleteXorb xorb) n lt = refl
fixed_below w (SetExpiration millis) n lt = refl
fixed_below w (SetDedupExpiration millis) n lt = refl
fixed_below w (DedupQuery chunk) n lt = refl
fixed_below w (SetMaxRanges max) n lt = refl
fixed_below w (RemoveDedup shard) n lt = refl
fixed_below w ListXorbs n lt = refl
fixed_below w ListShards n lt = refl
fixed_below w ListFiles n lt = refl
fixed_below w CheckIntegrity n lt = refl
fixed_below w CheckReachable n lt = refl
fixed_below w CheckReadable n lt = refl
fixed_below w (InsertRandomXorb seed count size) n lt = refl
fixed_below w (FileSize file) n lt = refl
fixed_below w (FileData file range) n lt = refl
fixed_below w (Batch files) n lt = refl
fixed_below w (InsertLazyFile terms size) n lt = refl

-- ---- one step

abbrev pub FinishesTo : Reply → World → Type 0
FinishesTo reply new = (read : ℕ) (bytes : List ℕ) (wire : ℕ) (note : CacheNote) → reply ≡ Finished read bytes wire note → bytes ≡ new.fixed read

abbrev pub NoFinish : Reply → Type 0
NoFinish reply = (read : ℕ) (bytes : List ℕ) (wire : ℕ) (note : CacheNote) → reply ≢ Finished read bytes wire note

-- what a step from good reads keeps
pub record Steps (m : Content) (reply : Reply) (new : World) : Type 0 where
  pub good : Goods m new
  pub finished : FinishesTo reply new

abbrev some_read : OpenRead → Option OpenRead
some_read r = Some r

module _ (m : Content) (w : World) (act : Act) (reply : Reply) (new : World) (good : Goods m w) (fixes : new.fixed ≡ fixed_after w act) where
  same_below : (k : ℕ) → k < w.state.next → new.fixed k ≡ w.fixed k
  same_below k lt = ap (λ (f : ℕ → List ℕ). f k) fixes ∙ fixed_below w act k lt

  -- the old reads are good in the new world
  pub good_still : w.state.next ≤ new.state.next → (IsSound w.state.store → IsSound new.state.store) → (n : ℕ) → GoodAt m new n (get w.state.reads n)
  good_still le sound n = good_more m w new n (get w.state.reads n) le same_below sound (good n)

  pub still : new.state.reads ≡ w.state.reads → new.state.next ≡ w.state.next → (IsSound w.state.store → IsSound new.state.store) → NoFinish reply → Steps m reply new
  still reads next sound no_finish = record {
    good = λ n. subst (λ (rs : Reads). GoodAt m new n (get rs n)) (sym reads) (good_still (omega (arith, next)) sound n);
    finished = λ n b wire note e. absurd (no_finish n b wire note e);
  }

  pub same_state : new.state ≡ w.state → NoFinish reply → Steps m reply new
  same_state same no_finish = still (ap (λ (s : State). s.reads) same) (ap (λ (s : State). s.next) same) (λ sound. subst (λ (s : State). IsSound s.store) (sym same) sound) no_finish

err_no_finish : (reply : Reply) (e : Refusal) → outcome_of reply ≡ Err e → NoFinish reply
err_no_finish reply e h n b wire note f = let g : outcome_of (Finished n b wire note) ≡ Err e = ap outcome_of (sym f) ∙ h in absurd cc

other_no_finish : (reply x : Reply) → ((n : ℕ) (b : List ℕ) (wire : ℕ) (note : CacheNote) → x ≡ Finished n b wire note → ⊥) → outcome_of reply ≡ Ok x → NoFinish reply
other_no_finish reply x other h n b wire note f = other n b wire note (sym (reply_is reply x h) ∙ f)

-- ---- commands and questions

map_no_finish : {T : Type 0} (f : T → Reply) (a : Result T Refusal) (reply : Reply) → ((x : T) → (n : ℕ) (b : List ℕ) (wire : ℕ) (note : CacheNote) → f x ≡ Finished n b wire note → ⊥) → outcome_of reply ≡ map_ok f a → NoFinish reply
map_no_finish f (Ok x) reply other h = other_no_finish reply (f x) (other x) h
map_no_finish f (Err e) reply other h = err_no_finish reply e h

command_steps : {T : Type 0} (D : Result T Refusal → StoreModel → Type 0) (f : T → Reply) (m : Content) (w : World) (act : Act) (reply : Reply) (new : World) → ((x : T) → (n : ℕ) (b : List ℕ) (wire : ℕ) (note : CacheNote) → f x ≡ Finished n b wire note → ⊥) → Goods m w
    → new.fixed ≡ fixed_after w act → ((a : Result T Refusal) (k : StoreModel) → D a k → IsSound w.state.store → IsSound k) → Commands D f w.state (outcome_of reply) new.state → Steps m reply new
command_steps D f m w act reply new other good fixes sound c =
    still m w act reply new good fixes (ap (λ (t : State). t.reads) c.rest) (ap (λ (t : State). t.next) c.rest) (sound c.answer new.state.store c.does) (map_no_finish f c.answer reply other c.reply)

question_steps : {T : Type 0} (f : T → Reply) (a : Result T Refusal) (m : Content) (w : World) (act : Act) (reply : Reply) (new : World) → ((x : T) → (n : ℕ) (b : List ℕ) (wire : ℕ) (note : CacheNote) → f x ≡ Finished n b wire note → ⊥) → Goods m w
    → new.fixed ≡ fixed_after w act → asks f w.state a ≡ (outcome_of reply, new.state) → Steps m reply new
question_steps f a m w act reply new other good fixes h =
    same_state m w act reply new good fixes (sym (ap (λ (o : Outcome). o.1) h)) (map_no_finish f a reply other (sym (ap (λ (o : Outcome). o.0) h)))

-- what a command leaves is sound
is_sound : {T : Type 0} (o : Result T Refusal × StoreModel) (s : StoreModel) → (IsSound s → IsSound o.1) → (a : Result T Refusal) (k : StoreModel) → Is o a k → IsSound s → IsSound k
is_sound o s leaves a k h sound = subst IsSound (sym h.1) (leaves sound)

-- ---- plans

some_list : {X : Type 0} (xs : List X) (y : X) (ys : List X) → xs ≡ y ∷ ys → 0 < length xs
some_list xs y ys e = subst (λ (zs : List _). 0 < length zs) (sym e) (omega arith)

module _ (facts : GoodFacts) (m : Content) (w : World) (version : PlanVersion) (file : List ℕ) (range : Option (Range ℕ _F)) (at : ℕ) (reply : Reply) (new : World) (good : Goods m w) (agree : AgreesWith m w.state.store) (sound : IsSound w.state.store)
    (fixes : new.fixed ≡ fixed_after w (Plan version file range)) where
  abbrev s : State
  s = w.state

  abbrev Ends : Outcome → Type 0
  Ends o = o ≡ (outcome_of reply, new.state) → Steps m reply new

  refused : (why : Refusal) → Ends (refuses s why)
  refused why h = same_state m w (Plan version file range) reply new good fixes (sym (ap (λ (o : Outcome). o.1) h)) (err_no_finish reply why (sym (ap (λ (o : Outcome). o.0) h)))

  fixed_next : (plan : PlanModel) (f : Reached s.store file range plan) → new.fixed s.next ≡ bytes_within (content_of s.store) f.clip f.segments
  fixed_next plan f =
      let bytes : file_bytes s.store file range ≡ Some (bytes_within (content_of s.store) f.clip f.segments) = ap (bytes_listed s.store range) f.live ∙ ap (bytes_reached s.store f.segments) f.reached ∙ ap (bytes_clipped s.store f.segments f.clip) f.serves.faultless in
      ap (λ (g : ℕ → List ℕ). g s.next) fixes ∙ ap (λ (o : Option (List ℕ)). with_fixed w.fixed s.next o s.next) bytes
      ∙ ap (λ (b : Bool). cond b (bytes_within (content_of s.store) f.clip f.segments) (w.fixed s.next)) (eq-eqb s.next s.next refl)

  more : (rs : Reads) → new.state.reads ≡ rs → ((n : ℕ) → GoodAt m new n (get rs n)) → Goods m new
  more rs reads g n = subst (λ (qs : Reads). GoodAt m new n (get qs n)) (sym reads) (g n)

  abbrev answer : PlanModel → SecondPlan
  answer plan = answer_of version s.store.max_ranges at plan

  abbrev links_at : PlanModel → List LinkModel
  links_at plan = answered_links version s.store.max_ranges at plan

  empty_steps : (plan : PlanModel) → Reached s.store file range plan → links_at plan ≡ [] → Ends (Ok (Finished s.next [] 0 no_note), record s { next = s.next + 1 })
  empty_steps plan f none h =
      let same : record s { next = s.next + 1 } ≡ new.state = ap (λ (o : Outcome). o.1) h in
      let answer = reply_is reply (Finished s.next [] 0 no_note) (sym (ap (λ (o : Outcome). o.0) h)) in
      let next : s.next + 1 ≡ new.state.next = ap (λ (t : State). t.next) same in
      record {
        good = more s.reads (sym (ap (λ (t : State). t.reads) same)) (good_still m w (Plan version file range) reply new good fixes (omega (arith, next)) (λ x. subst IsSound (ap (λ (t : State). t.store) same) x));
        finished = λ n b wire note g.
            let k : Finished s.next [] 0 no_note ≡ Finished n b wire note = sym answer ∙ g in
            let number : s.next ≡ n = cc in
            let bytes : [] ≡ b = cc in
            sym bytes ∙ sym (fixed_next plan f ∙ planned_empty version s.store.max_ranges at f.serves.planned none (content_of s.store)) ∙ ap new.fixed number;
      }

  open_steps : (plan : PlanModel) (l : LinkModel) (ls : List LinkModel) → Reached s.store file range plan → links_at plan ≡ l ∷ ls
      → Ends (Ok (Planned version s.next (answer plan).offset_into_first_range (answer plan).terms (l ∷ ls)), opened s (read_of (answer plan) range at))
  open_steps plan l ls f links h =
      let read : OpenRead = read_of (answer plan) range at in
      let same : opened s read ≡ new.state = ap (λ (o : Outcome). o.1) h in
      let next : s.next + 1 ≡ new.state.next = ap (λ (t : State). t.next) same in
      let store : IsSound s.store → IsSound new.state.store = λ x. subst IsSound (ap (λ (t : State). t.store) same) x in
      let old = good_still m w (Plan version file range) reply new good fixes (omega (arith, next)) store in
      let fresh : IsGoodAt m new s.next read = record {
        given = omega (arith, next);
        read = subst (λ (b : List ℕ). GoodRead m b read.reader) (sym (fixed_next plan f)) (facts.planned_good version s.store.max_ranges s.store f.segments range f.clip plan at m agree sound f.serves (some_list (links_at plan) l ls links));
        sound = store sound;
      } in
      record {
        good = more (insert s.reads s.next read) (sym (ap (λ (t : State). t.reads) same)) (λ n.
            by_put (GoodAt m new n) s.reads s.next read n (λ e. subst (λ (k : ℕ). IsGoodAt m new k read) (sym e) fresh) (λ apart. old n));
        finished = λ n b wire note g. absurd (let k : Planned version s.next (answer plan).offset_into_first_range (answer plan).terms (l ∷ ls) ≡ Finished n b wire note = sym (reply_is reply (Planned version s.next (answer plan).offset_into_first_range (answer plan).terms (l ∷ ls)) (sym (ap (λ (o : Outcome). o.0) h))) ∙ g in cc);
      }

  links_steps : (plan : PlanModel) (ls : List LinkModel) → Reached s.store file range plan → links_at plan ≡ ls → Ends (open_links s version (answer plan) range at ls)
  links_steps plan [] f is = empty_steps plan f is
  links_steps plan (l ∷ ls) f is = open_steps plan l ls f is

  opened_steps : (plan : PlanModel) → Reached s.store file range plan → (b c : Bool) → Ends (cond b (refuses s InvalidArguments) (cond c (open_links s version (answer plan) range at (links_at plan)) (refuses s InvalidArguments)))
  opened_steps plan f true c = refused InvalidArguments
  opened_steps plan f false true = links_steps plan (links_at plan) f refl
  opened_steps plan f false false = refused InvalidArguments

  answer_steps : (r : Result (Option PlanModel) Refusal) → Says s at version file range r → Ends (plan_step s version range at (response_by answer r))
  answer_steps (Err why) f h = refused why h
  answer_steps (Ok None) f h = same_state m w (Plan version file range) reply new good fixes (sym (ap (λ (o : Outcome). o.1) h)) (other_no_finish reply NoPlan (λ n b wire note e. absurd cc) (sym (ap (λ (o : Outcome). o.0) h)))
  answer_steps (Ok (Some plan)) f h = opened_steps plan f (used_up s.next) (can_open (answer plan)) h

pub plan_steps : GoodFacts → (m : Content) (w : World) (version : PlanVersion) (file : List ℕ) (range : Option (Range ℕ _F)) (at : ℕ) (reply : Reply) (new : World) → Goods m w → AgreesWith m w.state.store → new.fixed ≡ fixed_after w (Plan version file range)
    → PlansBy w.state version file range at (outcome_of reply) new.state → Steps m reply new
plan_steps facts m w version file range at reply new good agree fixes h =
    answer_steps facts m w version file range at reply new good agree h.responds.sound fixes h.responds.answer (plan_says w.state at version file range h.responds.answer h.responds.plans)
    (ap (plan_step w.state version range at) (sym h.responds.response) ∙ h.step)

-- ---- fetches

module _ (m : Content) (w : World) (read link at : ℕ) (reply : Reply) (new : World) (good : Goods m w) (agree : AgreesWith m w.state.store) (fixes : new.fixed ≡ fixed_after w (Fetch read link)) (rest : new.state ≡ record w.state { reads = new.state.reads }) where
  abbrev EndsReads : ReadsOutcome → Type 0
  EndsReads o = o ≡ (outcome_of reply, new.state.reads) → Steps m reply new

  next_is : new.state.next ≡ w.state.next
  next_is = ap (λ (t : State). t.next) rest

  still_sound : IsSound w.state.store → IsSound new.state.store
  still_sound x = subst IsSound (sym (ap (λ (t : State). t.store) rest)) x

  refused_fetch : (why : Refusal) → EndsReads (keeps_reads w.state.reads why)
  refused_fetch why h = still m w (Fetch read link) reply new good fixes (sym (ap (λ (o : ReadsOutcome). o.1) h)) next_is still_sound (err_no_finish reply why (sym (ap (λ (o : ReadsOutcome). o.0) h)))

  module _ (r : OpenRead) (l : ReadLink) (body : Body) (open_it : get w.state.reads read ≡ Some r) (left : left_link r.reader.links link ≡ Some l) (sent : SendsStored w.state.store l.hash (asked_bytes l.ranges) (Ok body)) where
    here : IsGoodAt m w read r
    here = subst (GoodAt m w read) open_it (good read)

    same_fixed : new.fixed read ≡ w.fixed read
    same_fixed = ap (λ (f : ℕ → List ℕ). f read) fixes

    module _ (got : List Chunks) (is : (g : GoodLink m l) → got ≡ all_chunks g.all l.ranges) where
      abbrev after : Reading
      after = take_link r.reader link got

      done_steps : (wire left_over : ℕ) → count_left after.links ≡ left_over → EndsReads (fetch_done w.state.reads read link wire (with_reader r after) left_over)
      done_steps wire zero count h =
          let reads : remove w.state.reads read ≡ new.state.reads = ap (λ (o : ReadsOutcome). o.1) h in
          let answer = reply_is reply (Finished read (bytes_read after) wire no_note) (sym (ap (λ (o : ReadsOutcome). o.0) h)) in
          record {
            good = λ n. subst (λ (qs : Reads). GoodAt m new n (get qs n)) reads (by_gone (GoodAt m new n) w.state.reads read n (λ e. tt) (λ apart. good_still m w (Fetch read link) reply new good fixes (omega (arith, next_is)) still_sound n));
            finished = λ n b wire' note k.
                let e : Finished read (bytes_read after) wire no_note ≡ Finished n b wire' note = sym answer ∙ k in
                let number : read ≡ n = cc in
                let bytes : bytes_read after ≡ b = cc in
                sym bytes ∙ fetched_last m (w.fixed read) r.reader link l got here.read left is count ∙ sym same_fixed ∙ ap new.fixed number;
          }
      done_steps wire (suc left_over) count h =
          let reads : insert w.state.reads read (with_reader r after) ≡ new.state.reads = ap (λ (o : ReadsOutcome). o.1) h in
          let answer = reply_is reply (Fetched read link (suc left_over) wire no_note) (sym (ap (λ (o : ReadsOutcome). o.0) h)) in
          let fresh : IsGoodAt m new read (with_reader r after) = record {
            given = let lt = here.given in omega (arith, lt, next_is);
            read = subst (λ (b : List ℕ). GoodRead m b after) (sym same_fixed) (fetched_good m (w.fixed read) r.reader link l got here.read left is (omega (arith, count)));
            sound = still_sound here.sound;
          } in
          record {
            good = λ n. subst (λ (qs : Reads). GoodAt m new n (get qs n)) reads
                (by_put (GoodAt m new n) w.state.reads read (with_reader r after) n (λ e. subst (λ (k : ℕ). IsGoodAt m new k (with_reader r after)) (sym e) fresh) (λ apart. good_still m w (Fetch read link) reply new good fixes (omega (arith, next_is)) still_sound n));
            finished = λ n b wire' note k. absurd (let e : Fetched read link (suc left_over) wire no_note ≡ Finished n b wire' note = sym answer ∙ k in cc);
          }

    taken_steps : (answer : Result (Unit {0}) Refusal) (next : Reading) → Accepts r.reader link (type_text body.content_type) body.bytes answer next → EndsReads (fetch_taken w.state.reads read link (length body.bytes) r answer next)
    taken_steps (Err why) next a = refused_fetch why
    taken_steps (Ok u) next a =
        subst (λ (x : Reading). EndsReads (fetch_done w.state.reads read link (length body.bytes) (with_reader r x) (count_left x.links))) (sym a.1.1)
        (done_steps a.0 (λ g. got_is m w.state.store l g body a.0 agree sent (subst (λ (o : Option ReadLink). BringsTo o (type_text body.content_type) body.bytes (Ok a.0)) left a.1.0)) (length body.bytes) (count_left (take_link r.reader link a.0).links) refl)

  sent_steps : (r : OpenRead) (l : ReadLink) (a : Result Body Refusal) → get w.state.reads read ≡ Some r → left_link r.reader.links link ≡ Some l → SendsStored w.state.store l.hash (asked_bytes l.ranges) a
      → FetchesBody w.state.reads read link r a (outcome_of reply) new.state.reads → Steps m reply new
  sent_steps r l (Err why) open_it left sent h = refused_fetch why h
  sent_steps r l (Ok body) open_it left sent h = taken_steps r l body open_it left sent h.answer h.after h.accepts h.step

  if_steps : (r : OpenRead) (l : ReadLink) (b : Bool) → get w.state.reads read ≡ Some r → left_link r.reader.links link ≡ Some l → FetchesIf w.state.store w.state.reads read link r l b (outcome_of reply) new.state.reads → Steps m reply new
  if_steps r l true open_it left h = refused_fetch PresignedUrlExpirationError h
  if_steps r l false open_it left h = sent_steps r l h.body open_it left h.sent h.brings

  link_steps : (r : OpenRead) (o : Option ReadLink) → get w.state.reads read ≡ Some r → left_link r.reader.links link ≡ o → FetchesLink w.state.store w.state.reads read link at r o (outcome_of reply) new.state.reads → Steps m reply new
  link_steps r None open_it left h = refused_fetch InvalidArguments h
  link_steps r (Some l) open_it left h = if_steps r l (is_expired at r.stamp w.state.store.expiration) open_it left h

  pub read_steps : (o : Option OpenRead) → get w.state.reads read ≡ o → FetchesRead w.state.store w.state.reads read link at o (outcome_of reply) new.state.reads → Steps m reply new
  read_steps None open_it h = refused_fetch InvalidArguments h
  read_steps (Some r) open_it h = link_steps r (left_link r.reader.links link) open_it refl h

-- ---- abandoned reads

module _ (m : Content) (w : World) (read : ℕ) (reply : Reply) (new : World) (good : Goods m w) (fixes : new.fixed ≡ fixed_after w (Abandon read)) where
  abandon_steps : (o : Option OpenRead) → abandon_read w.state read o ≡ (outcome_of reply, new.state) → Steps m reply new
  abandon_steps None h = same_state m w (Abandon read) reply new good fixes (sym (ap (λ (o : Outcome). o.1) h)) (err_no_finish reply InvalidArguments (sym (ap (λ (o : Outcome). o.0) h)))
  abandon_steps (Some r) h =
      let same : record w.state { reads = remove w.state.reads read } ≡ new.state = ap (λ (o : Outcome). o.1) h in
      let next : w.state.next ≡ new.state.next = ap (λ (t : State). t.next) same in
      record {
        good = λ n. subst (λ (qs : Reads). GoodAt m new n (get qs n)) (ap (λ (t : State). t.reads) same)
            (by_gone (GoodAt m new n) w.state.reads read n (λ e. tt) (λ apart. good_still m w (Abandon read) reply new good fixes (omega (arith, next)) (λ x. subst IsSound (ap (λ (t : State). t.store) same) x) n));
        finished = λ n b wire note k. absurd (other_no_finish reply Done (λ i c v q e. absurd cc) (sym (ap (λ (o : Outcome). o.0) h)) n b wire note k);
      }

-- a query finishes no read
dedup_finishes : (o : Option (List ℕ)) (n : ℕ) (b : List ℕ) (wire : ℕ) (note : CacheNote) → shard_reply o ≡ Finished n b wire note → ⊥
dedup_finishes None n b wire note e = absurd cc
dedup_finishes (Some bytes) n b wire note e = absurd cc

-- ---- all acts

module _ (facts : GoodFacts) (m : Content) where
  pub act_steps : (w : World) (at : ℕ) (reply : Reply) (new : World) → Goods m w → AgreesWith m w.state.store → (act : Act) → new.fixed ≡ fixed_after w act → Acts w.state at act (outcome_of reply) new.state → Steps m reply new
  act_steps w at reply new good agree (UploadXorb hash content) fixes h =
      command_steps (UploadsXorb w.state.store hash content) Uploaded m w (UploadXorb hash content) reply new (λ x n b wire note e. absurd cc) good fixes (λ a k d s. uploads_xorb_sound w.state.store k hash content a d s) h
  act_steps w at reply new good agree (UploadShard content) fixes h =
      command_steps (UploadsShard w.state.store content) ShardTaken m w (UploadShard content) reply new (λ x n b wire note e. absurd cc) good fixes (λ a k d s. uploads_shard_sound w.state.store k content a d s) h
  act_steps w at reply new good agree (Plan version file range) fixes h = plan_steps facts m w version file range at reply new good agree fixes h
  act_steps w at reply new good agree (Fetch read link) fixes h = read_steps m w read link at reply new good agree fixes h.rest (get w.state.reads read) refl h.reads
  act_steps w at reply new good agree (Abandon read) fixes h = abandon_steps m w read reply new good fixes (get w.state.reads read) h
  act_steps w at reply new good agree (HideFile file) fixes h =
      command_steps (Is (hide_file w.state.store file)) was_done m w (HideFile file) reply new (λ x n b wire note e. absurd cc) good fixes (is_sound (hide_file w.state.store file) w.state.store (same_sound w.state.store (hide_file w.state.store file).1 refl refl refl)) h
  act_steps w at reply new good agree (DeleteShard shard) fixes h =
      command_steps (Is (delete_shard w.state.store shard)) was_done m w (DeleteShard shard) reply new (λ x n b wire note e. absurd cc) good fixes (is_sound (delete_shard w.state.store shard) w.state.store (λ s. subst IsSound (delete_leaves w.state.store shard) (without_shard_sound w.state.store shard s))) h
  act_steps w at reply new good agree (DeleteXorb xorb) fixes h =
      command_steps (Is (delete_xorb w.state.store xorb)) was_done m w (DeleteXorb xorb) reply new (λ x n b wire note e. absurd cc) good fixes (is_sound (delete_xorb w.state.store xorb) w.state.store (fewer_sound w.state.store xorb)) h
  act_steps w at reply new good agree (SetExpiration millis) fixes h =
      command_steps (Is (set_expiration w.state.store millis)) was_done m w (SetExpiration millis) reply new (λ x n b wire note e. absurd cc) good fixes (is_sound (set_expiration w.state.store millis) w.state.store (same_sound w.state.store (set_expiration w.state.store millis).1 refl refl refl)) h
  act_steps w at reply new good agree (SetMaxRanges max) fixes h =
      command_steps (Is (set_max_ranges w.state.store max)) was_done m w (SetMaxRanges max) reply new (λ x n b wire note e. absurd cc) good fixes (is_sound (set_max_ranges w.state.store max) w.state.store (set_max_sound w.state.store max)) h
  act_steps w at reply new good agree (SetDedupExpiration millis) fixes h =
      command_steps (Is (set_dedup_expiration w.state.store millis)) was_done m w (SetDedupExpiration millis) reply new (λ x n b wire note e. absurd cc) good fixes (is_sound (set_dedup_expiration w.state.store millis) w.state.store (same_sound w.state.store (set_dedup_expiration w.state.store millis).1 refl refl refl)) h
  act_steps w at reply new good agree (DedupQuery chunk) fixes h = question_steps shard_reply (Ok (dedup_answer w.state.store chunk at)) m w (DedupQuery chunk) reply new dedup_finishes good fixes h
  act_steps w at reply new good agree (RemoveDedup shard) fixes h =
      command_steps (Is (drop_dedup w.state.store shard)) was_done m w (RemoveDedup shard) reply new (λ x n b wire note e. absurd cc) good fixes (is_sound (drop_dedup w.state.store shard) w.state.store (same_sound w.state.store (drop_dedup w.state.store shard).1 refl refl refl)) h
  act_steps w at reply new good agree ListXorbs fixes h = question_steps Hashes (Ok (xorb_hashes w.state.store)) m w ListXorbs reply new (λ x n b wire note e. absurd cc) good fixes h
  act_steps w at reply new good agree ListShards fixes h = question_steps Hashes (Ok (shard_hashes w.state.store)) m w ListShards reply new (λ x n b wire note e. absurd cc) good fixes h
  act_steps w at reply new good agree ListFiles fixes h = question_steps Files (Ok (file_entries w.state.store)) m w ListFiles reply new (λ x n b wire note e. absurd cc) good fixes h
  act_steps w at reply new good agree CheckIntegrity fixes h = question_steps was_done (checked (integrity w.state.store)) m w CheckIntegrity reply new (λ x n b wire note e. absurd cc) good fixes h
  act_steps w at reply new good agree CheckReachable fixes h = question_steps was_done (checked (reachable w.state.store)) m w CheckReachable reply new (λ x n b wire note e. absurd cc) good fixes h
  act_steps w at reply new good agree CheckReadable fixes h = question_steps was_done (checked (readable w.state.store)) m w CheckReadable reply new (λ x n b wire note e. absurd cc) good fixes h
  act_steps w at reply new good agree (InsertRandomXorb seed count size) fixes h =
      command_steps (InsertsSeeded w.state.store seed count size) Random m w (InsertRandomXorb seed count size) reply new (λ x n b wire note e. absurd cc) good fixes (λ a k d s. inserts_sound w.state.store k seed count size a d s) h
  act_steps w at reply new good agree (FileSize file) fixes h = question_steps Size (file_size w.state.store file) m w (FileSize file) reply new (λ x n b wire note e. absurd cc) good fixes h
  act_steps w at reply new good agree (FileData file range) fixes h = question_steps Data (file_data w.state.store file range) m w (FileData file range) reply new (λ x n b wire note e. absurd cc) good fixes h
  act_steps w at reply new good agree (Batch files) fixes h = question_steps batch_reply h.replies.answer m w (Batch files) reply new (λ x n b wire note e. absurd cc) good fixes (batch_asked w.state at files (outcome_of reply) new.state h)
  act_steps w at reply new good agree (InsertLazyFile terms size) fixes h =
      command_steps (InsertsLazy w.state.store terms size) lazy_reply m w (InsertLazyFile terms size) reply new (λ x n b wire note e. absurd cc) good fixes (λ a k d s. lazy_sound w.state.store k terms size a d s) h

  -- a step from good reads leaves good reads, and finishes a read only with its fixed bytes
  pub event_steps : (e : Event) → IsStep e → AgreesWith m e.before.state.store → Goods m e.before → Steps m e.reply e.after
  event_steps e is agree good = elim is.steps.does as (λ _. Steps m e.reply e.after) [
    | inl d ↦ act_steps e.before e.step.at e.reply e.after good agree e.step.act is.fixes d
    | inr f ↦ same_state m e.before e.step.act e.reply e.after good is.fixes f.same (λ n b wire note k. absurd (let g : ◌≡◌ {A = Reply} (Refused IOError) (Finished n b wire note) = sym f.reply_is ∙ k in cc))
  ]

  pub run_finishes : (w : World) (es : List Event) (end : World) → Chain w es end → IsAgreed m es → Goods m w → AllByRecursion Finishes es
  run_finishes w [] end c agree good = tt
  run_finishes w (e ∷ es) end c agree good =
      let s = event_steps e c.1 agree.0.0 (subst (Goods m) (sym c.0) good) in
      (s.finished, run_finishes e.after es end c.2 agree.1 s.good)

-- where no read is open all are good
pub none_good : (m : Content) (w : World) → NoneOpen w.state → Goods m w
none_good m w none n = subst (GoodAt m w n) (sym (ap (λ (rs : Reads). get rs n) none ∙ get-empty nat_cmp n)) tt

pub finishes : GoodFacts → (w : World) (es : List Event) (end : World) → Chain w es end → (m : Content) → NoneOpen w.state → IsAgreed m es → AllByRecursion Finishes es
finishes facts w es end chain m none agree = run_finishes facts m w es end chain agree (none_good m w none)
