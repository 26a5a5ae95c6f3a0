-- An act has one answer, and leaves one state.
use Rattle.std.proofs.Common.{◌≡◌, ◌∙◌, ℕ, inl, inr, true, false, Bool, List, [], ◌∷◌, ◌++◌, length, map, Option, Some, None, Result, Ok, Err, refl, sym, ap, subst}
use Rattle.std.specs.List.{AllByRecursion}
use Rattle.std.specs.FinMap.{get}
use Rattle.xet_types.specs.declared.error.Refusal.{Refusal}
use Rattle.xet_types.specs.declared.error.Refusal.TheVariants.{FormatError, InvalidArguments, XORBNotFound, PresignedUrlExpirationError, Other}
use Rattle.xet_types.specs.declared.error.FormatFault.TheVariants as faults
use Rattle.xet_types.specs.declared.range.Range.{Range}
use Rattle.xet_types.specs.declared.range._F.{_F}
use Rattle.xet_types.specs.declared.record.XorbRangeDescriptor.{XorbRangeDescriptor}
use Rattle.xet_types.specs.Ranges.{file_range_of}
use Rattle.xet_types.specs.Records.{SecondPlan, BatchPlan}
use Rattle.xet_xorb.specs.Lengths.{serialized_length}
use Rattle.xet_xorb.specs.ChunkLists.{lengths_of}
use Rattle.xet_xorb.specs.Generated.{seeded_chunks}
use Rattle.xet_xorb.specs.XorbBytes.{AreWholeChunks}
use Rattle.xet_xorb.proofs.Footing.{IsXorbText-unique}
use Rattle.xet_xorb.proofs.WholeText.{AreWholeChunks-unique}
use Rattle.xet_shard.specs.Listings.{ShardModel}
use Rattle.xet_shard.specs.Canonical.{canonical_of}
use Rattle.xet_shard.specs.declared.listing.Segment.{Segment}
use Rattle.xet_shard.specs.Values.{size_of}
use Rattle.xet_shard.proofs.ShardLaws.{read_from_text}
use Rattle.xet_plan.specs.Places.{Interval, interval, Known, reach}
use Rattle.xet_plan.specs.declared.place.Reach.{Reach}
use Rattle.xet_plan.specs.declared.place.Reach.TheVariants.{Past, Reversed, Within}
use Rattle.xet_plan.specs.declared.runs.MergedRange.{MergedRange}
use Rattle.xet_types.specs.Names.{xorb_name}
use Rattle.xet_plan.specs.Runs.{Group}
use Rattle.xet_plan.specs.Merging.{Ranges, RangeAt, RangesAt, group_of, chunks_part}
use Rattle.xet_plan.specs.MetChunks.{Has, met_chunks}
use Rattle.xet_plan.specs.Plans.{PlanModel}
use Rattle.xet_plan.specs.Answers.{packed_at, groups_of}
use Rattle.xet_plan.proofs.Unique.{merged_unique}
use Rattle.xet_store.specs.StoreModel.{StoreModel, Chunks, stored, listing, known_of, with_xorb, accepted}
use Rattle.xet_generated.specs.Terms.{Term}
use Rattle.xet_generated.specs.Contents.{FileModel}
use Rattle.xet_store.specs.Commands.{Outcome as StoreOutcome, Is, UploadsXorb, UploadsOver, UploadsFresh, UploadsShard, hide_file, delete_shard, delete_xorb, set_expiration, set_max_ranges, set_dedup_expiration, drop_dedup, insert_xorb, InsertsSeeded, InsertsLazy}
use Rattle.xet_store.specs.TermData.{is_expired}
use Rattle.xet_store.specs.Questions.{file_size, file_data, dedup_answer, xorb_hashes}
use Rattle.xet_store.specs.Lists.{shard_hashes, file_entries}
use Rattle.xet_store.specs.Checks.{checked, integrity, reachable, readable}
use Rattle.xet_store.specs.Plans.{Serves, PlansFile, PlansSoundly, PlansListed, PlansReached, PlansWithin}
use Rattle.xet_store.specs.Responses.{response_by, RespondsBy}
use Rattle.xet_store.specs.Batches.{PlansModel, FileAnswer, answered_file, whole_file, IsAnswered, plans_in, plans_of, PlansAll, batch_by, RespondsToAll}
use Rattle.xet_service.specs.declared.step.Act.{Act}
use Rattle.xet_service.specs.declared.step.Act.TheVariants.{UploadXorb, UploadShard, Plan, Fetch, Abandon, HideFile, DeleteShard, DeleteXorb, SetExpiration, SetMaxRanges, FileSize, FileData, SetDedupExpiration, DedupQuery, RemoveDedup, ListXorbs, ListShards, ListFiles, CheckIntegrity, CheckReachable, CheckReadable, InsertRandomXorb, Batch, InsertLazyFile}
use Rattle.xet_service.specs.declared.step.PlanVersion.{PlanVersion}
use Rattle.xet_service.specs.declared.reply.Reply.{Reply}
use Rattle.xet_service.specs.declared.reply.Reply.TheVariants.{Uploaded, ShardTaken, Size, Data, Hashes, Files, Random}
use Rattle.xet_service.specs.declared.read.OpenRead.{OpenRead}
use Rattle.xet_service.specs.declared.reader.link.ReadLink.{ReadLink}
use Rattle.xet_service.specs.Bodies.{Body, type_text}
use Rattle.xet_service.specs.Links.{answer_of}
use Rattle.xet_service.specs.Reading.{Reading, left_link, take_link, Accepts}
use Rattle.xet_service.proofs.ReaderAnswers.{gives_same}
use Rattle.xet_service.proofs.Sent.{stored_sent_once}
use Rattle.xet_service.specs.World.{State, Reads}
use Rattle.xet_service.specs.Steps.{keeps_reads, plan_step, fetch_taken, asked_bytes, TakesBody, FetchesBody, FetchesIf, FetchesLink, FetchesRead, Fetches, abandon_step, map_ok, asks, was_done, Commands, PlansBy, Acts, shard_reply, batch_reply, BatchesBy, lazy_reply}

-- one answer and one thing left
abbrev pub Same : {X Y : Type 0} → X → X → Y → Y → Type 0
Same a b x y = (a ≡ b) × (x ≡ y)

pair_same : {X Y : Type 0} (o : X × Y) (a b : X) (x y : Y) → o ≡ (a, x) → o ≡ (b, y) → Same a b x y
pair_same o a b x y h k = (sym (ap (λ (p : _ × _). p.0) h) ∙ ap (λ (p : _ × _). p.0) k, sym (ap (λ (p : _ × _). p.1) h) ∙ ap (λ (p : _ × _). p.1) k)

abbrev some_shard : ShardModel → Option ShardModel
some_shard s = Some s

-- ---- uploads

module _ (old : StoreModel) (hash content : List ℕ) (n k : StoreModel) where
  fresh_same : (a b : Result ℕ Refusal) → UploadsFresh old hash content a n → UploadsFresh old hash content b k → Same a b n k
  fresh_same (Ok x) (Ok y) h g =
      let one : h.chunks ≡ g.chunks = (IsXorbText-unique content h.chunks g.chunks h.spelled g.spelled).chunks in
      (ap Ok (h.length ∙ ap (λ (cs : Chunks). serialized_length (lengths_of cs)) one ∙ sym g.length), h.stored ∙ ap (with_xorb old hash) one ∙ sym g.stored)
  fresh_same (Ok x) (Err (FormatError faults.Xorb)) h g = absurd (g.0 h.chunks h.spelled)
  fresh_same (Ok x) (Err Other) h g = absurd (g.0.misnamed (ap xorb_name (IsXorbText-unique content g.0.chunks h.chunks g.0.spelled h.spelled).chunks ∙ h.named))
  fresh_same (Ok x) (Err why) h g = absurd g
  fresh_same (Err (FormatError faults.Xorb)) (Ok y) h g = absurd (h.0 g.chunks g.spelled)
  fresh_same (Err (FormatError faults.Xorb)) (Err (FormatError faults.Xorb)) h g = (refl, h.1 ∙ sym g.1)
  fresh_same (Err (FormatError faults.Xorb)) (Err Other) h g = absurd (h.0 g.0.chunks g.0.spelled)
  fresh_same (Err (FormatError faults.Xorb)) (Err why) h g = absurd g
  fresh_same (Err Other) (Ok y) h g = absurd (h.0.misnamed (ap xorb_name (IsXorbText-unique content h.0.chunks g.chunks h.0.spelled g.spelled).chunks ∙ g.named))
  fresh_same (Err Other) (Err (FormatError faults.Xorb)) h g = absurd (g.0 h.0.chunks h.0.spelled)
  fresh_same (Err Other) (Err Other) h g = (refl, h.1 ∙ sym g.1)
  fresh_same (Err Other) (Err why) h g = absurd g
  fresh_same (Err why) b h g = absurd h

  over_same : (o : Option Chunks) (a b : Result ℕ Refusal) → UploadsOver o old hash content a n → UploadsOver o old hash content b k → Same a b n k
  over_same (Some chunks) a b h g = (h.0 ∙ sym g.0, h.1 ∙ sym g.1)
  over_same None a b h g = fresh_same a b h g

  pub xorb_same : (a b : Result ℕ Refusal) → UploadsXorb old hash content a n → UploadsXorb old hash content b k → Same a b n k
  xorb_same a b h g = over_same (stored old hash) a b h g

module _ (old : StoreModel) (content : List ℕ) (n k : StoreModel) where
  pub shard_same : (a b : Result Bool Refusal) → UploadsShard old content a n → UploadsShard old content b k → Same a b n k
  shard_same (Ok x) (Ok y) h g =
      let both : Some h.1.shard ≡ some_shard g.1.shard = sym (read_from_text content h.1.shard h.1.spelled) ∙ read_from_text content g.1.shard g.1.spelled in
      let one : h.1.shard ≡ g.1.shard = cc in
      (ap Ok (h.0 ∙ sym g.0), h.1.accepted ∙ ap (λ (s : ShardModel). accepted old (canonical_of s)) one ∙ sym g.1.accepted)
  shard_same (Ok x) (Err (FormatError faults.Shard)) h g = absurd (g.0 h.1.shard h.1.spelled)
  shard_same (Ok x) (Err why) h g = absurd g
  shard_same (Err (FormatError faults.Shard)) (Ok y) h g = absurd (h.0 g.1.shard g.1.spelled)
  shard_same (Err (FormatError faults.Shard)) (Err (FormatError faults.Shard)) h g = (refl, h.1 ∙ sym g.1)
  shard_same (Err (FormatError faults.Shard)) (Err why) h g = absurd g
  shard_same (Err why) b h g = absurd h

is_same : {T : Type 0} (o : StoreOutcome T) (n k : StoreModel) (a b : Result T Refusal) → Is o a n → Is o b k → Same a b n k
is_same o n k a b h g = (h.0 ∙ sym g.0, h.1 ∙ sym g.1)

module _ (old : StoreModel) (seed count size : ℕ) (n k : StoreModel) where
  pub inserts_same : (a b : Result (List ℕ) Refusal) → InsertsSeeded old seed count size a n → InsertsSeeded old seed count size b k → Same a b n k
  inserts_same (Ok x) (Ok y) h g = is_same (insert_xorb old (seeded_chunks seed count size)) n k (Ok x) (Ok y) h.1 g.1
  inserts_same (Ok x) (Err InvalidArguments) h g = absurd (g.0 h.0)
  inserts_same (Ok x) (Err why) h g = absurd g
  inserts_same (Err InvalidArguments) (Ok y) h g = absurd (h.0 g.0)
  inserts_same (Err InvalidArguments) (Err InvalidArguments) h g = (refl, h.1 ∙ sym g.1)
  inserts_same (Err InvalidArguments) (Err why) h g = absurd g
  inserts_same (Err why) b h g = absurd h

module _ (old : StoreModel) (terms : List Term) (size : ℕ) (n k : StoreModel) where
  pub lazy_same : (a b : Result FileModel Refusal) → InsertsLazy old terms size a n → InsertsLazy old terms size b k → Same a b n k
  lazy_same (Ok x) (Ok y) h g = (ap Ok (h.1 ∙ sym g.1), h.2 ∙ sym g.2)
  lazy_same (Ok x) (Err InvalidArguments) h g = absurd (g.0 h.0)
  lazy_same (Ok x) (Err why) h g = absurd g
  lazy_same (Err InvalidArguments) (Ok y) h g = absurd (h.0 g.0)
  lazy_same (Err InvalidArguments) (Err InvalidArguments) h g = (refl, h.1 ∙ sym g.1)
  lazy_same (Err InvalidArguments) (Err why) h g = absurd g
  lazy_same (Err why) b h g = absurd h

-- ---- commands

command_same : {T : Type 0} (D : Result T Refusal → StoreModel → Type 0) (f : T → Reply) (s t u : State) (r q : Result Reply Refusal) → ((n k : StoreModel) (a b : Result T Refusal) → D a n → D b k → Same a b n k) → Commands D f s r t → Commands D f s q u → Same r q t u
command_same D f s t u r q one h g =
    let same = one t.store u.store h.answer g.answer h.does g.does in
    (h.reply ∙ ap (map_ok f) same.0 ∙ sym g.reply, h.rest ∙ ap (λ (m : StoreModel). record s { store = m }) same.1 ∙ sym g.rest)

-- ---- plans

ranges_same : (f : List ℕ → ℕ → ℕ) (h : List ℕ) (rs qs : List MergedRange) → map chunks_part rs ≡ map chunks_part qs → AllByRecursion (RangeAt f h) rs → AllByRecursion (RangeAt f h) qs → rs ≡ qs
ranges_same f h [] [] e a b = refl
ranges_same f h [] (q ∷ qs) e a b = absurd cc
ranges_same f h (r ∷ rs) [] e a b = absurd cc
ranges_same f h (r ∷ rs) (q ∷ qs) e a b =
    let head : chunks_part r ≡ chunks_part q = cc in
    let tail : map chunks_part rs ≡ map chunks_part qs = cc in
    let start : r.chunk_range.start ≡ q.chunk_range.start = ap (λ (i : Interval). i.start) head in
    let end : r.chunk_range.end ≡ q.chunk_range.end = ap (λ (i : Interval). i.end) head in
    let first : r.byte_range.start ≡ q.byte_range.start = a.0.0 ∙ ap (f h) start ∙ sym b.0.0 in
    let last : r.byte_range.end ≡ q.byte_range.end = a.0.1 ∙ ap (f h) end ∙ sym b.0.1 in
    let one : r ≡ q = rw (start, end, first, last) refl in
    rw (one, ranges_same f h rs qs tail a.1 b.1) refl

groups_same : (f : List ℕ → ℕ → ℕ) (gs fs : List Ranges) → map group_of gs ≡ map group_of fs → AllByRecursion (RangesAt f) gs → AllByRecursion (RangesAt f) fs → gs ≡ fs
groups_same f [] [] e a b = refl
groups_same f [] (q ∷ qs) e a b = absurd cc
groups_same f (r ∷ rs) [] e a b = absurd cc
groups_same f (r ∷ rs) (q ∷ qs) e a b =
    let head : group_of r ≡ group_of q = cc in
    let tail : map group_of rs ≡ map group_of qs = cc in
    let hash : r.0 ≡ q.0 = ap (λ (g : Group). g.hash) head in
    let ranges : r.1 ≡ q.1 = ranges_same f q.0 r.1 q.1 (ap (λ (g : Group). g.ranges) head) (subst (λ (h : List ℕ). AllByRecursion (RangeAt f h) r.1) hash a.0) b.0 in
    let one : r ≡ q = ap (λ (h : List ℕ). (h, r.1)) hash ∙ ap (λ (rs : List MergedRange). (q.0, rs)) ranges in
    rw (one, groups_same f rs qs tail a.1 b.1) refl

module _ (known : Known) (segments : List Segment) (range : Option (Range ℕ _F)) (clip : Interval) where
  plan_same : (plan other : PlanModel) → Serves known segments range clip plan → Serves known segments range clip other → plan ≡ other
  plan_same plan other h g =
      let p = h.planned in
      let q = g.planned in
      let terms : plan.terms ≡ other.terms = p.terms ∙ sym q.terms in
      let offset : plan.offset_into_first_range ≡ other.offset_into_first_range = p.offset ∙ sym q.offset in
      let merged : plan.merged ≡ other.merged = groups_same (packed_at known) plan.merged other.merged (merged_unique (Has (met_chunks known clip segments)) (groups_of plan) (groups_of other) p.merged q.merged) p.bytes q.bytes in
      rw (terms, offset, merged) refl

  within_same : (a b : Result (Option PlanModel) Refusal) → PlansWithin known segments range clip a → PlansWithin known segments range clip b → a ≡ b
  within_same (Ok (Some plan)) (Ok (Some other)) h g = ap (λ (p : PlanModel). Ok (Some p)) (plan_same plan other h g)
  within_same (Ok (Some plan)) (Ok None) h g = absurd g
  within_same (Ok (Some plan)) (Err (XORBNotFound x)) h g = absurd (let f : None ≡ Some (XORBNotFound x) = sym h.faultless ∙ g in cc)
  within_same (Ok (Some plan)) (Err (FormatError faults.Segment)) h g = absurd (let f : None ≡ Some (FormatError faults.Segment) = sym h.faultless ∙ g in cc)
  within_same (Ok (Some plan)) (Err why) h g = absurd g
  within_same (Ok None) b h g = absurd h
  within_same (Err (XORBNotFound x)) (Ok (Some other)) h g = absurd (let f : None ≡ Some (XORBNotFound x) = sym g.faultless ∙ h in cc)
  within_same (Err (XORBNotFound x)) (Ok None) h g = absurd g
  within_same (Err (XORBNotFound x)) (Err (XORBNotFound y)) h g = let f : Some (XORBNotFound x) ≡ Some (XORBNotFound y) = sym h ∙ g in cc
  within_same (Err (XORBNotFound x)) (Err (FormatError faults.Segment)) h g = absurd (let f : Some (XORBNotFound x) ≡ Some (FormatError faults.Segment) = sym h ∙ g in cc)
  within_same (Err (XORBNotFound x)) (Err why) h g = absurd g
  within_same (Err (FormatError faults.Segment)) (Ok (Some other)) h g = absurd (let f : None ≡ Some (FormatError faults.Segment) = sym g.faultless ∙ h in cc)
  within_same (Err (FormatError faults.Segment)) (Ok None) h g = absurd g
  within_same (Err (FormatError faults.Segment)) (Err (XORBNotFound y)) h g = absurd (let f : Some (FormatError faults.Segment) ≡ Some (XORBNotFound y) = sym h ∙ g in cc)
  within_same (Err (FormatError faults.Segment)) (Err (FormatError faults.Segment)) h g = refl
  within_same (Err (FormatError faults.Segment)) (Err why) h g = absurd g
  within_same (Err why) b h g = absurd h

reached_same : (known : Known) (segments : List Segment) (range : Option (Range ℕ _F)) (z : Reach) (a b : Result (Option PlanModel) Refusal) → PlansReached known segments range z a → PlansReached known segments range z b → a ≡ b
reached_same known segments range Past a b h g = h ∙ sym g
reached_same known segments range Reversed a b h g = h ∙ sym g
reached_same known segments range (Within start end) a b h g = within_same known segments range (interval start end) a b h g

listed_same : (known : Known) (range : Option (Range ℕ _F)) (o : Option (List Segment)) (a b : Result (Option PlanModel) Refusal) → PlansListed known range o a → PlansListed known range o b → a ≡ b
listed_same known range None a b h g = h ∙ sym g
listed_same known range (Some segments) a b h g = reached_same known segments range (reach (size_of segments) range) a b h g

responds_same : {A : Type 0} (f : PlanModel → A) (m : StoreModel) (file : List ℕ) (range : Option (Range ℕ _F)) (a b : Result (Option A) Refusal) → RespondsBy f m file range a → RespondsBy f m file range b → a ≡ b
responds_same f m file range a b h g = h.response ∙ ap (response_by f) (listed_same (known_of m) range (listing m file) h.answer g.answer h.plans g.plans) ∙ sym g.response

plans_same : (s t u : State) (version : PlanVersion) (file : List ℕ) (range : Option (Range ℕ _F)) (at : ℕ) (r q : Result Reply Refusal) → PlansBy s version file range at r t → PlansBy s version file range at q u → Same r q t u
plans_same s t u version file range at r q h g =
    pair_same (plan_step s version range at h.answer) r q t u h.step (ap (plan_step s version range at) (responds_same (answer_of version s.store.max_ranges at) s.store file range h.answer g.answer h.responds g.responds) ∙ g.step)

-- ---- plans of several files

abbrev ok_plan : Option PlanModel → Result (Option PlanModel) Refusal
ok_plan o = Ok o

abbrev err_plan : Refusal → Result (Option PlanModel) Refusal
err_plan why = Err why

abbrev ok_plans : PlansModel → Result PlansModel Refusal
ok_plans p = Ok p

module _ (m : StoreModel) where
  abbrev AllAnswered : List FileAnswer → Type 0
  AllAnswered answers = AllByRecursion (IsAnswered m) answers

  first_same : (f g : List ℕ) (a b : Result (Option PlanModel) Refusal) → f ≡ g → PlansSoundly m f whole_file a → PlansSoundly m g whole_file b → a ≡ b
  first_same f g a b e h k = listed_same (known_of m) whole_file (listing m g) a b (subst (λ (file : List ℕ). PlansFile m file whole_file a) e h.plans) k.plans

  answers_same : (xs ys : List FileAnswer) → map answered_file xs ≡ map answered_file ys → AllAnswered xs → AllAnswered ys → xs ≡ ys
  answers_same [] [] e h k = refl
  answers_same [] (b ∷ ys) e h k = absurd cc
  answers_same (a ∷ xs) [] e h k = absurd cc
  answers_same (a ∷ xs) (b ∷ ys) e h k =
      let head : a.0 ≡ b.0 = cc in
      let tail : map answered_file xs ≡ map answered_file ys = cc in
      let both : ok_plan a.1 ≡ ok_plan b.1 = first_same a.0 b.0 (ok_plan a.1) (ok_plan b.1) head h.0 k.0 in
      let plan : a.1 ≡ b.1 = cc in
      let one : a ≡ b = λ j. (head j, plan j) in
      rw (one, answers_same xs ys tail h.1 k.1) refl

  -- the first that is refused is one
  one_refused : (xs ys : List FileAnswer) (f g : List ℕ) (more rest : List (List ℕ)) (v w : Refusal) → map answered_file xs ++ f ∷ more ≡ map answered_file ys ++ g ∷ rest → AllAnswered xs → AllAnswered ys
      → PlansSoundly m f whole_file (Err v) → PlansSoundly m g whole_file (Err w) → v ≡ w
  one_refused [] [] f g more rest v w e h k p q =
      let head : f ≡ g = cc in
      let both : err_plan v ≡ err_plan w = first_same f g (err_plan v) (err_plan w) head p q in
      cc
  one_refused [] (b ∷ ys) f g more rest v w e h k p q =
      let head : f ≡ b.0 = cc in
      absurd (let both : err_plan v ≡ ok_plan b.1 = first_same f b.0 (err_plan v) (ok_plan b.1) head p k.0 in cc)
  one_refused (a ∷ xs) [] f g more rest v w e h k p q =
      let head : a.0 ≡ g = cc in
      absurd (let both : ok_plan a.1 ≡ err_plan w = first_same a.0 g (ok_plan a.1) (err_plan w) head h.0 q in cc)
  one_refused (a ∷ xs) (b ∷ ys) f g more rest v w e h k p q =
      let tail : map answered_file xs ++ f ∷ more ≡ map answered_file ys ++ g ∷ rest = cc in
      one_refused xs ys f g more rest v w tail h.1 k.1 p q

  -- where all are answered none is refused
  none_refused : (xs ys : List FileAnswer) (g : List ℕ) (rest : List (List ℕ)) (w : Refusal) → map answered_file xs ≡ map answered_file ys ++ g ∷ rest → AllAnswered xs → AllAnswered ys → PlansSoundly m g whole_file (Err w) → ⊥
  none_refused [] [] g rest w e h k q = absurd cc
  none_refused [] (b ∷ ys) g rest w e h k q = absurd cc
  none_refused (a ∷ xs) [] g rest w e h k q =
      let head : a.0 ≡ g = cc in
      absurd (let both : ok_plan a.1 ≡ err_plan w = first_same a.0 g (ok_plan a.1) (err_plan w) head h.0 q in cc)
  none_refused (a ∷ xs) (b ∷ ys) g rest w e h k q =
      let tail : map answered_file xs ≡ map answered_file ys ++ g ∷ rest = cc in
      none_refused xs ys g rest w tail h.1 k.1 q

  all_same : (files : List (List ℕ)) (a b : Result PlansModel Refusal) → PlansAll m files a → PlansAll m files b → a ≡ b
  all_same files (Ok x) (Ok y) h k = ap ok_plans (h.are ∙ ap (λ (xs : List FileAnswer). plans_of (plans_in xs)) (answers_same h.answers k.answers (sym h.of_files ∙ k.of_files) h.each k.each) ∙ sym k.are)
  all_same files (Ok x) (Err w) h k = absurd (none_refused h.answers k.answers k.file k.after w (sym h.of_files ∙ k.of_files) h.each k.each k.refused)
  all_same files (Err v) (Ok y) h k = absurd (none_refused k.answers h.answers h.file h.after v (sym k.of_files ∙ h.of_files) k.each h.each h.refused)
  all_same files (Err v) (Err w) h k = ap Err (one_refused h.answers k.answers h.file k.file h.after k.after v w (sym h.of_files ∙ k.of_files) h.each k.each h.refused k.refused)

batch_same : (m : StoreModel) (files : List (List ℕ)) (at : ℕ) (a b : Result BatchPlan Refusal) → RespondsToAll m files at a → RespondsToAll m files at b → a ≡ b
batch_same m files at a b h k = h.response ∙ ap (batch_by at) (all_same m files h.answer k.answer h.plans k.plans) ∙ sym k.response

batches_same : (s t u : State) (files : List (List ℕ)) (at : ℕ) (r q : Result Reply Refusal) → BatchesBy s files at r t → BatchesBy s files at q u → Same r q t u
batches_same s t u files at r q h k =
    (h.replies.reply ∙ ap (map_ok batch_reply) (batch_same s.store files at h.replies.answer k.replies.answer h.replies.responds k.replies.responds) ∙ sym k.replies.reply, h.same ∙ sym k.same)

-- ---- fetches

abbrev ok_chunks : List Chunks → Result (List Chunks) Refusal
ok_chunks got = Ok got

abbrev err_chunks : Refusal → Result (List Chunks) Refusal
err_chunks why = Err why

accepts_same : (old : Reading) (n : ℕ) (content_type body : List ℕ) (a b : Result (Unit {0}) Refusal) (x y : Reading) → Accepts old n content_type body a x → Accepts old n content_type body b y → Same a b x y
accepts_same old n content_type body (Ok u) (Ok v) x y h g =
    let both : ok_chunks h.0 ≡ ok_chunks g.0 = gives_same (left_link old.links n) content_type body (Ok h.0) (Ok g.0) h.1.0 g.1.0 in
    let one : h.0 ≡ g.0 = cc in
    (refl, h.1.1 ∙ ap (take_link old n) one ∙ sym g.1.1)
accepts_same old n content_type body (Ok u) (Err why) x y h g = absurd (let both : ok_chunks h.0 ≡ err_chunks why = gives_same (left_link old.links n) content_type body (Ok h.0) (Err why) h.1.0 g.0 in cc)
accepts_same old n content_type body (Err why) (Ok v) x y h g = absurd (let both : err_chunks why ≡ ok_chunks g.0 = gives_same (left_link old.links n) content_type body (Err why) (Ok g.0) h.0 g.1.0 in cc)
accepts_same old n content_type body (Err why) (Err other) x y h g =
    let both : err_chunks why ≡ err_chunks other = gives_same (left_link old.links n) content_type body (Err why) (Err other) h.0 g.0 in
    let one : why ≡ other = cc in
    (ap Err one, h.1 ∙ sym g.1)

module _ (store : StoreModel) (old : Reads) (read link at : ℕ) (r q : Result Reply Refusal) (x y : Reads) where
  refused_same : (why : Refusal) → keeps_reads old why ≡ (r, x) → keeps_reads old why ≡ (q, y) → Same r q x y
  refused_same why h g = pair_same (keeps_reads old why) r q x y h g

  takes_same : (o : OpenRead) (body : Body) → TakesBody old read link o body r x → TakesBody old read link o body q y → Same r q x y
  takes_same o body h g =
      let one = accepts_same o.reader link (type_text body.content_type) body.bytes h.answer g.answer h.after g.after h.accepts g.accepts in
      pair_same (fetch_taken old read link (length body.bytes) o h.answer h.after) r q x y h.step
      (ap (λ (a : Result (Unit {0}) Refusal). fetch_taken old read link (length body.bytes) o a h.after) one.0 ∙ ap (fetch_taken old read link (length body.bytes) o g.answer) one.1 ∙ g.step)

  body_same : (o : OpenRead) (a : Result Body Refusal) → FetchesBody old read link o a r x → FetchesBody old read link o a q y → Same r q x y
  body_same o (Ok body) h g = takes_same o body h g
  body_same o (Err why) h g = refused_same why h g

  if_same : (o : OpenRead) (l : ReadLink) (b : Bool) → FetchesIf store old read link o l b r x → FetchesIf store old read link o l b q y → Same r q x y
  if_same o l true h g = refused_same PresignedUrlExpirationError h g
  if_same o l false h g = body_same o g.body (subst (λ (a : Result Body Refusal). FetchesBody old read link o a r x) (stored_sent_once store l.hash (asked_bytes l.ranges) h.body g.body h.sent g.sent) h.brings) g.brings

  link_same : (o : OpenRead) (l : Option ReadLink) → FetchesLink store old read link at o l r x → FetchesLink store old read link at o l q y → Same r q x y
  link_same o None h g = refused_same InvalidArguments h g
  link_same o (Some l) h g = if_same o l (is_expired at o.stamp store.expiration) h g

  pub read_same : (o : Option OpenRead) → FetchesRead store old read link at o r x → FetchesRead store old read link at o q y → Same r q x y
  read_same None h g = refused_same InvalidArguments h g
  read_same (Some o) h g = link_same o (left_link o.reader.links link) h g

fetches_same : (s t u : State) (read link at : ℕ) (r q : Result Reply Refusal) → Fetches s read link at r t → Fetches s read link at q u → Same r q t u
fetches_same s t u read link at r q h g =
    let one = read_same s.store s.reads read link at r q t.reads u.reads (get s.reads read) h.reads g.reads in
    (one.0, h.rest ∙ ap (λ (m : Reads). record s { reads = m }) one.1 ∙ sym g.rest)

-- ---- all acts

pub acts_same : (s t u : State) (at : ℕ) (act : Act) (r q : Result Reply Refusal) → Acts s at act r t → Acts s at act q u → Same r q t u
acts_same s t u at (UploadXorb hash content) r q h g = command_same (UploadsXorb s.store hash content) Uploaded s t u r q (λ n k a b. xorb_same s.store hash content n k a b) h g
acts_same s t u at (UploadShard content) r q h g = command_same (UploadsShard s.store content) ShardTaken s t u r q (λ n k a b. shard_same s.store content n k a b) h g
acts_same s t u at (Plan version file range) r q h g = plans_same s t u version file range at r q h g
acts_same s t u at (Fetch read link) r q h g = fetches_same s t u read link at r q h g
acts_same s t u at (Abandon read) r q h g = pair_same (abandon_step s read) r q t u h g
acts_same s t u at (HideFile file) r q h g = command_same (Is (hide_file s.store file)) was_done s t u r q (is_same (hide_file s.store file)) h g
acts_same s t u at (DeleteShard shard) r q h g = command_same (Is (delete_shard s.store shard)) was_done s t u r q (is_same (delete_shard s.store shard)) h g
acts_same s t u at (DeleteXorb xorb) r q h g = command_same (Is (delete_xorb s.store xorb)) was_done s t u r q (is_same (delete_xorb s.store xorb)) h g
acts_same s t u at (SetExpiration millis) r q h g = command_same (Is (set_expiration s.store millis)) was_done s t u r q (is_same (set_expiration s.store millis)) h g
acts_same s t u at (SetDedupExpiration millis) r q h g = command_same (Is (set_dedup_expiration s.store millis)) was_done s t u r q (is_same (set_dedup_expiration s.store millis)) h g
acts_same s t u at (DedupQuery chunk) r q h g = pair_same (asks shard_reply s (Ok (dedup_answer s.store chunk at))) r q t u h g
acts_same s t u at (SetMaxRanges max) r q h g = command_same (Is (set_max_ranges s.store max)) was_done s t u r q (is_same (set_max_ranges s.store max)) h g
acts_same s t u at (RemoveDedup shard) r q h g = command_same (Is (drop_dedup s.store shard)) was_done s t u r q (is_same (drop_dedup s.store shard)) h g
acts_same s t u at ListXorbs r q h g = pair_same (asks Hashes s (Ok (xorb_hashes s.store))) r q t u h g
acts_same s t u at ListShards r q h g = pair_same (asks Hashes s (Ok (shard_hashes s.store))) r q t u h g
acts_same s t u at ListFiles r q h g = pair_same (asks Files s (Ok (file_entries s.store))) r q t u h g
acts_same s t u at CheckIntegrity r q h g = pair_same (asks was_done s (checked (integrity s.store))) r q t u h g
acts_same s t u at CheckReachable r q h g = pair_same (asks was_done s (checked (reachable s.store))) r q t u h g
acts_same s t u at CheckReadable r q h g = pair_same (asks was_done s (checked (readable s.store))) r q t u h g
acts_same s t u at (InsertRandomXorb seed count size) r q h g = command_same (InsertsSeeded s.store seed count size) Random s t u r q (λ n k a b. inserts_same s.store seed count size n k a b) h g
acts_same s t u at (FileSize file) r q h g = pair_same (asks Size s (file_size s.store file)) r q t u h g
acts_same s t u at (FileData file range) r q h g = pair_same (asks Data s (file_data s.store file range)) r q t u h g
acts_same s t u at (Batch files) r q h g = batches_same s t u files at r q h g
acts_same s t u at (InsertLazyFile terms size) r q h g = command_same (InsertsLazy s.store terms size) lazy_reply s t u r q (λ n k a b. lazy_same s.store terms size n k a b) h g
