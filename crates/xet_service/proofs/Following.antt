-- A read that is followed through a run.
use Rattle.std.proofs.Common.{◌≡◌, ℕ, zero, suc, ◌<◌, true, false, Bool, cond, List, [], ◌∷◌, length, Option, Some, None, Result, Ok, Err, sym, ap, subst, arith}
use Rattle.std.specs.FinMap.{get, insert, remove}
use Rattle.xet_types.specs.Records.{SecondPlan}
use Rattle.xet_types.specs.declared.error.Refusal.{Refusal}
use Rattle.xet_types.specs.declared.error.Refusal.TheVariants.{InvalidArguments, PresignedUrlExpirationError}
use Rattle.xet_types.specs.declared.range.Range.{Range}
use Rattle.xet_types.specs.declared.range._F.{_F}
use Rattle.xet_store.specs.TermData.{is_expired}
use Rattle.xet_service.specs.declared.step.PlanVersion.{PlanVersion}
use Rattle.xet_service.specs.declared.step.Act.{Act}
use Rattle.xet_service.specs.declared.step.Act.TheVariants.{UploadXorb, UploadShard, Plan, Fetch, Abandon, HideFile, DeleteShard, DeleteXorb, SetExpiration, SetMaxRanges, FileSize, FileData, SetDedupExpiration, DedupQuery, RemoveDedup, ListXorbs, ListShards, ListFiles, CheckIntegrity, CheckReachable, CheckReadable, InsertRandomXorb, Batch, InsertLazyFile}
use Rattle.xet_service.specs.declared.reply.Reply.{Reply}
use Rattle.xet_service.specs.declared.read.OpenRead.{OpenRead}
use Rattle.xet_service.specs.declared.reader.link.ReadLink.{ReadLink}
use Rattle.xet_service.specs.Links.{LinkModel, planned_links}
use Rattle.xet_service.specs.Bodies.{Body}
use Rattle.xet_service.specs.Reading.{Reading, left_link, count_left}
use Rattle.xet_service.specs.ReadingPlans.{can_open}
use Rattle.xet_service.specs.World.{State, Reads}
use Rattle.xet_service.specs.Steps.{Outcome, ReadsOutcome, refuses, keeps_reads, used_up, read_of, open_links, plan_step, fetch_done, fetch_taken, with_reader, FetchesBody, FetchesIf, FetchesLink, FetchesRead, abandon_read, Acts}
use Rattle.xet_service.proofs.Left.{by_put, by_gone}

abbrev pub NotNames : ℕ → Act → Type 0
NotNames n (Fetch read link) = read ≡ n → ⊥
NotNames n (Abandon read) = read ≡ n → ⊥
NotNames n act = Unit {0}

module _ (old : State) (at : ℕ) (result : Result Reply Refusal) (new : State) (n : ℕ) (x : OpenRead) (given : n < old.next) (found : get old.reads n ≡ Some x) where
  abbrev IsIn : Reads → Type 0
  IsIn reads = get reads n ≡ Some x

  put_other : (k : ℕ) (r : OpenRead) → (k ≡ n → ⊥) → IsIn (insert old.reads k r)
  put_other k r apart = by_put (λ (o : Option OpenRead). o ≡ Some x) old.reads k r n (λ e. absurd (apart (sym e))) (λ e. found)

  drop_other : (k : ℕ) → (k ≡ n → ⊥) → IsIn (remove old.reads k)
  drop_other k apart = by_gone (λ (o : Option OpenRead). o ≡ Some x) old.reads k n (λ e. absurd (apart (sym e))) (λ e. found)

  by_outcome : (o : Outcome) → IsIn o.1.reads → o ≡ (result, new) → IsIn new.reads
  by_outcome o l h = subst IsIn (ap (λ (p : Outcome). p.1.reads) h) l

  by_reads : (o : ReadsOutcome) → IsIn o.1 → o ≡ (result, new.reads) → IsIn new.reads
  by_reads o l h = subst IsIn (ap (λ (p : ReadsOutcome). p.1) h) l

  links_leave : (version : PlanVersion) (plan : SecondPlan) (range : Option (Range ℕ _F)) (ls : List LinkModel) → IsIn (open_links old version plan range at ls).1.reads
  links_leave version plan range [] = found
  links_leave version plan range (l ∷ ls) = put_other old.next (read_of plan range at) (λ e. absurd (omega (arith, given, e)))

  plan_leaves : (version : PlanVersion) (range : Option (Range ℕ _F)) (r : Result (Option SecondPlan) Refusal) → IsIn (plan_step old version range at r).1.reads
  plan_leaves version range (Err why) = found
  plan_leaves version range (Ok None) = found
  plan_leaves version range (Ok (Some plan)) = of (used_up old.next) (can_open plan)
    where
      of : (b c : Bool) → IsIn (cond b (refuses old InvalidArguments) (cond c (open_links old version plan range at (planned_links plan)) (refuses old InvalidArguments))).1.reads
      of true c = found
      of false true = links_leave version plan range (planned_links plan)
      of false false = found

  module _ (read link : ℕ) (apart : read ≡ n → ⊥) where
    done_leaves : (wire : ℕ) (r : OpenRead) (left : ℕ) → IsIn (fetch_done old.reads read link wire r left).1
    done_leaves wire r zero = drop_other read apart
    done_leaves wire r (suc left) = put_other read r apart

    taken_leaves : (wire : ℕ) (r : OpenRead) (answer : Result (Unit {0}) Refusal) (after : Reading) → IsIn (fetch_taken old.reads read link wire r answer after).1
    taken_leaves wire r (Err why) after = found
    taken_leaves wire r (Ok u) after = done_leaves wire (with_reader r after) (count_left after.links)

    body_leaves : (r : OpenRead) (a : Result Body Refusal) → FetchesBody old.reads read link r a result new.reads → IsIn new.reads
    body_leaves r (Err why) h = by_reads (keeps_reads old.reads why) found h
    body_leaves r (Ok body) h = by_reads _ (taken_leaves (length body.bytes) r h.answer h.after) h.step

    if_leaves : (r : OpenRead) (l : ReadLink) (b : Bool) → FetchesIf old.store old.reads read link r l b result new.reads → IsIn new.reads
    if_leaves r l true h = by_reads (keeps_reads old.reads PresignedUrlExpirationError) found h
    if_leaves r l false h = body_leaves r h.body h.brings

    link_leaves : (r : OpenRead) (o : Option ReadLink) → FetchesLink old.store old.reads read link at r o result new.reads → IsIn new.reads
    link_leaves r None h = by_reads (keeps_reads old.reads InvalidArguments) found h
    link_leaves r (Some l) h = if_leaves r l (is_expired at r.stamp old.store.expiration) h

    read_leaves : (o : Option OpenRead) → FetchesRead old.store old.reads read link at o result new.reads → IsIn new.reads
    read_leaves None h = by_reads (keeps_reads old.reads InvalidArguments) found h
    read_leaves (Some r) h = link_leaves r (left_link r.reader.links link) h

  abandon_leaves : (read : ℕ) → (read ≡ n → ⊥) → (o : Option OpenRead) → IsIn (abandon_read old read o).1.reads
  abandon_leaves read apart None = found
  abandon_leaves read apart (Some r) = drop_other read apart

  same_reads : new ≡ record old { store = new.store } → IsIn new.reads
  same_reads e = subst IsIn (sym (ap (λ (s : State). s.reads) e)) found

  -- a step that doesn't name the read leaves it
  pub stays : (act : Act) → NotNames n act → Acts old at act result new → get new.reads n ≡ Some x
  stays (UploadXorb hash content) other h = same_reads h.rest
  stays (UploadShard content) other h = same_reads h.rest
  stays (Plan version file range) other h = by_outcome _ (plan_leaves version range h.answer) h.step
  stays (Fetch read link) other h = read_leaves read link other (get old.reads read) h.reads
  stays (Abandon read) other h = by_outcome _ (abandon_leaves read other (get old.reads read)) h
  stays (HideFile file) other h = same_reads h.rest
  stays (DeleteShard shard) other h = same_reads h.rest
  stays (DeleteXorb xorb) other h = same_reads h.rest
  stays (SetExpiration millis) other h = same_reads h.rest
  stays (SetDedupExpiration millis) other h = same_reads h.rest
  stays (DedupQuery chunk) other h = by_outcome _ found h
  stays (SetMaxRanges max) other h = same_reads h.rest
  stays (RemoveDedup shard) other h = same_reads h.rest
  stays ListXorbs other h = by_outcome _ found h
  stays ListShards other h = by_outcome _ found h
  stays ListFiles other h = by_outcome _ found h
  stays CheckIntegrity other h = by_outcome _ found h
  stays CheckReachable other h = by_outcome _ found h
  stays CheckReadable other h = by_outcome _ found h
  stays (InsertRandomXorb seed count size) other h = same_reads h.rest
  stays (FileSize file) other h = by_outcome _ found h
  stays (FileData file range) other h = by_outcome _ found h
  stays (Batch files) other h = subst IsIn (sym (ap (λ (s : State). s.reads) h.same)) found
  stays (InsertLazyFile terms size) other h = same_reads h.rest
