use Rattle.std.proofs.Common.{◌∙◌, ℕ, List, ap, subst}
use Rattle.xet_store.specs.Told.{Asks}
use Rattle.xet_store.specs.Commands.{UploadsXorb, UploadsShard, Is, hide_file, delete_xorb, set_expiration, set_max_ranges, set_dedup_expiration, drop_dedup, InsertsSeeded, InsertsLazy}
use Rattle.xet_service.specs.declared.reply.Reply.TheVariants.{Uploaded, ShardTaken, Hashes, Files, Random}
use Rattle.xet_store.specs.Questions.{xorb_hashes}
use Rattle.xet_store.specs.Checks.{checked, integrity, reachable, readable}
use Rattle.xet_store.specs.Lists.{shard_hashes, file_entries}
use Rattle.xet_service.specs.Steps.{was_done, RepliesToAll, lazy_reply}
use Rattle.xet_service.proofs.Doing.{leaves_same, command_does, ask_does, items_do, batch_does}
use Rattle.xet_service.proofs.Serving.{abandon_does}
use Rattle.xet_service.proofs.service.ChunkService.act.Goals as goal

pub returns-in-UploadXorb-clause-told : goal.returns-in-UploadXorb-clause-told
returns-in-UploadXorb-clause-told g c = λ m told.
    let s = c.args.self.now in
    rw (c.in-UploadXorb.is, c.uploaded.ensures.reply)
    (command_does m s.reads s.next (g.K.Client.told c.upload_xorb.new.store) (UploadsXorb m c.in-UploadXorb.hash c.in-UploadXorb.content) Uploaded c.upload_xorb.result (c.upload_xorb.ensures.told m told))

pub returns-in-UploadShard-clause-told : goal.returns-in-UploadShard-clause-told
returns-in-UploadShard-clause-told g c = λ m told.
    let s = c.args.self.now in
    rw (c.in-UploadShard.is, c.shard_taken.ensures.reply)
    (command_does m s.reads s.next (g.K.Client.told c.upload_shard.new.store) (UploadsShard m c.in-UploadShard.content) ShardTaken c.upload_shard.result (c.upload_shard.ensures.told m told))

pub returns-in-HideFile-clause-told : goal.returns-in-HideFile-clause-told
returns-in-HideFile-clause-told g c = λ m told.
    let s = c.args.self.now in
    rw (c.in-HideFile.is, c.done.ensures.reply)
    (command_does m s.reads s.next (g.K.Client.told c.delete_file_entry.new.self) (Is (hide_file m c.in-HideFile.file)) was_done c.delete_file_entry.result (c.delete_file_entry.ensures.told m told))

pub returns-in-DeleteXorb-clause-told : goal.returns-in-DeleteXorb-clause-told
returns-in-DeleteXorb-clause-told g c = λ m told.
    let s = c.args.self.now in
    rw (c.in-DeleteXorb.is, c.done-in-DeleteXorb.ensures.reply)
    (command_does m s.reads s.next (g.K.Client.told c.delete_xorb.new.self) (Is (delete_xorb m c.in-DeleteXorb.xorb)) was_done c.delete_xorb.result (c.delete_xorb.ensures.told m told))

pub returns-in-SetExpiration-clause-told : goal.returns-in-SetExpiration-clause-told
returns-in-SetExpiration-clause-told g c = λ m told.
    let s = c.args.self.now in
    rw (c.in-SetExpiration.is, c.done-in-SetExpiration.ensures.reply)
    (command_does m s.reads s.next (g.K.Client.told c.set_fetch_term_url_expiration.new.self) (Is (set_expiration m c.in-SetExpiration.millis)) was_done c.set_fetch_term_url_expiration.result (c.set_fetch_term_url_expiration.ensures.told m told))

pub returns-in-SetDedupExpiration-clause-told : goal.returns-in-SetDedupExpiration-clause-told
returns-in-SetDedupExpiration-clause-told g c = λ m told.
    let s = c.args.self.now in
    rw (c.in-SetDedupExpiration.is, c.done-in-SetDedupExpiration.ensures.reply)
    (command_does m s.reads s.next (g.K.Client.told c.set_global_dedup_shard_expiration.new.self) (Is (set_dedup_expiration m c.in-SetDedupExpiration.millis)) was_done c.set_global_dedup_shard_expiration.result (c.set_global_dedup_shard_expiration.ensures.told m told))

pub returns-in-SetMaxRanges-clause-told : goal.returns-in-SetMaxRanges-clause-told
returns-in-SetMaxRanges-clause-told g c = λ m told.
    let s = c.args.self.now in
    rw (c.in-SetMaxRanges.is, c.done-in-SetMaxRanges.ensures.reply)
    (command_does m s.reads s.next (g.K.Client.told c.set_max_ranges_per_fetch.new.self) (Is (set_max_ranges m c.in-SetMaxRanges.max)) was_done c.set_max_ranges_per_fetch.result (c.set_max_ranges_per_fetch.ensures.told m told))

pub returns-in-RemoveDedup-clause-told : goal.returns-in-RemoveDedup-clause-told
returns-in-RemoveDedup-clause-told g c = λ m told.
    let s = c.args.self.now in
    rw (c.in-RemoveDedup.is, c.done-in-RemoveDedup.ensures.reply)
    (command_does m s.reads s.next (g.K.Client.told c.remove_shard_dedup_entries.new.self) (Is (drop_dedup m c.in-RemoveDedup.shard)) was_done c.remove_shard_dedup_entries.result (c.remove_shard_dedup_entries.ensures.told m told))

pub returns-in-ListXorbs-clause-told : goal.returns-in-ListXorbs-clause-told
returns-in-ListXorbs-clause-told g c = λ m told.
    let s = c.args.self.now in
    rw (c.in-ListXorbs.is, c.hashes.ensures.reply)
    (leaves_same m _ (g.K.Client.told c.list_xorbs.new.self) (c.list_xorbs.ensures.stays ∙ told)
    (items_do m s.reads s.next (xorb_hashes m) Hashes c.list_xorbs.result (c.list_xorbs.ensures.told m told)))

pub returns-in-ListShards-clause-told : goal.returns-in-ListShards-clause-told
returns-in-ListShards-clause-told g c = λ m told.
    let s = c.args.self.now in
    rw (c.in-ListShards.is, c.hashes-in-ListShards.ensures.reply)
    (leaves_same m _ (g.K.Client.told c.list_shard_entries.new.self) (c.list_shard_entries.ensures.stays ∙ told)
    (items_do m s.reads s.next (shard_hashes m) Hashes c.list_shard_entries.result (c.list_shard_entries.ensures.told m told)))

pub returns-in-ListFiles-clause-told : goal.returns-in-ListFiles-clause-told
returns-in-ListFiles-clause-told g c = λ m told.
    let s = c.args.self.now in
    rw (c.in-ListFiles.is, c.files.ensures.reply)
    (leaves_same m _ (g.K.Client.told c.list_file_shard_entries.new.self) (c.list_file_shard_entries.ensures.stays ∙ told)
    (items_do m s.reads s.next (file_entries m) Files c.list_file_shard_entries.result (c.list_file_shard_entries.ensures.told m told)))

pub returns-in-CheckIntegrity-clause-told : goal.returns-in-CheckIntegrity-clause-told
returns-in-CheckIntegrity-clause-told g c = λ m told.
    let s = c.args.self.now in
    rw (c.in-CheckIntegrity.is, c.done-in-CheckIntegrity.ensures.reply)
    (leaves_same m _ (g.K.Client.told c.verify_integrity.new.self) (c.verify_integrity.ensures.stays ∙ told)
    (ask_does m s.reads s.next (checked (integrity m)) was_done c.verify_integrity.result (c.verify_integrity.ensures.told m told)))

pub returns-in-CheckReachable-clause-told : goal.returns-in-CheckReachable-clause-told
returns-in-CheckReachable-clause-told g c = λ m told.
    let s = c.args.self.now in
    rw (c.in-CheckReachable.is, c.done-in-CheckReachable.ensures.reply)
    (leaves_same m _ (g.K.Client.told c.verify_all_reachable.new.self) (c.verify_all_reachable.ensures.stays ∙ told)
    (ask_does m s.reads s.next (checked (reachable m)) was_done c.verify_all_reachable.result (c.verify_all_reachable.ensures.told m told)))

pub returns-in-CheckReadable-clause-told : goal.returns-in-CheckReadable-clause-told
returns-in-CheckReadable-clause-told g c = λ m told.
    let s = c.args.self.now in
    rw (c.in-CheckReadable.is, c.done-in-CheckReadable.ensures.reply)
    (leaves_same m _ (g.K.Client.told c.verify_readable.new.self) (c.verify_readable.ensures.stays ∙ told)
    (ask_does m s.reads s.next (checked (readable m)) was_done c.verify_readable.result (c.verify_readable.ensures.told m told)))

pub returns-in-Abandon-clause-told : goal.returns-in-Abandon-clause-told
returns-in-Abandon-clause-told g c = λ m told.
    let s = c.args.self.now in
    let after = c.abandon.new.self in
    rw c.in-Abandon.is
    (leaves_same m _ (g.K.Client.told after.store) (ap g.K.Client.told c.abandon.ensures.store ∙ told)
    (abandon_does m s.reads after.reads s.next after.next c.in-Abandon.read c.abandon.result (c.abandon.ensures.abandons m)))

pub returns-in-Fetch-clause-asked : goal.returns-in-Fetch-clause-asked
returns-in-Fetch-clause-asked g c = λ m told e. rw c.in-Fetch.is (c.fetch.ensures.asked m told e)

pub returns-in-InsertRandomXorb-clause-told : goal.returns-in-InsertRandomXorb-clause-told
returns-in-InsertRandomXorb-clause-told g c = λ m told.
    let s = c.args.self.now in
    let a = c.in-InsertRandomXorb in
    rw (a.is, c.random.ensures.reply)
    (command_does m s.reads s.next (g.K.Client.told c.insert_random.new.store) (InsertsSeeded m a.seed a.num_chunks a.chunk_size) Random c.insert_random.result (c.insert_random.ensures.told m told))

pub returns-in-Batch-clause-told : goal.returns-in-Batch-clause-told
returns-in-Batch-clause-told g c = λ m told.
    let s = c.args.self.now in
    rw c.in-Batch.is
    (leaves_same m _ (g.K.Client.told c.ask_batch.new.store) (c.ask_batch.ensures.stays ∙ told)
    (batch_does m s.reads s.next c.in-Batch.files c.args.at c.ask_batch.result
    (subst (λ (files : List (List ℕ)). Asks (RepliesToAll m files c.args.at) c.ask_batch.result) c.as_slice.ensures (c.ask_batch.ensures.told m told))))

pub returns-in-InsertLazyFile-clause-told : goal.returns-in-InsertLazyFile-clause-told
returns-in-InsertLazyFile-clause-told g c = λ m told.
    let s = c.args.self.now in
    let a = c.in-InsertLazyFile in
    let did = c.insert_random_lazy_file.ensures.told m told in
    let done = rw c.as_slice-in-InsertLazyFile.ensures at did in
    rw (a.is, c.lazy.ensures.reply)
    (command_does m s.reads s.next (g.K.Client.told c.insert_random_lazy_file.new.self) (InsertsLazy m a.terms a.chunk_size) lazy_reply c.insert_random_lazy_file.result done)
