use Rattle.std.proofs.Common.{◌≡◌, arith, Some, None}
use Rattle.xet_bytes.specs.Reading.{whole_of}
use Rattle.xet_shard.specs.ShardReading.{shard_at}
use Rattle.xet_shard.proofs.ShardLaws.{text_from_read, read_from_text}
use Rattle.xet_shard.proofs.read.read_shard.Goals as goal

pub returns-in-Ok : goal.returns-in-Ok
returns-in-Ok c = text_from_read c.args.content.now c.in-Ok.shard (λ i. omega (arith, c.type_inv.content i)) c.in-Ok.ensures

pub returns-in-Err-Malformed : goal.returns-in-Err-Malformed
returns-in-Err-Malformed c = λ s h.
    let none : whole_of shard_at c.args.content.now ≡ None = rw c.in-Err-Malformed.field-0-is at c.in-Err-Malformed.ensures in
    let some : whole_of shard_at c.args.content.now ≡ Some s = read_from_text c.args.content.now s h in
    absurd cc
