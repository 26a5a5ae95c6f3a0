use Rattle.std.proofs.Common.{◌∙◌, sym, ap, map}
use Rattle.xet_shard.proofs.CanonicalLaws.{nothing}
use Rattle.xet_generated.specs.Contents.{chunks_under}
use Rattle.xet_generated.proofs.Copies.{listed_more}
use Rattle.xet_generated.proofs.file.chunk_lists.Goals as goal

pub loop-xorb-init : goal.loop-xorb-init
loop-xorb-init c = ap (map chunks_under) c.new-lists.ensures.empty ∙ sym nothing

pub loop-xorb-preserved : goal.loop-xorb-preserved
loop-xorb-preserved c =
    listed_more c.args.xorbs.now c.loop-xorb.xorb-index c.xorb-item.result c.loop-xorb.lists.entries c.insert.new.self.entries c.xorb_hash.result c.in_ok-chunks.chunks c.loop-xorb-test.true c.xorb-item.is c.loop-xorb.invariant
    c.xorb_hash.ensures (c.in_ok-chunks.ensures ∙ c.chunks.ensures.value) c.in_ok-_same.ensures.entries
