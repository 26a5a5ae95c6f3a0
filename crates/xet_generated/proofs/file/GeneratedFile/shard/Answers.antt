use Rattle.std.proofs.Common.{◌∷◌, [], length, ap, arith}
use Rattle.std.proofs.lemmas.List.{length-append, length-map}
use Rattle.xet_generated.specs.Shards.{listed_xorb}
use Rattle.xet_generated.proofs.file.GeneratedFile.shard.Goals as goal

pub invariant_of-result : goal.invariant_of-result
invariant_of-result c =
    (omega (arith, ap length c.in_ok-push.ensures.items, length-append c.in_ok-files.files.items (c.in_ok-clone.field-0 ∷ []), ap length c.in_ok-files.ensures.items), omega (arith, ap length c.in_ok-listed.ensures, length-map c.deref.result.now listed_xorb, ap length c.deref.ensures.value, c.self.invariant))
