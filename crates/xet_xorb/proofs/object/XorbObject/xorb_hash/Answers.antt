use Rattle.std.proofs.Common.{ap, ◌∙◌}
use Rattle.xet_types.specs.Names.{name_of_hashes}
use Rattle.xet_xorb.specs.Values.{Xorb}
use Rattle.xet_xorb.proofs.object.XorbObject.xorb_hash.Goals as goal

pub returns : goal.returns
returns c = c.self.invariant.named ∙ ap (λ (x : Xorb). name_of_hashes x.hashes) c.self.view_is
