use Rattle.std.proofs.Common.{sym, ◌∙◌}
use Rattle.xet_xorb.proofs.Walking.{is_next}
use Rattle.xet_xorb.proofs.whole.ChunkWalk.next.Goals as goal

pub invariant_of-self : goal.invariant_of-self
invariant_of-self c = (is_next c.self.inside.rest.now c.in-Ok.chunk.now c.in-Ok.rest.now c.self.invariant c.in-Ok.ensures.value).left

pub returns : goal.returns
returns c = sym c.self.view_is ∙ (is_next c.self.inside.rest.now c.in-Ok.chunk.now c.in-Ok.rest.now c.self.invariant c.in-Ok.ensures.value).chunks
