use Rattle.std.proofs.Common.{ap, sym, ◌∙◌, subst, length}
use Rattle.xet_xorb.specs.Values.{Xorb}
use Rattle.xet_xorb.specs.Lengths.{AreLengths}
use Rattle.xet_xorb.proofs.Offsets.{length-steps}
use Rattle.xet_xorb.proofs.object.XorbObject.num_chunks.Goals as goal

pub returns-clause-count : goal.returns-clause-count
returns-clause-count c = c.self.invariant.count ∙ sym (length-steps 0 c.self.inside.info.unpacked_chunk_offsets.items) ∙ ap (λ (x : Xorb). length x.lengths) c.self.view_is

pub returns-clause-hashes : goal.returns-clause-hashes
returns-clause-hashes c = ap (λ (x : Xorb). length x.hashes) (sym c.self.view_is) ∙ c.self.invariant.hashes ∙ sym (length-steps 0 c.self.inside.info.unpacked_chunk_offsets.items) ∙ ap (λ (x : Xorb). length x.lengths) c.self.view_is

pub returns-clause-lengths : goal.returns-clause-lengths
returns-clause-lengths c = subst (λ (x : Xorb). AreLengths x.lengths) c.self.view_is c.self.invariant.lengths
