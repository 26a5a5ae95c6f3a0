use Rattle.std.proofs.Common.{◌≡◌, ◌-◌, length, get_or, take, sum, arith, sym, ap, ◌∙◌}
use Rattle.std.proofs.lemmas.List.{get_or_default}
use Rattle.xet_xorb.specs.Values.{Xorb}
use Rattle.xet_xorb.specs.Objects.{steps}
use Rattle.xet_xorb.proofs.Offsets.{length-steps, sum-take-steps-at}
use Rattle.xet_xorb.proofs.object.XorbObject.unpacked_before.Goals as goal

pub index-requires : goal.index-requires
index-requires c =
    let n : length c.args.self.now.lengths ≡ length c.self.inside.info.unpacked_chunk_offsets.items = ap (λ (x : Xorb). length x.lengths) (sym c.self.view_is) ∙ length-steps 0 c.self.inside.info.unpacked_chunk_offsets.items in
    omega arith

pub returns-else-k-eq0 : goal.returns-else-k-eq0
returns-else-k-eq0 c =
    let es = c.self.inside.info.unpacked_chunk_offsets.items in
    let n : length c.args.self.now.lengths ≡ length es = ap (λ (x : Xorb). length x.lengths) (sym c.self.view_is) ∙ length-steps 0 es in
    let s : sum (take c.args.k c.args.self.now.lengths) ≡ sum (take c.args.k (steps 0 es)) = ap (λ (x : Xorb). sum (take c.args.k x.lengths)) (sym c.self.view_is) in
    let d : get_or es (c.args.k - 1) c.index.result.now ≡ get_or es (c.args.k - 1) 0 = get_or_default es (c.args.k - 1) c.index.result.now 0 (omega arith) in
    let t : sum (take c.args.k (steps 0 es)) ≡ get_or es (c.args.k - 1) 0 = sum-take-steps-at es c.args.k c.self.invariant.rises (omega arith) (omega arith) in
    omega arith
