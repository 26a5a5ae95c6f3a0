use Rattle.std.proofs.Common.{◌∙◌, ◌++◌, ℕ, List, ap, sym, append-nil, arith}
use Rattle.rand_core.specs.Steps.{stream_of, steps_u64_high}
use Rattle.rand_xoshiro.specs.Xoshiro256.{plus_plus}
use Rattle.xet_xorb.specs.Generated.{seeded_specs}
use Rattle.xet_xorb.proofs.Generating.{words_on, words-end}
use Rattle.xet_xorb.proofs.generate.seeded_specs.Goals as goal

pub loop-i-preserved : goal.loop-i-preserved
loop-i-preserved c =
    rw c.in_ok-push.ensures.items (words_on c.args.size c.args.count c.loop-i._i c.next_u64.result _ _ _ _ c.loop-i-test.true c.next_u64.ensures c.loop-i.invariant)

pub returns : goal.returns
returns c =
    let out = c.loop-i.chunk_specs.items in
    let end = words-end c.args.count c.loop-i._i (stream_of (steps_u64_high plus_plus) c.loop-i.rng) (omega arith) in
    sym (append-nil out) ∙ ap (λ (ws : List ℕ). out ++ seeded_specs c.args.size ws) (sym end) ∙ c.loop-i.invariant
