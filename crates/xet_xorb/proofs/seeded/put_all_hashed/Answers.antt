use Rattle.std.proofs.Common.{◌∙◌, ◌++◌, ℕ, List, map, ap, sym, append-nil, arith}
use Rattle.rand_core.specs.Steps.{stream_of, steps_u64_high}
use Rattle.rand_xoshiro.specs.Xoshiro256.{plus_plus}
use Rattle.xet_types.specs.Names.{chunk_hash}
use Rattle.xet_xorb.specs.XorbBytes.{xorb_text}
use Rattle.xet_xorb.proofs.Generating.{generated_of, text_on, hashes_on, words-end}
use Rattle.xet_xorb.proofs.seeded.put_all_hashed.Goals as goal

pub loop-i-preserved : goal.loop-i-preserved
loop-i-preserved c = record {
  text = rw c.in_ok-hash.ensures.text (text_on c.args.size c.args.count c.loop-i._i c.next_u64.result _ _ _ _ c.loop-i-test.true c.next_u64.ensures c.loop-i.invariant.text);
  hashes = rw (c.in_ok-push.ensures.items, c.in_ok-hash.ensures.hash) (hashes_on c.args.size c.args.count c.loop-i._i c.next_u64.result _ _ _ _ c.loop-i-test.true c.next_u64.ensures c.loop-i.invariant.hashes);
}

pub returns : goal.returns
returns c =
    let out = c.loop-i.out.items in
    let hashes = c.loop-i.hashes.items in
    let end = words-end c.args.count c.loop-i._i (stream_of (steps_u64_high plus_plus) c.loop-i.rng) (omega arith) in
    record {
      text = sym (append-nil out) ∙ ap (λ (ws : List ℕ). out ++ xorb_text (generated_of c.args.size ws)) (sym end) ∙ c.loop-i.invariant.text;
      hashes = sym (append-nil hashes) ∙ ap (λ (ws : List ℕ). hashes ++ map chunk_hash (generated_of c.args.size ws)) (sym end) ∙ c.loop-i.invariant.hashes;
    }
