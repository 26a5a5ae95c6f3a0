use Rattle.std.proofs.Common.{◌≡◌, ◌∙◌, ◌++◌, ℕ, List, length, ap}
use Rattle.xet_xorb.specs.Values.{Xorb}
use Rattle.xet_xorb.specs.Generated.{met_bytes}
use Rattle.xet_xorb.proofs.ChunkText.{lengths-length}
use Rattle.xet_xorb.proofs.Generating.{at_hand}
use Rattle.xet_xorb.proofs.MetRanges.{all_met}
use Rattle.xet_xorb.proofs.random.RandomXorb.get_full_serialized.Goals as goal

pub returns : goal.returns
returns c =
    let cs = c.args.self.now in
    let count : c.num_chunks.result ≡ length cs = c.num_chunks.ensures.count ∙ ap (λ (x : Xorb). length x.lengths) (at_hand c.self.inside c.args.self.now c.self.invariant c.self.view_is).object ∙ lengths-length cs in
    c.in_ok-from_vec.ensures.ok
    ∙ c.in_ok-put_met.ensures
    ∙ ap (λ (t : List ℕ). t ++ met_bytes cs 0 c.num_chunks.result) c.in_ok-out.ensures.items
    ∙ ap (λ (n : ℕ). met_bytes cs 0 n) count
    ∙ all_met cs
