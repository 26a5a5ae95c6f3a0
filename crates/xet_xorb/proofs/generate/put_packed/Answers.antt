use Rattle.std.proofs.Common.{◌∙◌, ◌++◌, ℕ, List, ap, sym, append_assoc}
use Rattle.xet_xorb.specs.XorbBytes.{header_bytes}
use Rattle.xet_xorb.specs.Generated.{generated}
use Rattle.xet_xorb.proofs.Generating.{length-generated}
use Rattle.xet_xorb.proofs.generate.put_packed.Goals as goal

pub returns : goal.returns
returns c =
    let i = c.args.chunk.now in
    let out = c.args.out.now.items in
    let chunk = generated i.seed i.size in
    c.in_ok-put_generated.ensures
    ∙ ap (λ (t : List ℕ). t ++ chunk) c.in_ok-put_header.ensures
    ∙ append_assoc out (header_bytes i.size) chunk
    ∙ ap (λ (n : ℕ). out ++ (header_bytes n ++ chunk)) (sym (length-generated i.seed i.size))
