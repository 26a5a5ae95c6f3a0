use Rattle.std.proofs.Common.{◌≡◌, ◌∙◌, ◌++◌, ℕ, List, length, ap, sym, append_assoc, arith}
use Rattle.xet_types.specs.Names.{chunk_hash}
use Rattle.xet_xorb.specs.XorbBytes.{header_bytes}
use Rattle.xet_xorb.specs.Generated.{generated}
use Rattle.xet_xorb.proofs.Generating.{length-generated, cut_behind}
use Rattle.xet_xorb.proofs.seeded.put_hashed.Goals as goal

pub returns : goal.returns
returns c =
    let seed = c.args.seed in
    let size = c.args.size in
    let out : List ℕ = c.args.out.now.items in
    let chunk : List ℕ = generated seed size in
    let front : List ℕ = c.put_header.new.out.items in
    let whole : c.put_generated.new.out.items ≡ front ++ chunk = c.in_ok-put_generated.ensures in
    let there : length front ≡ c.len-start.result = omega (arith, c.len-start.ensures, c.put_header.new.out.ok) in
    record {
      text = whole ∙ ap (λ (t : List ℕ). t ++ chunk) c.in_ok-put_header.ensures ∙ append_assoc out (header_bytes size) chunk ∙ ap (λ (n : ℕ). out ++ (header_bytes n ++ chunk)) (sym (length-generated seed size));
      hash = c.compute_data_hash.ensures ∙ ap chunk_hash (cut_behind c.as_slice.result.now front chunk c.len-start.result (c.as_slice.ensures.value ∙ whole) there);
    }
