use Rattle.std.proofs.Common.{ℕ, List, [], ◌∷◌, ◌++◌, subst, append_assoc}
use Rattle.std.specs.Prelude.{decimal, map}
use Rattle.hex.specs.Hex.{encode_lower}
use Rattle.xet_wire.specs.Texts.{ranges_text}
use Rattle.xet_wire.specs.Links.{bytes_of, link_payload}
use Rattle.xet_store.specs.Responses.{descriptor_of}
use Rattle.xet_demo.specs.Pages.{Output, output}
use Rattle.xet_demo.specs.Blocks.{PrintsBlocks}
use Rattle.xet_demo.proofs.Encoding.{blocks_then, blocks_end}
use Rattle.xet_demo.proofs.print.second_link.print_second_link.Goals as goal

pub returns : goal.returns
unfolding link_payload
returns g c =
    let start : Output = output (g.K.Sink.taken c.args.sink.now) (g.K.Sink.faults c.args.sink.now) c.args.page.now in
    let end : Output = output (g.K.Sink.taken c.put_runs.new.sink) (g.K.Sink.faults c.put_runs.new.sink) c.put_runs.new.page in
    let front : List ℕ = encode_lower c.args.hash.now ++ (58 ∷ decimal c.args.at) in
    let ranges : List ℕ = ranges_text (map bytes_of (map descriptor_of c.args.runs.now)) in
    let first = rw c.new-encoder.ensures at c.put_start.ensures in
    let payload : PrintsBlocks start end [] c.put_runs.new.encoder (front ++ (58 ∷ ranges)) =
    subst (λ (t : List ℕ). PrintsBlocks start end [] c.put_runs.new.encoder t) (append_assoc front (58 ∷ []) ranges) (blocks_then first c.put_runs.ensures) in
    blocks_end payload c.finish.ensures
