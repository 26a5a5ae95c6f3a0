use Rattle.std.proofs.Common.{◌≡◌, ℕ, List, length, sym, subst, arith}
use Rattle.std.specs.Prelude.{map}
use Rattle.std.proofs.lemmas.List.{nil_from_length}
use Rattle.xet_plan.specs.declared.runs.MergedRange.{MergedRange}
use Rattle.xet_wire.specs.Texts.{ranges_text}
use Rattle.xet_wire.specs.Links.{bytes_of}
use Rattle.xet_store.specs.Responses.{descriptor_of}
use Rattle.xet_demo.specs.Pages.{Output, output}
use Rattle.xet_demo.specs.Blocks.{PrintsBlocks}
use Rattle.xet_demo.proofs.Encoding.{blocks_then, blocks_nothing, first_ranges}
use Rattle.xet_demo.proofs.print.second_link.put_runs.Goals as goal

pub returns-in-empty : goal.returns-in-empty
returns-in-empty g c =
    let here : Output = output (g.K.Sink.taken c.args.sink.now) (g.K.Sink.faults c.args.sink.now) c.args.page.now in
    let waits : List ℕ = c.args.encoder.now in
    let none : length c.args.runs.now ≡ 0 = omega (arith, c.in-empty.len_below) in
    subst (λ (rs : List MergedRange). PrintsBlocks here here waits waits (ranges_text (map bytes_of (map descriptor_of rs)))) (sym (nil_from_length c.args.runs.now none)) (blocks_nothing here waits)

pub returns-in-len1-up : goal.returns-in-len1-up
returns-in-len1-up g c =
    let start : Output = output (g.K.Sink.taken c.args.sink.now) (g.K.Sink.faults c.args.sink.now) c.args.page.now in
    let end : Output = output (g.K.Sink.taken c.put_next_runs.new.sink) (g.K.Sink.faults c.put_next_runs.new.sink) c.put_next_runs.new.page in
    subst (λ (t : List ℕ). PrintsBlocks start end c.args.encoder.now c.put_next_runs.new.encoder t)
    (first_ranges c.args.runs.now _ c.in-len1-up.len_at_least)
    (blocks_then c.put_run.ensures c.put_next_runs.ensures)
