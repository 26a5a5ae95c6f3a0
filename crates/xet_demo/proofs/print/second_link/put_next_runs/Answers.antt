use Rattle.std.proofs.Common.{◌≡◌, ℕ, List, [], drop, sym, subst, arith}
use Rattle.std.specs.Prelude.{map}
use Rattle.std.proofs.lemmas.List.{drop_all}
use Rattle.xet_plan.specs.declared.runs.MergedRange.{MergedRange}
use Rattle.xet_wire.specs.Texts.{ranges_text_from}
use Rattle.xet_wire.specs.Links.{bytes_of}
use Rattle.xet_store.specs.Responses.{descriptor_of}
use Rattle.xet_demo.specs.Pages.{Output, output}
use Rattle.xet_demo.specs.Blocks.{PrintsBlocks}
use Rattle.xet_demo.proofs.Encoding.{blocks_then, blocks_nothing, next_ranges}
use Rattle.xet_demo.proofs.print.second_link.put_next_runs.Goals as goal

pub loop-run-preserved : goal.loop-run-preserved
loop-run-preserved g c =
    let here : Output = output (g.K.Sink.taken c.loop-run.sink) (g.K.Sink.faults c.loop-run.sink) c.loop-run.page in
    let waits : List ℕ = c.loop-run.encoder in
    λ out now rest. c.loop-run.invariant out now (subst (λ (t : List ℕ). PrintsBlocks here out waits now t)
    (next_ranges c.loop-run.run-index c.args.runs.now _ c.loop-run-test.true)
    (blocks_then {a = here} {x = waits} c.put_run.ensures rest))

pub returns : goal.returns
returns g c =
    let here : Output = output (g.K.Sink.taken c.loop-run.sink) (g.K.Sink.faults c.loop-run.sink) c.loop-run.page in
    let waits : List ℕ = c.loop-run.encoder in
    let none : drop c.loop-run.run-index c.args.runs.now ≡ [] = drop_all c.loop-run.run-index c.args.runs.now (omega (arith, c.loop-run-test.false)) in
    c.loop-run.invariant here waits (subst (λ (rs : List MergedRange). PrintsBlocks here here waits waits (ranges_text_from 1 (map bytes_of (map descriptor_of rs)))) (sym none) (blocks_nothing here waits))
