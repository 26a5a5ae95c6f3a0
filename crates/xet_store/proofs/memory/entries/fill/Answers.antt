use Rattle.std.proofs.Common.{take, sym, subst}
use Rattle.std.specs.Option.{IsSome}
use Rattle.std.specs.FinMap.{get}
use Rattle.xet_store.specs.Entries.{Reserved}
use Rattle.xet_store.proofs.Entries.{place_of, place_filled, not_none}
use Rattle.xet_store.proofs.memory.entries.fill.Goals as goal

pub unreachable-requires : goal.unreachable-requires
unreachable-requires c =
    let x = c.chunk-item.result in
    let chunks = c.args.chunks.now in
    let i = c.loop-chunk.chunk-index in
    let here : IsSome (get c.args.entries.now x) = subst (λ h. IsSome (get c.args.entries.now h)) (sym c.chunk-item.is) (place_of c.args.entries.now chunks i x c.requires c.loop-chunk-test.true) in
    let now : IsSome (get c.loop-chunk.entries x) = subst (λ (m : Reserved). IsSome (get m x)) (sym c.loop-chunk.invariant) (place_filled c.args.entries.now (take i chunks) c.args.name.now x here) in
    not_none (get c.loop-chunk.entries x) c.in-Err.ensures.absent now
