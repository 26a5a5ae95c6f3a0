use Rattle.std.proofs.Common.{◌≡◌, ℕ, List, ◌⊎◌, sym, subst, arith}
use Rattle.xet_plan.specs.MetChunks.{Chunk, Has}
use Rattle.xet_plan.specs.Runs.{Before}
use Rattle.xet_plan.proofs.PlainRuns.{IsFirst, first_all, first_has, has_first, rest_is}
use Rattle.xet_plan.proofs.plain.ranges.+least_hash.Goals as goal

pub returns-in-None-clause-met : goal.returns-in-None-clause-met
returns-in-None-clause-met t c =
    let xs = c.args.chunks.now in
    let d = c.first-item.result in
    subst (λ (x : Chunk). (k : ℕ) × Has xs x.hash k) (sym c.first.view_is) (d.number, has_first xs d (omega arith) c.first-item.is)

pub returns-in-Some-clause-least : goal.returns-in-Some-clause-least
returns-in-Some-clause-least t c =
    let xs = c.args.chunks.now in
    let h = c.lesser.result in
    let before : (h ≡ c.first-item.result.hash) ⊎ Before h c.first-item.result.hash = subst (λ (x : Chunk). (h ≡ x.hash) ⊎ Before h x.hash) c.first.view_is c.lesser.ensures.second in
    first_all xs c.first-item.result h c.in-Some.hash (omega arith) c.first-item.is c.lesser.ensures.first before (subst (IsFirst c.in-Some.hash) (rest_is xs) c.in-Some.ensures.least)

pub returns-in-Some-clause-met : goal.returns-in-Some-clause-met
returns-in-Some-clause-met t c =
    let xs = c.args.chunks.now in
    let h = c.lesser.result in
    let of : (h ≡ c.in-Some.hash) ⊎ (h ≡ c.first-item.result.hash) = subst (λ (x : Chunk). (h ≡ c.in-Some.hash) ⊎ (h ≡ x.hash)) c.first.view_is c.lesser.ensures.of in
    first_has xs c.first-item.result h c.in-Some.hash (omega arith) c.first-item.is of (subst (λ (ys : List Chunk). (k : ℕ) × Has ys c.in-Some.hash k) (rest_is xs) c.in-Some.ensures.met)
