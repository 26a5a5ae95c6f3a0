use Rattle.std.proofs.Common.{◌≡◌, ℕ, ◌<◌, ◌≤◌, ◌∷◌, map, subst, arith, inl, inr}
use Rattle.std.proofs.lemmas.Bool.{cases_lt}
use Rattle.xet_plan.specs.MetChunks.{Has}
use Rattle.xet_plan.specs.Merging.{chunks_part}
use Rattle.xet_plan.specs.Places.{interval}
use Rattle.xet_plan.specs.Runs.{IsRuns}
use Rattle.xet_plan.proofs.PlainRuns.{Between, runs_first}
use Rattle.xet_plan.proofs.plain.ranges.+runs_between.Goals as goal

pub returns-clause-runs : goal.returns-clause-runs
returns-clause-runs t c =
    let from = c.args.from in
    let end = c.run_end-end.result in
    let past = c.args.past in
    let P : ℕ → Type 0 = λ k. Has c.args.chunks.now c.args.hash.now k in
    let here : P from = c.has.ensures.0 c.if-not-has.false in
    let met : (k : ℕ) → from ≤ k → k < end → P k = λ k l m. elim (cases_lt from k) as (λ _. P k) [
      | inl n ↦ c.run_end-end.ensures.met k (omega arith) m
      | inr n ↦ (let e : from ≡ k = omega arith in subst P e here)
    ] in
    let runs : IsRuns (Between P from past) (interval from end ∷ map chunks_part c.in_ok-runs.runs.items) =
    runs_first P from end past (map chunks_part c.in_ok-runs.runs.items) (omega (arith, c.run_end-end.ensures.from)) c.run_end-end.ensures.to met c.run_end-end.ensures.next c.in_ok-runs.ensures.runs in
    let items : c.insert.new.self.items ≡ c.range_at.result ∷ c.in_ok-runs.runs.items = c.in_ok-insert.ensures.items in
    rw (items, c.range_at.ensures.start, c.range_at.ensures.end) runs
