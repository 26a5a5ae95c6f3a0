use Rattle.std.proofs.Common.{subst, sym, refl}
use Rattle.std.specs.FinMap.{from_entries}
use Rattle.std.specs.Cmp.Lexicographic.{same_text, other_text}
use Rattle.xet_bytes.specs.Pairs.{IsLastBelow}
use Rattle.xet_bytes.proofs.Pairs.{last_none, last_other, last_some}
use Rattle.xet_bytes.proofs.pair.search_below.Goals as goal

pub returns-in_err-key : goal.returns-in_err-key
returns-in_err-key g c =
    subst (IsLastBelow (from_entries c.args.map.now.entries) c.args.hash.now c.args.end) (sym c.from_residual.ensures)
    (last_none c.args.map.now.entries (from_entries c.args.map.now.entries) refl c.args.hash.now c.args.end ((c.range.ensures.in_range tt).5 c.in_err-key.ensures.steps.0))

pub returns-else-eq : goal.returns-else-eq
returns-else-eq g c =
    let facts = c.range.ensures.in_range tt in
    let here = facts.3 _ _ c.in_ok-key.ensures.steps in
    last_other c.args.map.now.entries (from_entries c.args.map.now.entries) refl c.args.hash.now c.args.end c.in_ok-key.key.now here.0.1 (facts.4 _ _ c.in_ok-key.ensures.steps) (other_text _ _ c.if-eq.ensures)

pub returns-then-eq : goal.returns-then-eq
returns-then-eq g c =
    let facts = c.range.ensures.in_range tt in
    let here = facts.3 _ _ c.in_ok-key.ensures.steps in
    last_some c.args.map.now.entries (from_entries c.args.map.now.entries) refl c.args.hash.now c.args.end c.in_ok-key.key.now c.in_ok-key.value.now here.0.1 here.1 (facts.4 _ _ c.in_ok-key.ensures.steps) (same_text _ _ c.if-eq.ensures)
