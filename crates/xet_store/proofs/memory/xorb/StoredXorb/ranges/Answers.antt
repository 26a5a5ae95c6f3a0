use Rattle.std.proofs.Common.{◌≡◌, ◌∙◌, List, ℕ, length, map, false, sym, ap}
use Rattle.std.proofs.lemmas.List.{take_all, drop_all}
use Rattle.xet_store.specs.Questions.{any_past, range_bytes}
use Rattle.xet_store.proofs.RangesPast.{past_some, past_refused, given_all}
use Rattle.xet_store.proofs.memory.xorb.StoredXorb.ranges.Goals as goal

pub returns-then-is_past : goal.returns-then-is_past
returns-then-is_past c =
    past_refused c.args.ranges.now c.args.self.now
    (past_some (length c.args.self.now) c.args.ranges.now c.loop-range.range-index (0, 0) c.loop-range-test.true (sym c.is_past.ensures ∙ c.if-is_past.true))

pub returns : goal.returns
returns c =
    let ranges = c.args.ranges.now in
    let chunks = c.args.self.now in
    let i = c.loop-range.range-index in
    let none : any_past (length chunks) ranges ≡ false = sym c.loop-range.invariant.past ∙ ap (any_past (length chunks)) (drop_all i ranges c.loop-range-test.false) in
    let all : c.loop-range.texts.items ≡ map (range_bytes chunks) ranges = c.loop-range.invariant.texts ∙ ap (map (range_bytes chunks)) (take_all i ranges c.loop-range-test.false) in
    given_all ranges chunks c.loop-range.texts none all
