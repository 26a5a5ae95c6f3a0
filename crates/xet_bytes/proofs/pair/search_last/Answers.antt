use Rattle.std.proofs.Common.{◌∙◌, sym}
use Rattle.std.specs.FinMap.{from_entries}
use Rattle.xet_bytes.specs.Pairs.{pair_cmp}
use Rattle.xet_bytes.proofs.Maps.{get_is}
use Rattle.xet_bytes.proofs.Pairs.{pair_total, pair_exact}
use Rattle.xet_bytes.proofs.LastPairs.{last_at_end, last_under}
use Rattle.xet_bytes.proofs.pair.search_last.Goals as goal

pub returns-in-Some : goal.returns-in-Some
returns-in-Some g c =
    last_at_end (from_entries {R = pair_cmp} c.args.map.now.entries) c.args.hash.now c.in-Some.value.now
    (get_is pair_cmp pair_total pair_exact c.args.map.now.entries (c.args.hash.now, 18446744073709551615) ∙ sym c.in-Some.ensures.value)

pub returns-in-None : goal.returns-in-None
returns-in-None g c =
    last_under (from_entries {R = pair_cmp} c.args.map.now.entries) c.args.hash.now c.search_below.result
    (get_is pair_cmp pair_total pair_exact c.args.map.now.entries (c.args.hash.now, 18446744073709551615) ∙ sym c.in-None.ensures.value)
    c.search_below.ensures
