use Rattle.std.proofs.Common.{ap, sym, subst, ◌∙◌, None}
use Rattle.std.specs.FinMap.{FinMap, remove, from_entries}
use Rattle.xet_bytes.specs.Pairs.{pair_cmp, IsLast, KnowsLastBut}
use Rattle.xet_bytes.proofs.Maps.{gone_is}
use Rattle.xet_bytes.proofs.Pairs.{pair_total, pair_exact}
use Rattle.xet_bytes.proofs.LastPairs.{others_gone, still_none}
use Rattle.xet_bytes.proofs.pair.ByHashAndNumber.remove.Goals as goal

pub returns : goal.returns
returns g c =
    gone_is pair_cmp pair_total pair_exact c.self.inside.map.entries c.remove.new.self.entries (c.args.hash.now, c.args.number) c.remove.ensures.updates.0
    ∙ ap (λ (m : FinMap pair_cmp g.row.V.Denot). remove m (c.args.hash.now, c.args.number)) c.self.view_is

pub note_last-requires-clause-others : goal.note_last-requires-clause-others
note_last-requires-clause-others g c =
    let gone = gone_is pair_cmp pair_total pair_exact c.self.inside.map.entries c.remove.new.self.entries (c.args.hash.now, c.args.number) c.remove.ensures.updates.0 in
    subst (λ (m : FinMap pair_cmp g.row.V.Denot). KnowsLastBut m c.self.inside.last c.args.hash.now) (sym gone)
    (others_gone (from_entries {R = pair_cmp} c.self.inside.map.entries) c.self.inside.last c.args.hash.now c.args.number c.self.invariant)

pub note_last-requires-clause-absent : goal.note_last-requires-clause-absent
note_last-requires-clause-absent g c none =
    let gone = gone_is pair_cmp pair_total pair_exact c.self.inside.map.entries c.remove.new.self.entries (c.args.hash.now, c.args.number) c.remove.ensures.updates.0 in
    subst (λ (m : FinMap pair_cmp g.row.V.Denot). IsLast m c.args.hash.now None) (sym gone)
    (still_none (from_entries {R = pair_cmp} c.self.inside.map.entries) c.self.inside.last c.args.hash.now c.args.number c.self.invariant none)
