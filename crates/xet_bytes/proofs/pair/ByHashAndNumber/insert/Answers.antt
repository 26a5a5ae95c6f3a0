use Rattle.std.proofs.Common.{rules, ap, sym, subst, ◌≡◌, ◌∙◌, false}
use Rattle.std.specs.FinMap.{FinMap, get, insert, remove, from_entries}
use Rattle.xet_bytes.specs.Pairs.{pair_cmp, Notes, KnowsLast, is_at_end}
use Rattle.xet_bytes.proofs.Maps.{put_is, gone_is}
use Rattle.xet_bytes.proofs.Pairs.{pair_total, pair_exact}
use Rattle.xet_bytes.proofs.LastPairs.{put_below, put_last, taken_back}
use Rattle.xet_bytes.proofs.pair.ByHashAndNumber.insert.Goals as goal

pub invariant_of-self-then-not-is_at_end : goal.invariant_of-self-then-not-is_at_end
invariant_of-self-then-not-is_at_end g c =
    let before = from_entries {R = pair_cmp} c.self.inside.map.entries in
    let put = put_is pair_cmp pair_total pair_exact c.self.inside.map.entries c.insert.new.self.entries (c.args.hash, c.args.number) c.args.value c.in_ok-_old.ensures.updates.0 in
    let below : is_at_end (get c.self.inside.last c.args.hash) c.args.number ≡ false = search rules in
    subst (λ m. KnowsLast m c.self.inside.last) (sym put) (put_below before c.self.inside.last c.args.hash c.args.number c.args.value c.self.invariant below)

pub returns-then-not-is_at_end-clause-ok : goal.returns-then-not-is_at_end-clause-ok
returns-then-not-is_at_end-clause-ok g c =
    put_is pair_cmp pair_total pair_exact c.self.inside.map.entries c.insert.new.self.entries (c.args.hash, c.args.number) c.args.value c.in_ok-_old.ensures.updates.0
    ∙ ap (λ (m : FinMap pair_cmp g.row.V.Denot). insert m (c.args.hash, c.args.number) c.args.value) c.self.view_is

pub invariant_of-self-in-Err : goal.invariant_of-self-in-Err
invariant_of-self-in-Err g c =
    let before = from_entries {R = pair_cmp} c.self.inside.map.entries in
    let put = put_is pair_cmp pair_total pair_exact c.self.inside.map.entries c.insert.new.self.entries (c.args.hash, c.args.number) c.args.value c.in_ok-_old.ensures.updates.0 in
    let gone = gone_is pair_cmp pair_total pair_exact c.insert.new.self.entries c.remove.new.self.entries (c.args.hash, c.args.number) c.remove.ensures.updates.0 in
    let back = gone ∙ ap (λ (m : FinMap pair_cmp g.row.V.Denot). remove m (c.args.hash, c.args.number)) put ∙ taken_back before c.self.inside.last c.args.hash c.args.number c.args.value c.self.invariant c.in-Err.ensures.absent c.ranges.number.fits in
    subst (λ m. KnowsLast m c.insert-2.new.self) (sym back) (subst (λ (notes : Notes g.row.V.Denot). KnowsLast before notes) (sym c.in-Err.ensures.err) c.self.invariant)

pub returns-in-Err-clause-err : goal.returns-in-Err-clause-err
returns-in-Err-clause-err g c =
    let before = from_entries {R = pair_cmp} c.self.inside.map.entries in
    let put = put_is pair_cmp pair_total pair_exact c.self.inside.map.entries c.insert.new.self.entries (c.args.hash, c.args.number) c.args.value c.in_ok-_old.ensures.updates.0 in
    let gone = gone_is pair_cmp pair_total pair_exact c.insert.new.self.entries c.remove.new.self.entries (c.args.hash, c.args.number) c.remove.ensures.updates.0 in
    gone ∙ ap (λ (m : FinMap pair_cmp g.row.V.Denot). remove m (c.args.hash, c.args.number)) put ∙ taken_back before c.self.inside.last c.args.hash c.args.number c.args.value c.self.invariant c.in-Err.ensures.absent c.ranges.number.fits ∙ c.self.view_is

pub invariant_of-self-in_default : goal.invariant_of-self-in_default
invariant_of-self-in_default g c =
    let before = from_entries {R = pair_cmp} c.self.inside.map.entries in
    let put = put_is pair_cmp pair_total pair_exact c.self.inside.map.entries c.insert.new.self.entries (c.args.hash, c.args.number) c.args.value c.in_ok-_old.ensures.updates.0 in
    subst (λ m. KnowsLast m c.insert-2.new.self) (sym put) (subst (λ (notes : Notes g.row.V.Denot). KnowsLast (insert before (c.args.hash, c.args.number) c.args.value) notes) (sym c.in_default.ensures.ok)
    (put_last before c.self.inside.last c.args.hash c.args.number c.args.value c.self.invariant (sym c.if-not-is_at_end.ensures) c.ranges.number.fits))

pub returns-clause-ok : goal.returns-clause-ok
returns-clause-ok g c =
    put_is pair_cmp pair_total pair_exact c.self.inside.map.entries c.insert.new.self.entries (c.args.hash, c.args.number) c.args.value c.in_ok-_old.ensures.updates.0
    ∙ ap (λ (m : FinMap pair_cmp g.row.V.Denot). insert m (c.args.hash, c.args.number) c.args.value) c.self.view_is
