use Rattle.std.proofs.Common.{sym, subst}
use Rattle.std.specs.FinMap.{from_entries}
use Rattle.xet_bytes.specs.Pairs.{pair_cmp, Notes, KnowsLast}
use Rattle.xet_bytes.proofs.LastPairs.{noted_anew, known_gone}
use Rattle.xet_bytes.proofs.pair.note_last.Goals as goal

pub returns-in-Some : goal.returns-in-Some
returns-in-Some g c =
    noted_anew (from_entries {R = pair_cmp} c.args.map.now.entries) c.args.last.now c.insert-old.result c.args.hash.now c.in-Some.noted c.insert-old.new.self
    c.requires.others c.requires.absent c.in-Some.ensures c.insert-old.ensures.ok c.insert-old.ensures.absent

pub returns-in-None : goal.returns-in-None
returns-in-None g c =
    let map = from_entries {R = pair_cmp} c.args.map.now.entries in
    subst (λ (notes : Notes g.row.V.Denot). KnowsLast map notes) (sym c.remove.ensures.removed)
    (known_gone map c.args.last.now c.args.hash.now c.requires.others c.in-None.ensures)
