use Rattle.std.proofs.Common.{◌∙◌, Result, Ok, Err, map, ap}
use Rattle.std.specs.Result.{OnOk}
use Rattle.std.specs.FinMap.Entries.{put}
use Rattle.xet_types.specs.Names.{hash_cmp}
use Rattle.xet_plan.specs.Plans.{PlanModel}
use Rattle.xet_types.specs.RecordMaps.{listed}
use Rattle.xet_store.proofs.Joining.{listed_put}
use Rattle.xet_store.proofs.memory.batch.add.Goals as goal

on_ok : {T E : Type 0} (r : Result T E) (P : Type 0) → P → OnOk r P
on_ok (Ok x) P p = p
on_ok (Err e) P p = tt

pub returns-clause-terms : goal.returns-clause-terms
returns-clause-terms c =
    on_ok c.append_all.result _
    (listed_put c.args.terms.now.entries c.insert.new.self.entries (record { 0 = c.args.file.now }) c.plan.inside.terms c.in_ok-insert.ensures.was_ordered c.in_ok-insert.ensures.ordered c.in_ok-insert.ensures.updates.0
    ∙ ap (λ (p : PlanModel). put hash_cmp c.args.file.now p.terms (map listed c.args.terms.now.entries)) c.plan.view_is)
