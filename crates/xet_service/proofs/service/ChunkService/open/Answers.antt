use Rattle.std.proofs.Common.{◌≡◌, ◌∙◌, map, sym, ap}
use Rattle.std.proofs.lemmas.Result.{err_from_is_err_and}
use Rattle.xet_types.specs.Records.{SecondPlan}
use Rattle.xet_plan.specs.Plans.{PlanModel}
use Rattle.xet_plan.specs.Merging.{ranges_shown}
use Rattle.xet_service.specs.Links.{planned_links, answer_of}
use Rattle.xet_service.specs.World.{state}
use Rattle.xet_service.proofs.PlanRuns.{same_terms, same_offset}
use Rattle.xet_service.proofs.Grouped.{links_are}
use Rattle.xet_service.proofs.Serving.{opens, opens_done, opens_refused, no_read, free_is, none_of, some_of}
use Rattle.xet_service.proofs.service.ChunkService.open.Goals as goal

pub returns-in_err-reader-clause-opens : goal.returns-in_err-reader-clause-opens
returns-in_err-reader-clause-opens g c = λ m.
    let s = c.args.self.now in
    let p = err_from_is_err_and c.from_residual.result c.from_residual.ensures.1 in
    rw (p.1, p.2)
    (opens_refused (state m s.reads s.next) c.args.version (answer_of c.args.version c.args.max c.args.at c.args.plan) c.args.range c.args.at (free_is s.next c.if-read.false) c.in_err-reader.field-0.0 (c.in_err-reader.ensures c.args.at))

pub returns-in_err-reader-clause-refusals : goal.returns-in_err-reader-clause-refusals
returns-in_err-reader-clause-refusals g c =
    let p = err_from_is_err_and c.from_residual.result c.from_residual.ensures.1 in
    rw (p.1, p.2) (no_read (answer_of c.args.version c.args.max c.args.at c.args.plan) c.args.range c.in_err-reader.field-0.0 (c.in_err-reader.ensures c.args.at))

pub returns-then-is_empty-clause-opens : goal.returns-then-is_empty-clause-opens
returns-then-is_empty-clause-opens g c = λ m.
    let s = c.args.self.now in
    let v = c.args.version in
    let max = c.args.max in
    let at = c.args.at in
    let plan : PlanModel = c.args.plan in
    let answer : SecondPlan = answer_of v max at plan in
    let links : c.in_ok-links.links ≡ planned_links answer = links_are v max at plan c.in_ok-links.links (map ranges_shown c.plan.inside.merged.items) c.in_ok-links.ensures.links (ap (λ (p : PlanModel). p.merged) c.plan.view_is) in
    rw (c.new.ensures, c.no_note.ensures)
    (opens_done (state m s.reads s.next) v answer c.args.range at (free_is s.next c.if-read.false) c.in_ok-links.links (c.in_ok-reader.ensures at).0 links (none_of c.in_ok-links.links c.is_empty.result c.is_empty.ensures c.if-is_empty.true))

pub returns-clause-opens : goal.returns-clause-opens
returns-clause-opens g c = λ m.
    let s = c.args.self.now in
    let v = c.args.version in
    let max = c.args.max in
    let at = c.args.at in
    let plan : PlanModel = c.args.plan in
    let answer : SecondPlan = answer_of v max at plan in
    let offset : c.plan.inside.offset_into_first_range ≡ answer.offset_into_first_range = ap (λ (p : PlanModel). p.offset_into_first_range) c.plan.view_is ∙ sym (same_offset v max at plan) in
    let terms : c.plan.inside.terms.items ≡ answer.terms = ap (λ (p : PlanModel). p.terms) c.plan.view_is ∙ sym (same_terms v max at plan) in
    let links : c.in_ok-links.links ≡ planned_links answer = links_are v max at plan c.in_ok-links.links (map ranges_shown c.plan.inside.merged.items) c.in_ok-links.ensures.links (ap (λ (p : PlanModel). p.merged) c.plan.view_is) in
    rw (offset, c.from_vec.ensures, terms)
    (opens (state m s.reads s.next) v answer c.args.range at c.in_ok-links.links c.in_ok-reader.reader c.insert.new.self (free_is s.next c.if-read.false) (c.in_ok-reader.ensures at) links
    (some_of c.in_ok-links.links c.is_empty.result c.is_empty.ensures c.if-is_empty.false) c.in_ok-insert.ensures.ok)
