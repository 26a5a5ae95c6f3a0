use Rattle.std.proofs.Common.{◌≡◌, ◌∙◌, List, map, ap}
use Rattle.xet_types.specs.declared.record.XorbReconstructionTerm.{XorbReconstructionTerm}
use Rattle.xet_plan.specs.Merging.{ranges_shown}
use Rattle.xet_store.specs.Batches.{Listed, PlansModel, batch_at}
use Rattle.xet_service.specs.declared.reply.Reply.{Reply}
use Rattle.xet_service.specs.declared.reply.Reply.TheVariants as replies
use Rattle.xet_service.specs.Links.{LinkModel, batch_links}
use Rattle.xet_service.proofs.Batched.{batch_links_are}
use Rattle.xet_service.proofs.service.batch_reply.Goals as goal

pub returns-clause-reply : goal.returns-clause-reply
returns-clause-reply c =
    let plans : PlansModel = c.args.plans in
    let merged : map ranges_shown c.plans.inside.merged.items ≡ plans.merged = ap (λ (p : PlansModel). p.merged) c.plans.view_is in
    let links : c.in_ok-links.links ≡ batch_links (batch_at c.args.at plans) = batch_links_are c.args.at plans c.in_ok-links.links (map ranges_shown c.plans.inside.merged.items) c.in_ok-links.ensures.links merged in
    let files : c.from_vec.result ≡ plans.files = c.from_vec.ensures ∙ ap (λ (p : PlansModel). p.files) c.plans.view_is in
    let made : List (Listed XorbReconstructionTerm) → List LinkModel → Reply = λ fs ls. replies.Batch fs ls in
    λ j. made (files j) (links j)
