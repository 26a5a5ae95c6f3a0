use Rattle.std.proofs.Common.{◌∙◌, map, ap}
use Rattle.xet_plan.specs.Answers.{cut_term, cut_offset}
use Rattle.xet_plan.proofs.planner.plan_of.Goals as goal

pub returns : goal.returns
returns c = record {
  terms = c.in_ok-terms.ensures ∙ ap (map cut_term) c.deref-2.ensures.value;
  offset = c.offset_of-offset_into_first_range.ensures ∙ ap (cut_offset c.args.start) c.deref.ensures.value;
  merged = c.in_ok-merged.ensures.runs;
  bytes = c.in_ok-merged.ensures.bytes;
}
