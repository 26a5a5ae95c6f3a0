use Rattle.std.proofs.Common.{◌∙◌, sym}
use Rattle.xet_service.proofs.KeptLinks.{none_left, next_left}
use Rattle.xet_service.proofs.plan_links.LinkWalk.next.Goals as goal

pub returns-in_default : goal.returns-in_default
returns-in_default c =
    let w = c.self.inside in
    sym c.self.view_is ∙ none_left w.version w.most w.at w.hash w.runs.now w.xorbs.now c.in_default.ensures

pub returns : goal.returns
returns c =
    let w = c.self.inside in
    let ahead = c.in-Some.ahead in
    sym c.self.view_is
    ∙ next_left w.version w.most w.at w.hash ahead.hash w.runs.now ahead.runs.now c.split_at.result.0.now c.split_at.result.1.now w.xorbs.now ahead.xorbs.now c.min.result
    c.self.invariant c.in-Some.ensures.0 c.in-Some.ensures.1 c.min.ensures c.split_at.ensures.front c.split_at.ensures.back
