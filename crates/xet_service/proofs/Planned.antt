-- What follows from a plan: its links.
use Rattle.std.proofs.Common.{◌≡◌, ◌↔◌, ℕ, ◌<◌, List, [], ◌∷◌, length, map, Option, sym, subst, arith}
use Rattle.xet_types.specs.declared.range.Range.{Range}
use Rattle.xet_types.specs.declared.range._F.{_F}
use Rattle.xet_shard.specs.declared.listing.Segment.{Segment}
use Rattle.xet_shard.specs.Values.{size_of}
use Rattle.xet_plan.specs.declared.place.Reach.TheVariants.{Within}
use Rattle.xet_plan.specs.Places.{Interval, Known, reach}
use Rattle.xet_plan.specs.MetChunks.{Has, met_chunks}
use Rattle.xet_plan.specs.Least.{Name}
use Rattle.xet_plan.specs.Runs.{InGroups}
use Rattle.xet_plan.specs.FileBytes.{Content, file_bytes}
use Rattle.xet_plan.specs.Plans.{PlanModel}
use Rattle.xet_plan.specs.Answers.{IsPlan, groups_of}
use Rattle.xet_plan.proofs.Least.{reach_within}
use Rattle.xet_service.specs.declared.step.PlanVersion.{PlanVersion}
use Rattle.xet_service.specs.Links.{LinkModel, planned_links, answer_of}
use Rattle.xet_service.specs.Headline.{LinksHave, EachOnce}
use Rattle.xet_service.proofs.PlanRuns.{Run, runs_of, all_runs, link_of, links_in, links_same, runs_same, InOrder}
use Rattle.xet_service.proofs.RunOrder.{groups_in_order}
use Rattle.xet_service.proofs.RunChunks.{RunsHave, links_runs, runs_links, groups_runs, runs_groups, runs_once}
use Rattle.xet_service.proofs.MetSome.{reach_rises, some_met, nothing_met}

-- the links of the plan's answer in a version, at a moment
abbrev pub answered_links : PlanVersion → ℕ → ℕ → PlanModel → List LinkModel
answered_links version max at plan = planned_links (answer_of version max at plan)

-- a plan's runs are in order
pub planned_in_order : {known : Known} {segments : List Segment} {clip : Interval} {plan : PlanModel} → IsPlan known segments clip plan → InOrder (runs_of plan)
planned_in_order {plan = plan} p = groups_in_order plan.merged p.merged.rising p.merged.runs

pub links_in_order : {known : Known} {segments : List Segment} {clip : Interval} {plan : PlanModel} → IsPlan known segments clip plan → (version : PlanVersion) (max at : ℕ) → InOrder (all_runs (links_in version max at plan))
links_in_order {plan = plan} p version max at = subst InOrder (sym (runs_same version max at plan)) (planned_in_order p)

module _ (version : PlanVersion) (max at : ℕ) where
  -- the links hold the chunks of the merged ranges
  links_have : (plan : PlanModel) (hash : List ℕ) (k : ℕ) → LinksHave (map link_of (links_in version max at plan)) hash k ↔ InGroups (groups_of plan) hash k
  links_have plan hash k = (
    λ p. runs_groups plan.merged hash k (subst (λ (rs : List Run). RunsHave rs hash k) (runs_same version max at plan) (links_runs (links_in version max at plan) hash k p)),
    λ p. runs_links (links_in version max at plan) hash k (subst (λ (rs : List Run). RunsHave rs hash k) (sym (runs_same version max at plan)) (groups_runs plan.merged hash k p)),
  )

  -- which are the met chunks
  pub covers : {known : Known} {segments : List Segment} {clip : Interval} {plan : PlanModel} → IsPlan known segments clip plan → (hash : List ℕ) (k : ℕ)
      → LinksHave (answered_links version max at plan) hash k ↔ Has (met_chunks known clip segments) hash k
  covers {known = known} {segments = segments} {clip = clip} {plan = plan} p hash k =
      subst (λ (ls : List LinkModel). LinksHave ls hash k ↔ Has (met_chunks known clip segments) hash k) (sym (links_same version max at plan))
      (λ q. (p.merged.covers hash k).0 ((links_have plan hash k).0 q), λ q. (links_have plan hash k).1 ((p.merged.covers hash k).1 q))

  -- each once
  pub once : {known : Known} {segments : List Segment} {clip : Interval} {plan : PlanModel} → IsPlan known segments clip plan → EachOnce (answered_links version max at plan)
  once {plan = plan} p = subst EachOnce (sym (links_same version max at plan)) (runs_once (links_in version max at plan) (links_in_order p version max at))

some_link : (ls : List LinkModel) (hash : List ℕ) (k : ℕ) → LinksHave ls hash k → 0 < length ls
some_link [] hash k p = absurd p
some_link (l ∷ ls) hash k p = omega arith

-- a plan of a file that isn't empty has a link
pub planned_some : (version : PlanVersion) (max at : ℕ) {known : Known} {segments : List Segment} {clip : Interval} {plan : PlanModel} → IsPlan known segments clip plan → (range : Option (Range ℕ _F)) → reach (size_of segments) range ≡ Within clip.start clip.end
    → 0 < size_of segments → 0 < length (answered_links version max at plan)
planned_some version max at {known = known} {segments = segments} {clip = clip} {plan = plan} p range reached some =
    let c : (c : Name) × Has (met_chunks known clip segments) c.0 c.1
    = some_met known segments clip p.readable (reach_rises (size_of segments) range clip.start clip.end some reached) (reach_within (size_of segments) range clip.start clip.end reached) in
    some_link (answered_links version max at plan) c.0.0 c.0.1 ((covers version max at p c.0.0 c.0.1).1 c.1)

-- without links there are no bytes
pub planned_empty : (version : PlanVersion) (max at : ℕ) {known : Known} {segments : List Segment} {clip : Interval} {plan : PlanModel} → IsPlan known segments clip plan → answered_links version max at plan ≡ [] → (content : Content) → file_bytes content clip segments ≡ []
planned_empty version max at {known = known} {segments = segments} {clip = clip} {plan = plan} p e content =
    nothing_met known segments clip content p.readable (λ h k q. subst (λ (ls : List LinkModel). LinksHave ls h k) e ((covers version max at p h k).1 q))
