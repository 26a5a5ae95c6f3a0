use Rattle.std.proofs.Common.{◌≡◌, ℕ, None, sym, subst}
use Rattle.xet_shard.specs.Values.{size_of}
use Rattle.xet_plan.specs.declared.place.Reach.TheVariants.{Within}
use Rattle.xet_plan.specs.Places.{interval, reach, first_fault}
use Rattle.xet_plan.specs.Answers.{IsPlan}
use Rattle.xet_plan.proofs.PlanLaws.{plans_least, plans_bytes}
use Rattle.xet_plan.proofs.planner.compute_reconstruction_ranges.Goals as goal

pub returns-in_ok-plan-in-Within-clause-least : goal.returns-in_ok-plan-in-Within-clause-least
returns-in_ok-plan-in-Within-clause-least g c = λ known told.
    let xs = c.args.listing.now.segments in
    let s = c.in-Within.start in
    let e = c.in-Within.end in
    let place : reach (size_of xs) c.args.bytes_range ≡ Within s e = sym (subst (λ (n : ℕ). Within s e ≡ reach n c.args.bytes_range) c.file_size.ensures c.in-Within.ensures) in
    let a : (first_fault known (interval s e) xs ≡ None) × IsPlan known xs (interval s e) c.in_ok-plan-in-Within.plan = rw c.segments.ensures.value at (c.in_ok-plan-in-Within.ensures.answer known told) in
    plans_least known xs c.args.bytes_range s e c.in_ok-plan-in-Within.plan place a.1

pub returns-in_ok-plan-in-Within-clause-bytes : goal.returns-in_ok-plan-in-Within-clause-bytes
returns-in_ok-plan-in-Within-clause-bytes g c = λ known told.
    let xs = c.args.listing.now.segments in
    let s = c.in-Within.start in
    let e = c.in-Within.end in
    let place : reach (size_of xs) c.args.bytes_range ≡ Within s e = sym (subst (λ (n : ℕ). Within s e ≡ reach n c.args.bytes_range) c.file_size.ensures c.in-Within.ensures) in
    let a : (first_fault known (interval s e) xs ≡ None) × IsPlan known xs (interval s e) c.in_ok-plan-in-Within.plan = rw c.segments.ensures.value at (c.in_ok-plan-in-Within.ensures.answer known told) in
    plans_bytes known xs c.args.bytes_range s e c.in_ok-plan-in-Within.plan place a.1
