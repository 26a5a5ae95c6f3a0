use Rattle.std.proofs.Common.{◌≡◌, ℕ, None, sym, subst}
use Rattle.xet_shard.specs.Values.{size_of}
use Rattle.xet_plan.specs.declared.place.Reach.TheVariants.{Within}
use Rattle.xet_plan.specs.Places.{interval, reach, first_fault}
use Rattle.xet_plan.specs.Answers.{AreTerms}
use Rattle.xet_plan.proofs.PlanLaws.{all_terms_bytes}
use Rattle.xet_plan.proofs.planner.compute_reconstruction_terms.Goals as goal

pub returns-in_ok-terms-in-Within-clause-bytes : goal.returns-in_ok-terms-in-Within-clause-bytes
returns-in_ok-terms-in-Within-clause-bytes g c = λ known told.
    let xs = c.args.listing.now.segments in
    let s = c.in-Within.start in
    let e = c.in-Within.end in
    let place : reach (size_of xs) c.args.bytes_range ≡ Within s e = sym (subst (λ (n : ℕ). Within s e ≡ reach n c.args.bytes_range) c.file_size.ensures c.in-Within.ensures) in
    let a : (first_fault known (interval s e) xs ≡ None) × AreTerms known xs (interval s e) c.in_ok-terms-in-Within.terms = rw c.segments.ensures.value at (c.in_ok-terms-in-Within.ensures.answer known told) in
    all_terms_bytes known xs c.args.bytes_range s e c.in_ok-terms-in-Within.terms place a.1
