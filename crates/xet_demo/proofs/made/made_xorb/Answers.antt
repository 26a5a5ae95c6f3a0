use Rattle.std.proofs.Common.{Result, Err, List, ℕ, subst}
use Rattle.xet_types.specs.declared.error.ClientError.{ClientError}
use Rattle.xet_types.specs.declared.error.ClientError.TheVariants.{InvalidArguments}
use Rattle.xet_xorb.specs.Generated.{Generates}
use Rattle.xet_demo.specs.Making.{made_chunks}
use Rattle.xet_demo.proofs.Making.{made_formed}
use Rattle.xet_demo.proofs.made.made_xorb.Goals as goal

pub unreachable-requires : goal.unreachable-requires
unreachable-requires c =
    let k : ℕ = c.args.number in
    let e = c.in-Err-InvalidArguments in
    let failed : Generates (made_chunks k) (Err e.field-0) = subst (λ (r : Result (List (List ℕ)) ClientError). Generates (made_chunks k) r) e.is c.from_seed.ensures in
    let refused : Generates (made_chunks k) (Err InvalidArguments) = subst (λ (x : ClientError). Generates (made_chunks k) (Err x)) e.field-0-is failed in
    refused (made_formed k)
