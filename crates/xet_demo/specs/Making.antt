-- The steps of a large run.
use Rattle.std.specs.Prelude.{ℕ, zero, suc, List, [], ◌∷◌, ◌++◌, Some}
use Rattle.xet_types.specs.Ranges.{interval}
use Rattle.xet_xorb.specs.Generated.{seeded_chunks}
use Rattle.xet_generated.specs.Terms.{Term}
use Rattle.xet_generated.specs.Shards.{generated_name}
use Rattle.xet_service.specs.declared.step.PlanVersion.TheVariants.{V2}
use Rattle.xet_service.specs.declared.step.Act.{Act}
use Rattle.xet_service.specs.declared.step.Act.TheVariants.{Plan, Fetch, InsertLazyFile}
use Rattle.xet_service.specs.declared.step.Step.{Step}

-- file k has four chunks of a generated xorb: the first two, and the two behind the third
abbrev pub made_terms : ℕ → List Term
made_terms k = (k, (0, 2)) ∷ (k, (3, 5)) ∷ []

-- the chunks of that xorb, five of 256 bytes
abbrev pub made_chunks : ℕ → List (List ℕ)
made_chunks k = seeded_chunks k 5 256

-- the name of file k
unfoldable pub made_name : ℕ → List ℕ
made_name k = generated_name (made_terms k) 256

abbrev pub step_at : ℕ → Act → Step
step_at at act = record { at = at; act = act }

-- File k is stored at the moment k; then its bytes from 100 up to 900 are planned, and the one link of this read is fetched.
abbrev pub file_steps : ℕ → List Step
file_steps k =
    step_at k (InsertLazyFile (made_terms k) 256)
    ∷ step_at k (Plan V2 (made_name k) (Some (interval 100 900)))
    ∷ step_at k (Fetch k 0)
    ∷ []

-- the steps of so many files, from file 0 on
abbrev pub made_steps : ℕ → List Step
made_steps zero = []
made_steps (suc k) = made_steps k ++ file_steps k
