-- Reading a script piece by piece.
use Rattle.std.proofs.Common.{◌≡◌, ◌∙◌, ◌++◌, ◌+◌, List, ℕ, Option, Ok, Err, length, take, ap, subst, append_assoc, arith}
use Rattle.std.proofs.lemmas.List.{append-nil}
use Rattle.xet_demo.specs.TopCall.{CannotRead, HasRead, ReadsOn, ReadsSteps, WasRead}
use Rattle.xet_demo.specs.declared.run.Status.{Status}
use Rattle.xet_demo.specs.declared.run.Status.TheVariants.{Done, Usage, BadLine, ReadFault, WriteFault, TooLong, OutOfMemory}

-- an empty piece is the end
pub nothing_more : (old new : Option (List ℕ)) (before now : ℕ) (bytes buffer : List ℕ) (so_far count : ℕ) → count ≡ 0 → ReadsOn old new before now bytes so_far buffer (Ok count) → WasRead old new before now bytes
nothing_more old new before now bytes buffer so_far count none on =
    let all : HasRead old new before now bytes (so_far + count) = subst (λ (bs : List ℕ). HasRead old new before now bs (so_far + count)) (ap (λ (n : ℕ). bytes ++ take n buffer) none ∙ append-nil bytes) on.0 in
    record { consumed = all.consumed; ended = on.1 none; short = omega (arith, all.counted, all.short); faults = all.faults }

-- the same bytes, joined in another order
pub joined : (old new : Option (List ℕ)) (before now : ℕ) (bytes more piece : List ℕ) (count : ℕ) → HasRead old new before now ((bytes ++ more) ++ piece) count → HasRead old new before now (bytes ++ (more ++ piece)) count
joined old new before now bytes more piece count read = subst (λ (bs : List ℕ). HasRead old new before now bs count) (append_assoc bytes more piece) read

-- a script that can't be read has no steps
pub no_steps : (old new : Option (List ℕ)) (before now : ℕ) (status : Status) → CannotRead old new before now status → ReadsSteps old new before now (Err status)
no_steps old new before now ReadFault why = why
no_steps old new before now TooLong why = why
no_steps old new before now OutOfMemory why = absurd why
no_steps old new before now Done why = absurd why
no_steps old new before now Usage why = absurd why
no_steps old new before now (BadLine n) why = absurd why
no_steps old new before now WriteFault why = absurd why
