-- What is said of a call's result without its texts.
use Rattle.std.specs.Prelude.{Option, Some, None, Result, Ok, Err}
use Rattle.xet_types.specs.declared.error.ClientError.{ClientError}
use Rattle.xet_types.specs.declared.error.Refusal.{Refusal}
use Rattle.xet_types.specs.Faults.{refusal_of}

abbrev pub AnsweredErr : {T : Type 0} → Option Refusal → (Result T Refusal → Type 0) → Type 0 → Type 0
AnsweredErr (Some why) P Q = P (Err why)
AnsweredErr None P Q = Q

-- P holds of the answer, its text aside, or memory was wanting and Q holds
abbrev pub Answered : {T : Type 0} → Result T ClientError → (Result T Refusal → Type 0) → Type 0 → Type 0
Answered (Ok x) P Q = P (Ok x)
Answered (Err e) P Q = AnsweredErr (refusal_of e) P Q
