-- The failures of a form in memory: which calls are to fail, and how many came and failed.
use Rattle.std.specs.Prelude.{◌≡◌, ◌+◌, ◌-◌, ◌^◌, ℕ, List, min, Result, OnOk, OnErr}
use Rattle.std.specs.List.{Contains}

-- the numbers of the calls that are to fail, the number of the next call, and the count of those that failed
pub record Failures : Type 0 where
  pub planned : List ℕ
  pub next : ℕ
  pub count : ℕ

-- before the first call
abbrev pub planned_failures : List ℕ → Failures
planned_failures calls = record { planned = calls; next = 0; count = 0 }

-- the next call is to fail
abbrev pub IsToFail : Failures → Type 0
IsToFail f = Contains f.planned f.next

-- one more, as far as a count reaches
abbrev pub one_more : ℕ → ℕ
one_more count = min (count + 1) (2 ^ 64 - 1)

-- a call came, and is counted as failed exactly where it answered an error
pub record CallCounted {T E : Type 0} (old new : Failures) (result : Result T E) : Type 0 where
  pub next : new.next ≡ one_more old.next
  pub planned : new.planned ≡ old.planned
  pub failed : OnErr result (new.count ≡ one_more old.count)
  pub kept : OnOk result (new.count ≡ old.count)
