-- A run in which the count of faults stays 0.
use Rattle.std.proofs.Common.{◌≡◌, ◌∙◌, ℕ, ◌≤◌, List, [], ◌∷◌, sym, ap, arith}
use Rattle.std.specs.List.{AllByRecursion}
use Rattle.xet_service.specs.Runs.{World, Event, Chain}
use Rattle.xet_service.specs.Validity.{IsQuiet}

abbrev faults_of : World → ℕ
faults_of w = w.faults

none_before : (before after : ℕ) → before ≤ after → after ≡ 0 → before ≡ 0
none_before before after le none = omega (arith, le, none)

is_quiet : (e : Event) → e.after.faults ≡ 0 → IsQuiet e
is_quiet e none rose = absurd (omega (arith, rose, none))

pub quiet_chain : (w : World) (events : List Event) (end : World) → Chain w events end → end.faults ≡ 0 → (w.faults ≡ 0) × AllByRecursion IsQuiet events
quiet_chain w [] end c none = (ap faults_of (sym c) ∙ none, tt)
quiet_chain w (e ∷ es) end c none =
    let rest = quiet_chain e.after es end c.2 none in
    (ap faults_of (sym c.0) ∙ none_before e.before.faults e.after.faults c.1.steps.later rest.0, (is_quiet e rest.0, rest.1))
