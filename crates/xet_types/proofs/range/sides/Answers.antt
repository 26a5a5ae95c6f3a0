use Rattle.std.proofs.Common.{◌≡◌, ◌<◌, ℕ, List, length, get_or, Option, Some, None, MatchOption, Bor, arith, lit<, eq-eqb}
use Rattle.std.specs.Bool.{◌==◌}
use Rattle.std.specs.List.{position_or_len}
use Rattle.std.proofs.lemmas.List.Sums.{passes_at_first, fails_before_first}
use Rattle.std.proofs.lemmas.Bool.{eqb-true}
use Rattle.xet_types.specs.Ranges.{HasDash, before_dash, after_dash}
use Rattle.xet_types.proofs.range.sides.Goals as goal

found : (text : List ℕ) → position_or_len (λ b. b == 45) text < length text → HasDash text
found text within = (position_or_len (λ b. b == 45) text, within, eqb-true _ 45 (passes_at_first (λ b. b == 45) text 45 within))

absent : (text : List ℕ) → position_or_len (λ b. b == 45) text ≡ length text → ¬ HasDash text
absent text none dash =
    let fails = fails_before_first (λ b. b == 45) text dash.0 45 (omega arith) in
    let passes = eq-eqb (get_or text dash.0 45) 45 dash.2 in
    cc

cut : (text : List ℕ) (r : Option (Bor (List ℕ) × Bor (List ℕ)))
    → MatchOption r (position_or_len (λ b. b == 45) text ≡ length text) (λ x. (x.0.now ≡ before_dash text) × (x.1.now ≡ after_dash text) × (position_or_len (λ b. b == 45) text < length text))
    → MatchOption r (¬ HasDash text) (λ s. HasDash text × (s.0.now ≡ before_dash text) × (s.1.now ≡ after_dash text))
cut text None h = absent text h
cut text (Some x) h = (found text h.2, h.0, h.1)

pub returns : goal.returns
returns c = cut c.args.text.now c.split_once.result (c.split_once.ensures.byte (lit< tt) (λ w o h. h))
