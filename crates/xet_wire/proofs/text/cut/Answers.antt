use Rattle.std.proofs.Common.{◌≡◌, ◌≢◌, ℕ, ◌<◌, List, ◌∷◌, ◌++◌, length, get_or, Option, Some, None, MatchOption, Bor, ◌∙◌}
use Rattle.std.specs.List.{Contains}
use Rattle.std.proofs.lemmas.List.{get_or_default}
use Rattle.std.proofs.lemmas.List.Elements.{All-from_get_or}
use Rattle.std.proofs.lemmas.Str.Pattern.{split_parts}
use Rattle.xet_wire.specs.Texts.{IsCutAtFirst}
use Rattle.xet_wire.proofs.text.cut.Goals as goal

cut : (c : ℕ) (text : List ℕ) (r : Option (Bor (List ℕ) × Bor (List ℕ)))
    → MatchOption r ((i : ℕ) → i < length text → get_or text i 0 ≢ c) (λ x. (text ≡ x.0.now ++ (c ∷ x.1.now)) × ((i : ℕ) → i < length x.0.now → get_or x.0.now i 0 ≢ c))
    → MatchOption r (¬ Contains text c) (λ p. IsCutAtFirst c text p.0.now p.1.now)
cut c text None h = λ there. h there.0 there.1 (get_or_default text there.0 0 c there.1 ∙ there.2)
cut c text (Some x) h = record { parts = h.0; first = All-from_get_or (λ b. b ≢ c) x.0.now 0 h.1 }

pub returns : goal.returns
returns c = cut c.args.mark c.args.text.now c.split_once.result (split_parts c.args.mark c.args.text.now c.split_once.result c.split_once.ensures.cases c.requires)
