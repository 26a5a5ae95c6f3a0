-- The headers of a part, as they are put together.
use Rattle.std.specs.Prelude.{codes, decimal}
use Rattle.std.proofs.Common.{◌≡◌, ℕ, List, [], ◌∷◌, ◌++◌, ap, ◌∙◌, append_assoc}
use Rattle.xet_types.specs.declared.range.Range.{Range}
use Rattle.xet_types.specs.declared.range._H.{_H}
use Rattle.xet_wire.specs.Multipart.{crlf, headers_text}

abbrev pub before_range : List ℕ
before_range = codes "Content-Type: application/octet-stream" ++ (crlf ++ codes "Content-Range: bytes ")

pub headers_written : (old : List ℕ) (r : Range ℕ _H) (total : ℕ) → old ++ before_range ++ decimal r.start ++ 45 ∷ [] ++ decimal r.end ++ 47 ∷ [] ++ decimal total ≡ old ++ headers_text r total
unfolding headers_text
headers_written old r total =
    let front : List ℕ = old ++ before_range in
    let range : List ℕ = decimal r.start ++ 45 ∷ [] ++ decimal r.end in
    let rest : List ℕ = 47 ∷ decimal total in
    append_assoc (front ++ decimal r.start ++ 45 ∷ [] ++ decimal r.end) (47 ∷ []) (decimal total)
    ∙ ap (λ (t : List ℕ). t ++ decimal r.end ++ 47 ∷ decimal total) (append_assoc (old ++ before_range) (decimal r.start) (45 ∷ []))
    ∙ ap (λ (t : List ℕ). t ++ 47 ∷ decimal total) (append_assoc (old ++ before_range) (decimal r.start ++ 45 ∷ []) (decimal r.end))
    ∙ append_assoc (old ++ before_range) (decimal r.start ++ 45 ∷ [] ++ decimal r.end) (47 ∷ decimal total)
    ∙ append_assoc old before_range (decimal r.start ++ 45 ∷ [] ++ decimal r.end ++ 47 ∷ decimal total)
