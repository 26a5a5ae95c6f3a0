use lib.Pointwise.{bytes_decides}
use Rattle.std.proofs.Common.{◌≡◌, ◌∷◌, [], List, ℕ, sym, ap, ◌∙◌}
use Rattle.std.specs.String.{string_bytes}
use Rattle.xet_demo.proofs.OneWord.{only_word, head_is}
use Rattle.xet_demo.proofs.words.is_word.Goals as goal

pub returns-in-len1 : goal.returns-in-len1
returns-in-len1 c =
    let one = only_word string_bytes c.args.words.now c.word-item.result c.in-len1.len_at_least c.in-len1.len_below c.word-item.is in
    let text : c.as_str.result.now ≡ string_bytes c.word-item.result = c.as_str.ensures.value in
    let d = bytes_decides c.as_str.result.now c.args.only.now in
    (λ t. one ∙ ap (λ (b : List ℕ). b ∷ []) (sym text ∙ d.0 (sym c.eq.ensures ∙ t)), λ h. c.eq.ensures ∙ d.1 (text ∙ head_is (string_bytes c.word-item.result) c.args.only.now (sym one ∙ h)))
