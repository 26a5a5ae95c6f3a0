use Rattle.std.proofs.Common.{◌≡◌, ◌∙◌, ◌++◌, List, ℕ, map, slice_range, replicate, ap}
use Rattle.xet_types.specs.Names.{file_name}
use Rattle.xet_xorb.specs.Generated.{hash_and_size}
use Rattle.xet_demo.specs.Making.{made_chunks}
use Rattle.xet_demo.proofs.Making.{name_is}
use Rattle.xet_demo.proofs.made.made_name.Goals as goal

pub returns : goal.returns
returns c =
    let k : ℕ = c.args.number in
    let cs : List (List ℕ) = made_chunks k in
    let is : c.in_ok-xorb.xorb ≡ cs = c.in_ok-xorb.ensures in
    let part : ℕ → ℕ → List (List ℕ) → List (List ℕ × ℕ) = λ a b ds. slice_range (map hash_and_size ds) a b in
    let front : c.in_ok-chunks.chunks.items ≡ part 0 2 cs = c.in_ok-chunks.ensures ∙ ap (part 0 2) is in
    let back : c.as_slice.result.now ≡ part 3 5 cs = c.as_slice.ensures.value ∙ c.in_ok-rest.ensures ∙ ap (part 3 5) is in
    let all : c.deref.result.now ≡ part 0 2 cs ++ part 3 5 cs =
    c.deref.ensures.value ∙ c.in_ok-extend_from_slice.ensures.items ∙ ap (λ (ps : List (List ℕ × ℕ)). ps ++ c.as_slice.result.now) front ∙ ap (λ (ps : List (List ℕ × ℕ)). part 0 2 cs ++ ps) back in
    c.file_hash_with_salt.ensures ∙ ap (λ (ps : List (List ℕ × ℕ)). file_name ps (replicate 32 0)) all ∙ name_is k
