use Rattle.std.proofs.Common.{arith, ◌≡◌, ◌∙◌, ℕ, ◌%◌, ◌-◌, List, length, nat_eq, take, drop, ap}
use Rattle.std.specs.Int.{w64, from_le_bytes}
use Rattle.std.proofs.lemmas.List.{take_all, length-drop}
use Rattle.xet_shard.specs.Eligible.{is_marked}
use Rattle.xet_shard.proofs.eligible.is_marked.Goals as goal

tail_is : (xs : List ℕ) → take (length xs - 24) (drop 24 xs) ≡ drop 24 xs
tail_is xs = take_all (length xs - 24) (drop 24 xs) (omega (arith, length-drop 24 xs))

pub returns : goal.returns
unfolding is_marked
returns c = ap (λ n. nat_eq (n % 1024) 0) (c.from_le_bytes.ensures ∙ ap (from_le_bytes w64) (c.copy_from_slice.ensures.after ∙ tail_is c.as_slice.result.now ∙ ap (drop 24) c.as_slice.ensures.value))
