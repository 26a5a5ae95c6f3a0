use Rattle.std.proofs.Common.{ℕ, Bool, List, Some, None, subst}
use Rattle.memchr.specs.Find.{IsFirstByte, is_byte}
use Rattle.xet_demo.proofs.Cuts.{to_the_end}
use Rattle.xet_demo.proofs.Places.{first_behind, none_behind}
use Rattle.xet_demo.proofs.script.places.place_in_many.Goals as goal

pub returns-in-Some : goal.returns-in-Some
returns-in-Some c =
    let text : List ℕ = c.args.text.now in
    let test : ℕ → Bool = is_byte c.args.byte in
    first_behind test text c.args.from c.in-Some.place c.requires
    (subst (λ (rest : List ℕ). IsFirstByte test rest (Some c.in-Some.place)) (to_the_end text c.args.from) c.in-Some.ensures)

pub returns-in-None : goal.returns-in-None
returns-in-None c =
    let text : List ℕ = c.args.text.now in
    let test : ℕ → Bool = is_byte c.args.byte in
    none_behind test text c.args.from c.requires
    (subst (λ (rest : List ℕ). IsFirstByte test rest None) (to_the_end text c.args.from) c.in-None.ensures)
