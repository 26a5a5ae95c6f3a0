use Rattle.std.proofs.Common.{◌∙◌, ◌<◌, ℕ, Bool, eqb, List, map, sym, ap, arith, w8}
use Rattle.std.specs.Int.Count.{count_trailing_zeros}
use Rattle.std.proofs.lemmas.Bool.{false≢true}
use Rattle.std.proofs.lemmas.Simd.{length-chunk, bitmask_splat, none_from_empty_mask, trailing_mask_l}
use lib.Lanes.{chunk, mask_l}
use Rattle.memchr.specs.Find.{is_byte}
use Rattle.xet_demo.proofs.Places.{first_lane}
use Rattle.xet_demo.proofs.script.places.place_in_sixteen.Goals as goal

pub returns-then-found-eq0 : goal.returns-then-found-eq0
returns-then-found-eq0 c =
    λ k low high passes.
    let text : List ℕ = c.args.text.now in
    let at : ℕ = c.args.at in
    let mask = bitmask_splat w8 eqb (chunk at 16 text) 16 c.args.byte (length-chunk at 16 text c.requires) (omega arith) in
    false≢true (sym (none_from_empty_mask (is_byte c.args.byte) text at 16 0 c.requires (sym mask ∙ c.if-found-eq0.true) k low high) ∙ passes)

pub returns-else-found-eq0 : goal.returns-else-found-eq0
returns-else-found-eq0 c =
    let text : List ℕ = c.args.text.now in
    let at : ℕ = c.args.at in
    let test : ℕ → Bool = is_byte c.args.byte in
    let long = length-chunk at 16 text c.requires in
    let mask = bitmask_splat w8 eqb (chunk at 16 text) 16 c.args.byte long (omega arith) in
    let some : 0 < mask_l (map test (chunk at 16 text)) = omega (arith, mask, c.if-found-eq0.false) in
    first_lane test text at _ c.requires (ap (count_trailing_zeros 64) mask ∙ trailing_mask_l test 64 (chunk at 16 text) (omega (arith, long)) some) some
