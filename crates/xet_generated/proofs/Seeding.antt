-- Xorbs of seeds put behind those that a map has.
use Rattle.std.specs.Prelude.{◌≡◌, ℕ, zero, suc, ◌^◌, ◌<◌, List, [], ◌∷◌, ◌++◌, map, replicate, All}
use Rattle.std.proofs.Common.{arith}
use Rattle.std.specs.List.{AllByRecursion}
use Rattle.std.specs.List.Sorted.{IsStrictlySortedBy}
use Rattle.std.specs.Map.{keys_of, values_of}
use Rattle.std.specs.BTreeMap.{insert_entry}
use Rattle.std.specs.Ordering.{nat_cmp}
use Rattle.std.proofs.lemmas.List.{map_push, append_assoc, append-nil, length-replicate}
use Rattle.std.proofs.lemmas.List.Elements.{recursion_from_All}
use Rattle.std.proofs.lemmas.Cmp.{nat_cmp_total}
use Rattle.xet_types.proofs.Rising.{insert_last}
use Rattle.xet_xorb.specs.Lengths.{IsChunkLength, AreLengths}
use Rattle.xet_xorb.specs.Generated.{seeded_chunks}
use Rattle.xet_generated.specs.Terms.{Chunks}
use Rattle.xet_generated.specs.Making.{seeded_under}
use mathlib.Core.Path.{refl, sym, ap, subst, ◌∙◌}

abbrev Ends : Type 0
Ends = List (ℕ × ℕ)

abbrev Xorbs : Type 0
Xorbs = List (ℕ × Chunks)

-- so many chunks of the length are those of a xorb
abbrev CanSeed : ℕ → (ℕ × ℕ) → Type 0
CanSeed size e = AreLengths (replicate e.1 size)

-- What was made, and then what the rest gives, is what all give. The seeds of both rise, and the rest can be made.
pub record IsSeeded (size : ℕ) (made : List (ℕ × Chunks)) (rest all : List (ℕ × ℕ)) : Type 0 where
  pub same : made ++ map (seeded_under size) rest ≡ map (seeded_under size) all
  pub rises : IsStrictlySortedBy nat_cmp (keys_of made ++ keys_of rest)
  pub left : AllByRecursion (λ e. AreLengths (replicate e.1 size)) rest

each_end : (size : ℕ) (ends : List (ℕ × ℕ)) → AllByRecursion (λ end. AreLengths (replicate end size)) (values_of ends) → AllByRecursion (CanSeed size) ends
each_end size [] all = tt
each_end size (e ∷ es) all = (all.0, each_end size es all.1)

pub seeded_none : (size : ℕ) (made : List (ℕ × Chunks)) (rest all : List (ℕ × ℕ)) → made ≡ [] → rest ≡ all → IsStrictlySortedBy nat_cmp (keys_of all) → All (λ end. AreLengths (replicate end size)) (values_of all) → IsSeeded size made rest all
seeded_none size made rest all none whole rises can =
    subst (λ (es : Xorbs). IsSeeded size es rest all) (sym none) (subst (λ (es : Ends). IsSeeded size [] es all) (sym whole) (record {
      same = refl;
      rises = rises;
      left = each_end size all (recursion_from_All (λ end. AreLengths (replicate end size)) (values_of all) can);
    }))

behind : (size : ℕ) (made : List (ℕ × Chunks)) (seed end : ℕ) (chunks : Chunks) (rest all : List (ℕ × ℕ))
    → chunks ≡ seeded_chunks seed end size → IsSeeded size made ((seed, end) ∷ rest) all → IsSeeded size (made ++ (seed, chunks) ∷ []) rest all
behind size made seed end chunks rest all is was =
    let keys : keys_of (made ++ (seed, chunks) ∷ []) ++ keys_of rest ≡ keys_of made ++ seed ∷ keys_of rest =
    ap (λ xs. xs ++ keys_of rest) (map_push (λ (e : ℕ × Chunks). e.0) made (seed, chunks)) ∙ append_assoc (keys_of made) (seed ∷ []) (keys_of rest) in
    record {
      same = append_assoc made ((seed, chunks) ∷ []) (map (seeded_under size) rest) ∙ ap (λ (cs : Chunks). made ++ (seed, cs) ∷ map (seeded_under size) rest) is ∙ was.same;
      rises = subst (IsStrictlySortedBy nat_cmp) (sym keys) was.rises;
      left = was.left.1;
    }

pub seeded_more : (size : ℕ) (made new : List (ℕ × Chunks)) (seed end : ℕ) (chunks : Chunks) (left rest all : List (ℕ × ℕ))
    → new ≡ insert_entry nat_cmp made seed chunks → left ≡ (seed, end) ∷ rest → chunks ≡ seeded_chunks seed end size → IsSeeded size made left all → IsSeeded size new rest all
seeded_more size made new seed end chunks left rest all put first is was =
    let here : IsSeeded size made ((seed, end) ∷ rest) all = subst (λ (es : Ends). IsSeeded size made es all) first was in
    subst (λ (es : Xorbs). IsSeeded size es rest all) (sym (put ∙ insert_last nat_cmp_total made seed chunks (keys_of rest) here.rises)) (behind size made seed end chunks rest all is here)

pub seeded_all : (size : ℕ) (made : List (ℕ × Chunks)) (rest all : List (ℕ × ℕ)) → rest ≡ [] → IsSeeded size made rest all → made ≡ map (seeded_under size) all
seeded_all size made rest all none was =
    sym (append-nil made) ∙ ap (λ (es : Ends). made ++ map (seeded_under size) es) (sym none) ∙ was.same

-- the next one can be made
pub can_seed : (size : ℕ) (made : List (ℕ × Chunks)) (seed end : ℕ) (left rest all : List (ℕ × ℕ)) → left ≡ (seed, end) ∷ rest → IsSeeded size made left all → AreLengths (replicate end size)
can_seed size made seed end left rest all first was = (subst (λ (es : Ends). IsSeeded size made es all) first was).left.0

pub few_chunks : (n size : ℕ) → AreLengths (replicate n size) → n < 2 ^ 32
few_chunks n size h = omega (arith, h.short, length-replicate n size)

small_chunks : (n size : ℕ) → AreLengths (replicate n size) → size < 2 ^ 24
small_chunks zero size h = absurd (omega (arith, h.some))
small_chunks (suc n) size h = (recursion_from_All IsChunkLength (replicate (suc n) size) h.each).0.1

-- and each has a length of 32 bits
pub short_chunks : (n size : ℕ) → AreLengths (replicate n size) → size < 2 ^ 32
short_chunks n size h = omega (arith, small_chunks n size h)
