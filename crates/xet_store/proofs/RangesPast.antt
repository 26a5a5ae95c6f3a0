-- Ranges of chunks that end past the last one.
use Rattle.std.proofs.Common.{◌≡◌, ◌<◌, ◌||◌, ℕ, zero, suc, arith, cond, true, false, Bool, List, [], ◌∷◌, map, length, get_or, Result, Ok, Err, refl, sym, ap, subst}
use Rattle.std.specs.Global.{Vec}
use Rattle.xet_types.specs.declared.error.Refusal.{Refusal}
use Rattle.xet_types.specs.declared.error.Refusal.TheVariants.{InvalidRange}
use Rattle.xet_store.specs.StoreModel.{Chunks}
use Rattle.xet_store.specs.Questions.{HasItems, is_past, any_past, range_bytes, bytes_of_ranges}

-- one of the ranges is past
pub past_some : (n : ℕ) (ranges : List (ℕ × ℕ)) (i : ℕ) (d : ℕ × ℕ) → i < length ranges → is_past n (get_or ranges i d) ≡ true → any_past n ranges ≡ true
past_some n [] i d l e = let no : ⊥ = omega (arith, l) in absurd no
past_some n (r ∷ rs) zero d l e = ap (λ (b : Bool). b || any_past n rs) e
past_some n (r ∷ rs) (suc i) d l e =
    let rest : any_past n rs ≡ true = past_some n rs i d (omega (arith, l)) e in
    subst (λ (b : Bool). (is_past n r || b) ≡ true) (sym rest) (elim (is_past n r) as (λ b. (b || true) ≡ true) [ true ↦ refl | false ↦ refl ])

abbrev refused_or_given : Bool → List (ℕ × ℕ) → Chunks → Result (List (List ℕ)) Refusal
refused_or_given b ranges cs = cond b (Err InvalidRange) (Ok (map (range_bytes cs) ranges))

abbrev refusal : Result (Vec (List ℕ)) Refusal
refusal = Err InvalidRange

-- and then the refusal is the answer
pub past_refused : (ranges : List (ℕ × ℕ)) (cs : Chunks) → any_past (length cs) ranges ≡ true → HasItems (bytes_of_ranges ranges cs) refusal
past_refused ranges cs e = subst (λ (b : Bool). HasItems (refused_or_given b ranges cs) refusal) (sym e) refl

-- and where none is, the ranges' bytes are
pub given_all : (ranges : List (ℕ × ℕ)) (cs : Chunks) (v : Vec (List ℕ)) → any_past (length cs) ranges ≡ false → v.items ≡ map (range_bytes cs) ranges → HasItems (bytes_of_ranges ranges cs) (Ok v)
given_all ranges cs v none e = subst (λ (b : Bool). HasItems (refused_or_given b ranges cs) (Ok v)) (sym none) e
