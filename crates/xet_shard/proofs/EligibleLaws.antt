-- Hashes, each where it stands first.
use Rattle.std.proofs.Common.{◌≡◌, ◌∙◌, cond, Bool, true, false, not, ◌||◌, List, [], ◌∷◌, ◌++◌, ℕ, ◌+◌, ◌<◌, length, take, get_or, Some, refl, sym, ap}
use Rattle.std.specs.Prelude.{filter}
use Rattle.std.specs.Option.{is_some}
use Rattle.std.specs.List.{list_any}
use Rattle.std.specs.FinMap.{FinMap, get, insert, get-insert}
use Rattle.std.proofs.lemmas.List.{take_more}
use Rattle.std.proofs.lemmas.List.Elements.{filter-append}
use Rattle.std.proofs.lemmas.List.Folds.{list_any-append}
use Rattle.std.proofs.lemmas.Map.Text.{is_eq-slice_cmp}
use lib.Pointwise.{bytes_decides}
use Rattle.xet_types.specs.Names.{hash_cmp, same_hash}
use Rattle.xet_bytes.proofs.Maps.{hash_total}
use Rattle.xet_shard.specs.Eligible.{distinct}

-- whether the hash is among these
abbrev pub has : List (List ℕ) → List ℕ → Bool
has hs x = list_any (λ h. same_hash x h) hs

abbrev other_than : List ℕ → List ℕ → Bool
other_than h g = not (same_hash g h)

-- a hash that isn't h is among the others where it is among all
has_other : (x h : List ℕ) (gs : List (List ℕ)) → same_hash x h ≡ false → has (filter (other_than h) gs) x ≡ has gs x
has_other x h [] differ = refl
has_other x h (g ∷ gs) differ =
    elim (same_hash g h) as (λ b. same_hash g h ≡ b → has (cond (not b) (g ∷ filter (other_than h) gs) (filter (other_than h) gs)) x ≡ (same_hash x g || has gs x)) [
      | true ↦ λ e. (let same : g ≡ h = (bytes_decides g h).0 e in
          has_other x h gs differ ∙ sym (ap (λ k. same_hash x k || has gs x) same ∙ ap (λ b. b || has gs x) differ))
      | false ↦ λ e. ap (λ b. same_hash x g || b) (has_other x h gs differ)
    ] refl

-- one more hash stands last, unless it is there
pub distinct_push : (hs : List (List ℕ)) (x : List ℕ) → distinct (hs ++ x ∷ []) ≡ cond (has (distinct hs) x) (distinct hs) (distinct hs ++ x ∷ [])
distinct_push [] x = refl
distinct_push (h ∷ hs) x =
    let p = other_than h in
    let ds = distinct hs in
    let step : (same among : Bool) → same_hash x h ≡ same → has ds x ≡ among
    → h ∷ filter p (cond among ds (ds ++ x ∷ [])) ≡ cond (same || has (filter p ds) x) (h ∷ filter p ds) (h ∷ (filter p ds ++ x ∷ []))
    = λ same among. elim same as (λ same. same_hash x h ≡ same → has ds x ≡ among → h ∷ filter p (cond among ds (ds ++ x ∷ [])) ≡ cond (same || has (filter p ds) x) (h ∷ filter p ds) (h ∷ (filter p ds ++ x ∷ []))) [
      | true ↦ λ s a. elim among as (λ b. h ∷ filter p (cond b ds (ds ++ x ∷ [])) ≡ h ∷ filter p ds) [
        | true ↦ refl
        | false ↦ ap (λ (gs : List (List ℕ)). h ∷ gs) (filter-append p ds (x ∷ []) ∙ ap (λ b. filter p ds ++ cond (not b) (x ∷ []) []) s ∙ nothing (filter p ds))
      ]
      | false ↦ λ s a. ap (λ b. h ∷ filter p (cond b ds (ds ++ x ∷ []))) (sym a ∙ sym (has_other x h ds s))
          ∙ elim (has (filter p ds) x) as (λ b. h ∷ filter p (cond b ds (ds ++ x ∷ [])) ≡ cond b (h ∷ filter p ds) (h ∷ (filter p ds ++ x ∷ []))) [
            | true ↦ refl
            | false ↦ ap (λ (gs : List (List ℕ)). h ∷ gs) (filter-append p ds (x ∷ []) ∙ ap (λ b. filter p ds ++ cond (not b) (x ∷ []) []) s)
          ]
    ] in
    ap (λ (gs : List (List ℕ)). h ∷ filter p gs) (distinct_push hs x) ∙ step (same_hash x h) (has ds x) refl refl
  where
    nothing : (xs : List (List ℕ)) → xs ++ [] ≡ xs
    nothing [] = refl
    nothing (x ∷ xs) = ap (λ (ys : List (List ℕ)). x ∷ ys) (nothing xs)

-- the seen ones are those that were kept
abbrev pub AreSeen : FinMap hash_cmp (Unit {0}) → List (List ℕ) → Type 0
AreSeen seen hs = (x : List ℕ) → is_some (get seen x) ≡ has hs x

pub seen_more : (seen : FinMap hash_cmp (Unit {0})) (hs : List (List ℕ)) (h : List ℕ) → AreSeen seen hs → AreSeen (insert seen h tt) (hs ++ h ∷ [])
seen_more seen hs h are x =
    ap is_some (get-insert hash_total seen h tt x)
    ∙ ap (λ b. is_some (cond b (Some tt) (get seen x))) (is_eq-slice_cmp x h)
    ∙ elim (same_hash x h) as (λ b. is_some (cond b (Some tt) (get seen x)) ≡ (has hs x || (b || false))) [
      | true ↦ sym (last (has hs x))
      | false ↦ are x ∙ sym (same (has hs x))
    ]
    ∙ sym (list_any-append (λ g. same_hash x g) hs (h ∷ []))
  where
    last : (b : Bool) → (b || true) ≡ true
    last true = refl
    last false = refl

    same : (b : Bool) → (b || false) ≡ b
    same true = refl
    same false = refl

-- one more hash was looked at
pub looked_at : (hs : List (List ℕ)) (i : ℕ) (x : List ℕ) (seen : FinMap hash_cmp (Unit {0})) (firsts : List (List ℕ)) (was : Bool) → i < length hs → x ≡ get_or hs i x → firsts ≡ distinct (take i hs) → AreSeen seen firsts → was ≡ is_some (get seen x)
    → distinct (take (i + 1) hs) ≡ cond was firsts (firsts ++ x ∷ [])
looked_at hs i x seen firsts was l is e are w =
    let more : take (i + 1) hs ≡ take i hs ++ x ∷ [] = take_more hs i x l ∙ ap (λ (y : List ℕ). take i hs ++ y ∷ []) (sym is) in
    let known : has (distinct (take i hs)) x ≡ was = ap (λ fs. has fs x) (sym e) ∙ sym (are x) ∙ sym w in
    ap distinct more ∙ distinct_push (take i hs) x ∙ ap (λ (b : Bool). cond b (distinct (take i hs)) (distinct (take i hs) ++ x ∷ [])) known ∙ ap (λ (fs : List (List ℕ)). cond was fs (fs ++ x ∷ [])) (sym e)
