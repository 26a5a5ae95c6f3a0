-- The links of a plan's runs, put in by rising hashes.
use Rattle.std.proofs.Common.{◌≡◌, ◌∙◌, ℕ, zero, suc, ◌+◌, ◌<◌, arith, List, [], ◌∷◌, ◌++◌, length, map, take, drop, get_or, refl, sym, ap, subst}
use Rattle.std.specs.Global.{Vec}
use Rattle.std.specs.List.{AllByRecursion}
use Rattle.std.specs.BTreeMap.{insert_entry}
use Rattle.std.specs.Ordering.{match_ordering, ordering_reverse}
use Rattle.std.proofs.lemmas.List.{map_push, take_more}
use Rattle.xet_types.specs.Records.{FetchInfo, RangesFetch}
use Rattle.xet_types.specs.RecordMaps.{listed, hex_cmp}
use Rattle.xet_types.specs.declared.key.HexMerkleHash.{HexMerkleHash}
use Rattle.xet_bytes.proofs.Maps.{hash_total}
use Rattle.xet_plan.specs.declared.runs.MergedRange.{MergedRange}
use Rattle.xet_plan.specs.Runs.{Group, Before, Rising}
use Rattle.xet_plan.specs.Merging.{Ranges, group_of, ranges_shown}
use Rattle.xet_store.specs.Responses.{fetches_at, ranges_fetches}

abbrev pub Merged : Type 0
Merged = List ℕ × Vec MergedRange

abbrev pub LinkEntry : Type 0 → Type 0
LinkEntry X = HexMerkleHash × Vec X

-- the links of a xorb's runs, in version 1
abbrev pub links_at : ℕ → Merged → (List ℕ × List FetchInfo)
links_at at g = fetches_at at (ranges_shown g)

-- in version 2
abbrev pub groups_at : ℕ → ℕ → Merged → (List ℕ × List RangesFetch)
groups_at max at g = ranges_fetches max at (ranges_shown g)

abbrev pub groups : List Merged → List Group
groups merged = map (λ g. group_of (ranges_shown g)) merged

pub shown_twice : {X : Type 0} (f : Ranges → X) (gs : List Merged) → map (λ g. f (ranges_shown g)) gs ≡ map f (map ranges_shown gs)
shown_twice f [] = refl
shown_twice {X} f (g ∷ gs) = ap (λ (xs : List X). f (ranges_shown g) ∷ xs) (shown_twice f gs)

-- each entry is below each of the rest
abbrev pub Apart : {X : Type 0} → List (LinkEntry X) → List Merged → Type 0
Apart es rest = AllByRecursion (λ g. AllByRecursion (λ e. Before e.0.0 g.0) es) rest

-- the links of the first ones are there, and below the rest
pub record LinksSoFar {X : Type 0} (f : Merged → (List ℕ × List X)) (merged : List Merged) (i : ℕ) (es : List (LinkEntry X)) : Type 0 where
  pub same : map listed es ≡ map f (take i merged)
  pub below : Apart es (drop i merged)
  pub rising : Rising (groups (drop i merged))

abbrev no_entries : (X : Type 0) → List (LinkEntry X)
no_entries X = []

nothing_above : (X : Type 0) (rest : List Merged) → Apart (no_entries X) rest
nothing_above X [] = tt
nothing_above X (g ∷ rest) = (tt, nothing_above X rest)

pub links_none : {X : Type 0} (f : Merged → (List ℕ × List X)) (merged : List Merged) (es : List (LinkEntry X)) → es ≡ [] → Rising (groups merged) → LinksSoFar f merged 0 es
links_none {X} f merged es none rising = subst (LinksSoFar f merged 0) (sym none) (record { same = refl; below = nothing_above X merged; rising = rising })

-- an entry above all goes last
insert_above : {X : Type 0} (es : List (LinkEntry X)) (k : HexMerkleHash) (v : Vec X) → AllByRecursion (λ e. Before e.0.0 k.0) es → insert_entry hex_cmp es k v ≡ es ++ (k, v) ∷ []
insert_above [] k v a = refl
insert_above {X} (e ∷ es) k v a =
    ap (λ r. match_ordering r ((k, v) ∷ e ∷ es) ((e.0, v) ∷ es) (e ∷ insert_entry hex_cmp es k v)) (hash_total.antisymm k.0 e.0.0 ∙ ap ordering_reverse a.0)
    ∙ ap (λ (fs : List (LinkEntry X)). e ∷ fs) (insert_above es k v a.1)

all_push : {X : Type 0} (P : X → Type 0) (xs : List X) (x : X) → AllByRecursion P xs → P x → AllByRecursion P (xs ++ x ∷ [])
all_push P [] x a p = (p, tt)
all_push P (y ∷ ys) x a p = (a.0, all_push P ys x a.1 p)

apart_push : {X : Type 0} (es : List (LinkEntry X)) (e : LinkEntry X) (rest : List Merged) → Apart es rest → AllByRecursion (λ q. Before e.0.0 q.hash) (groups rest) → Apart (es ++ e ∷ []) rest
apart_push es e [] a b = tt
apart_push es e (g ∷ rest) a b = (all_push (λ f. Before f.0.0 g.0) es e a.0 b.0, apart_push es e rest a.1 b.1)

read_from : (xs : List Merged) (i : ℕ) (d : Merged) → i < length xs → drop i xs ≡ get_or xs i d ∷ drop (i + 1) xs
read_from [] i d l = let no : ⊥ = omega (arith, l) in absurd no
read_from (x ∷ xs) zero d l = refl
read_from (x ∷ xs) (suc i) d l = read_from xs i d (omega (arith, l)) ∙ ap (λ n. get_or xs i d ∷ drop n (x ∷ xs)) (let e : suc (i + 1) ≡ suc i + 1 = omega arith in e)

-- the links of one more xorb
pub links_more : {X : Type 0} (f : Merged → (List ℕ × List X)) (merged : List Merged) (i : ℕ) (es new : List (LinkEntry X)) (g : Merged) (k : HexMerkleHash) (v : Vec X) → i < length merged → g ≡ get_or merged i g → k.0 ≡ g.0 → listed (k, v) ≡ f g
    → LinksSoFar f merged i es → new ≡ insert_entry hex_cmp es k v → LinksSoFar f merged (i + 1) new
links_more {X} f merged i es new g k v l is key shown so put =
    let rest = drop (i + 1) merged in
    let split : drop i merged ≡ g ∷ rest = read_from merged i g l ∙ ap (λ (h : Merged). h ∷ rest) (sym is) in
    let apart : Apart es (g ∷ rest) = subst (Apart es) split so.below in
    let rises : Rising (groups (g ∷ rest)) = subst (λ ms. Rising (groups ms)) split so.rising in
    let below : AllByRecursion (λ e. Before e.0.0 k.0) es = subst (λ h. AllByRecursion (λ (e : LinkEntry X). Before e.0.0 h) es) (sym key) apart.0 in
    let last : new ≡ es ++ (k, v) ∷ [] = put ∙ insert_above es k v below in
    let more : take (i + 1) merged ≡ take i merged ++ g ∷ [] = take_more merged i g l ∙ ap (λ (h : Merged). take i merged ++ h ∷ []) (sym is) in
    subst (LinksSoFar f merged (i + 1)) (sym last) (record {
      same = map_push listed es (k, v) ∙ ap (λ (xs : List (List ℕ × List X)). xs ++ listed (k, v) ∷ []) so.same ∙ ap (λ (x : List ℕ × List X). map f (take i merged) ++ x ∷ []) shown
          ∙ sym (map_push f (take i merged) g) ∙ sym (ap (map f) more);
      below = apart_push es (k, v) rest apart.1 (subst (λ h. AllByRecursion (λ q. Before h q.hash) (groups rest)) (sym key) rises.0);
      rising = rises.1;
    })
