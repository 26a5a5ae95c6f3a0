-- Entries put behind those that a map has.
use Rattle.std.specs.Prelude.{◌≡◌, ℕ, List, [], ◌∷◌, ◌++◌, map}
use Rattle.std.specs.Global.{Vec}
use Rattle.std.specs.List.{AllByRecursion}
use Rattle.std.specs.List.Sorted.{IsStrictlySortedBy}
use Rattle.std.specs.Map.{keys_of}
use Rattle.std.specs.BTreeMap.{insert_entry}
use Rattle.std.specs.Ordering.{ordering_reverse, match_ordering}
use Rattle.std.specs.declared.cmp.Ordering.{Ordering}
use Rattle.std.specs.declared.cmp.Ordering.TheVariants.{Less, Greater}
use Rattle.std.specs.Cmp.{IsTotalOrder}
use Rattle.std.proofs.lemmas.List.{map_push, append_assoc, append-nil}
use Rattle.std.proofs.lemmas.Cmp.{nat_list_cmp_total}
use Rattle.xet_types.specs.declared.key.HexMerkleHash.{HexMerkleHash}
use Rattle.xet_types.specs.RecordMaps.{listed, hex_cmp}
use mathlib.Core.Path.{refl, sym, ap, subst, ◌∙◌}

in_middle : {K : Type 0} (P : K → Type 0) (xs : List K) (k : K) (ks : List K) → AllByRecursion P (xs ++ k ∷ ks) → P k
in_middle P [] k ks all = all.0
in_middle P (x ∷ xs) k ks all = in_middle P xs k ks all.1

module _ {K : Type 0} {R : K → K → Ordering} (order : IsTotalOrder R) where
  above : (x k : K) → R x k ≡ Less → R k x ≡ Greater
  above x k below = order.antisymm k x ∙ ap ordering_reverse below

  -- a key past all that are there goes last
  pub insert_last : {X : Type 0} (es : List (K × X)) (k : K) (v : X) (ks : List K) → IsStrictlySortedBy R (keys_of es ++ k ∷ ks) → insert_entry R es k v ≡ es ++ (k, v) ∷ []
  unfolding IsStrictlySortedBy
  insert_last [] k v ks sorted = refl
  insert_last (e ∷ es) k v ks sorted =
      ap (λ r. match_ordering r ((k, v) ∷ e ∷ es) ((e.0, v) ∷ es) (e ∷ insert_entry R es k v)) (above e.0 k (in_middle (λ y. R e.0 y ≡ Less) (keys_of es) k ks sorted.0))
      ∙ ap (λ fs. e ∷ fs) (insert_last es k v ks sorted.1)

hex_cmp_total : IsTotalOrder hex_cmp
hex_cmp_total = record {
  antisymm = λ x y. nat_list_cmp_total.antisymm x.0 y.0;
  trans = λ x y z. nat_list_cmp_total.trans x.0 y.0 z.0;
  congr = λ x y z. nat_list_cmp_total.congr x.0 y.0 z.0;
}

-- the hash, and what h makes of the list
abbrev pub over : {A B : Type 0} → (List A → List B) → (List ℕ × List A) → (List ℕ × List B)
over h e = (e.0, h e.1)

-- What was made, and then what is made of the rest, is what is made of all. The hashes of both rise.
pub record IsMade {A B : Type 0} (h : List A → List B) (made : List (HexMerkleHash × Vec B)) (rest all : List (HexMerkleHash × Vec A)) : Type 0 where
  pub same : map listed made ++ map (over h) (map listed rest) ≡ map (over h) (map listed all)
  pub rises : IsStrictlySortedBy hex_cmp (keys_of made ++ keys_of rest)

module _ {A B : Type 0} (h : List A → List B) where
  pub made_none : (made : List (HexMerkleHash × Vec B)) (rest all : List (HexMerkleHash × Vec A)) → made ≡ [] → rest ≡ all → IsStrictlySortedBy hex_cmp (keys_of all) → IsMade h made rest all
  made_none made rest all none whole rises =
      subst (λ es. IsMade h es rest all) (sym none) (subst (λ es. IsMade h [] es all) (sym whole) (record { same = refl; rises = rises }))

  behind : (made : List (HexMerkleHash × Vec B)) (hash : HexMerkleHash) (old : Vec A) (new : Vec B) (rest all : List (HexMerkleHash × Vec A))
      → new.items ≡ h old.items → IsMade h made ((hash, old) ∷ rest) all → IsMade h (made ++ (hash, new) ∷ []) rest all
  behind made hash old new rest all of_old was =
      let moved : map listed (made ++ (hash, new) ∷ []) ++ map (over h) (map listed rest) ≡ map listed made ++ (hash.0, new.items) ∷ map (over h) (map listed rest) =
      ap (λ xs. xs ++ map (over h) (map listed rest)) (map_push listed made (hash, new)) ∙ append_assoc (map listed made) (listed (hash, new) ∷ []) (map (over h) (map listed rest)) in
      let keys : keys_of (made ++ (hash, new) ∷ []) ++ keys_of rest ≡ keys_of made ++ hash ∷ keys_of rest =
      ap (λ xs. xs ++ keys_of rest) (map_push (λ (e : HexMerkleHash × Vec B). e.0) made (hash, new)) ∙ append_assoc (keys_of made) (hash ∷ []) (keys_of rest) in
      record {
        same = moved ∙ ap (λ (xs : List B). map listed made ++ (hash.0, xs) ∷ map (over h) (map listed rest)) of_old ∙ was.same;
        rises = subst (IsStrictlySortedBy hex_cmp) (sym keys) was.rises;
      }

  pub made_more : (made new : List (HexMerkleHash × Vec B)) (hash : HexMerkleHash) (before : Vec A) (after : Vec B) (left rest all : List (HexMerkleHash × Vec A))
      → new ≡ insert_entry hex_cmp made hash after → left ≡ (hash, before) ∷ rest → after.items ≡ h before.items → IsMade h made left all → IsMade h new rest all
  made_more made new hash before after left rest all put first of_before was =
      let here : IsMade h made ((hash, before) ∷ rest) all = subst (λ es. IsMade h made es all) first was in
      subst (λ es. IsMade h es rest all) (sym (put ∙ insert_last hex_cmp_total made hash after (keys_of rest) here.rises)) (behind made hash before after rest all of_before here)

  pub made_all : (made : List (HexMerkleHash × Vec B)) (rest all : List (HexMerkleHash × Vec A)) → rest ≡ [] → IsMade h made rest all → map listed made ≡ map (over h) (map listed all)
  made_all made rest all none was =
      sym (append-nil (map listed made)) ∙ ap (λ (es : List (HexMerkleHash × Vec A)). map listed made ++ map (over h) (map listed es)) (sym none) ∙ was.same

-- a list as it is
abbrev pub itself : {A : Type 0} → List A → List A
itself xs = xs

pub over_itself : {A : Type 0} (es : List (List ℕ × List A)) → map (over itself) es ≡ es
over_itself [] = refl
over_itself (e ∷ es) = ap (λ fs. e ∷ fs) (over_itself es)
