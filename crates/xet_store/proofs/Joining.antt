-- Lists under hashes, put one behind the other.
use Rattle.std.proofs.Common.{◌≡◌, ◌∙◌, ℕ, ◌&&◌, ◌||◌, cond, true, false, Bool, List, [], ◌∷◌, ◌++◌, map, Option, Some, None, Ordering, refl, sym, ap, subst}
use Rattle.std.specs.Prelude.{T}
use Rattle.std.specs.Global.{Vec}
use Rattle.std.specs.Option.{is_some, option_map}
use Rattle.std.specs.Ordering.{eq_by_cmp, is_eq, is_lt}
use Rattle.std.specs.declared.cmp.Ordering.TheVariants.{Less, Equal, Greater}
use Rattle.std.specs.Cmp.{eq_by_cmp_equiv}
use Rattle.std.specs.List.{AllByRecursion}
use Rattle.std.specs.List.Sorted.{IsStrictlySortedBy}
use Rattle.std.specs.Map.{lookup, keys_of}
use Rattle.std.specs.BTreeMap.{is_at}
use Rattle.std.specs.FinMap.{get, entries, entries_sorted, get-entries, is_sorted, find}
use Rattle.std.specs.FinMap.Entries.{below_all, put, find-put, is_sorted-put, same_entries}
use Rattle.std.proofs.lemmas.List.{append-nil, append_assoc}
use Rattle.std.proofs.lemmas.Grind.{flat_map-append}
use Rattle.xet_types.specs.Names.{hash_cmp, same_hash}
use Rattle.xet_types.specs.RecordMaps.{listed, hex_cmp}
use Rattle.xet_types.specs.declared.key.HexMerkleHash.{HexMerkleHash}
use Rattle.xet_bytes.proofs.Maps.{hash_total, hash_exact}
use Rattle.xet_store.specs.Lists.{set_of}
use Rattle.xet_store.specs.Checks.{is_among}
use Rattle.xet_store.specs.Batches.{Listed, hashes_of, list_at, joined_at, joined_by_hash, behind, with_joined, with_all_joined}
use Rattle.xet_store.proofs.Sets.{same_by_cmp, has-set_of}

abbrev Unit0 : Type 0
Unit0 = Unit {0}

equal_of : (r : Ordering) → is_eq r ≡ true → r ≡ Equal
equal_of Less e = absurd cc
equal_of Equal e = refl
equal_of Greater e = absurd cc

key_is : (q h : List ℕ) → eq_by_cmp hash_cmp q h ≡ true → q ≡ h
key_is q h e = hash_exact q h (equal_of (hash_cmp q h) e)

-- ---- each hash of a set, with what a function gives of it

module _ {X : Type 0} (f : List ℕ → List X) where
  abbrev over : List (List ℕ × Unit0) → List (Listed X)
  over es = map (λ h. (h, f h)) (map (λ (e : List ℕ × Unit0). e.0) es)

  found_over : (es : List (List ℕ × Unit0)) (q : List ℕ) → find hash_cmp q (over es) ≡ option_map (λ (u : Unit0). f q) (find hash_cmp q es)
  found_over [] q = refl
  found_over (e ∷ es) q =
      elim (eq_by_cmp hash_cmp q e.0) as (λ b. eq_by_cmp hash_cmp q e.0 ≡ b → cond b (Some (f e.0)) (find hash_cmp q (over es)) ≡ option_map (λ (u : Unit0). f q) (cond b (Some e.1) (find hash_cmp q es))) [
        | true ↦ λ t. ap (λ h. Some (f h)) (sym (key_is q e.0 t))
        | false ↦ λ t. found_over es q
      ] refl

  below_over : (q : List ℕ) (es : List (List ℕ × Unit0)) → below_all hash_cmp q (over es) ≡ below_all hash_cmp q es
  below_over q [] = refl
  below_over q (e ∷ es) = ap (λ b. is_lt (hash_cmp q e.0) && b) (below_over q es)

  order_over : (es : List (List ℕ × Unit0)) → is_sorted hash_cmp (over es) ≡ is_sorted hash_cmp es
  order_over [] = refl
  order_over (e ∷ es) = ap (λ b. b && is_sorted hash_cmp (over es)) (below_over e.0 es) ∙ ap (λ b. below_all hash_cmp e.0 es && b) (order_over es)

-- ---- lists under hashes

module _ {X : Type 0} where
  pub joined_sorted : (es : List (Listed X)) → T (is_sorted hash_cmp (joined_by_hash es))
  joined_sorted es = subst T (sym (order_over (joined_at es) (entries (set_of (hashes_of es))))) (entries_sorted (set_of (hashes_of es)))

  where_some : (o : Option Unit0) (xs : List X) → option_map (λ (u : Unit0). xs) o ≡ cond (is_some o) (Some xs) None
  where_some None xs = refl
  where_some (Some u) xs = refl

  found_joined : (es : List (Listed X)) (q : List ℕ) → find hash_cmp q (joined_by_hash es) ≡ cond (is_among (hashes_of es) q) (Some (joined_at es q)) None
  found_joined es q =
      let set = set_of (hashes_of es) in
      found_over (joined_at es) (entries set) q
      ∙ ap (option_map (λ (u : Unit0). joined_at es q)) (sym (get-entries set q))
      ∙ where_some (get set q) (joined_at es q)
      ∙ ap (λ b. cond b (Some (joined_at es q)) None) (has-set_of (hashes_of es) q)

  joined_push : (es : List (Listed X)) (e : Listed X) (q : List ℕ) → joined_at (es ++ e ∷ []) q ≡ joined_at es q ++ list_at q e
  joined_push es e q = flat_map-append (list_at q) es (e ∷ []) ∙ ap (λ (xs : List X). joined_at es q ++ xs) (append-nil (list_at q e))

  among_push : (es : List (Listed X)) (e : Listed X) (q : List ℕ) → is_among (hashes_of (es ++ e ∷ [])) q ≡ (is_among (hashes_of es) q || same_hash e.0 q)
  among_push [] e q = elim (same_hash e.0 q) as (λ b. (b || false) ≡ b) [ true ↦ refl | false ↦ refl ]
  among_push (f ∷ es) e q =
      elim (same_hash f.0 q) as (λ b. (b || is_among (hashes_of (es ++ e ∷ [])) q) ≡ ((b || is_among (hashes_of es) q) || same_hash e.0 q)) [ true ↦ refl | false ↦ among_push es e q ]

  none_joined : (es : List (Listed X)) (q : List ℕ) → is_among (hashes_of es) q ≡ false → joined_at es q ≡ []
  none_joined [] q e = refl
  none_joined (f ∷ es) q e =
      elim (same_hash f.0 q) as (λ b. (b || is_among (hashes_of es) q) ≡ false → cond b f.1 [] ++ joined_at es q ≡ []) [
        | true ↦ λ no. absurd cc
        | false ↦ λ rest. none_joined es q rest
      ] e

  -- what stands behind what was found
  behind_found : (es : List (Listed X)) (h : List ℕ) (xs : List X) → (b : Bool) → is_among (hashes_of es) h ≡ b → joined_at es h ++ xs ≡ behind (cond b (Some (joined_at es h)) None) xs
  behind_found es h xs true e = refl
  behind_found es h xs false e = ap (λ (ys : List X). ys ++ xs) (none_joined es h e)

  found_more : (es : List (Listed X)) (e : Listed X) (q : List ℕ) → find hash_cmp q (joined_by_hash (es ++ e ∷ [])) ≡ find hash_cmp q (with_joined (joined_by_hash es) e)
  found_more es e q =
      found_joined (es ++ e ∷ []) q
      ∙ ap (λ b. cond b (Some (joined_at (es ++ e ∷ []) q)) None) (among_push es e q)
      ∙ ap (λ (xs : List X). cond (is_among (hashes_of es) q || same_hash e.0 q) (Some xs) None) (joined_push es e q)
      ∙ by_key
      ∙ sym (find-put hash_cmp hash_total q e.0 (behind (find hash_cmp e.0 (joined_by_hash es)) e.1) (joined_by_hash es))
    where
      old : Option (List X)
      old = find hash_cmp e.0 (joined_by_hash es)

      at_key : q ≡ e.0 → Some (joined_at es q ++ e.1) ≡ Some (behind (find hash_cmp e.0 (joined_by_hash es)) e.1)
      at_key k =
          ap (λ h. Some (joined_at es h ++ e.1)) k
          ∙ ap (λ (xs : List X). Some xs) (behind_found es e.0 e.1 (is_among (hashes_of es) e.0) refl ∙ ap (λ (o : Option (List X)). behind o e.1) (sym (found_joined es e.0)))

      gone : (b : Bool) → cond (b || false) (Some (joined_at es q ++ [])) None ≡ cond b (Some (joined_at es q)) None
      gone true = ap (λ (xs : List X). Some xs) (append-nil (joined_at es q))
      gone false = refl

      always : (b : Bool) (o : Option (List X)) → cond (b || true) o None ≡ o
      always true o = refl
      always false o = refl

      by_key : cond (is_among (hashes_of es) q || same_hash e.0 q) (Some (joined_at es q ++ list_at q e)) None ≡ cond (eq_by_cmp hash_cmp q e.0) (Some (behind (find hash_cmp e.0 (joined_by_hash es)) e.1)) (find hash_cmp q (joined_by_hash es))
      by_key =
          elim (eq_by_cmp hash_cmp q e.0) as (λ b. eq_by_cmp hash_cmp q e.0 ≡ b → cond (is_among (hashes_of es) q || same_hash e.0 q) (Some (joined_at es q ++ list_at q e)) None ≡ cond b (Some (behind (find hash_cmp e.0 (joined_by_hash es)) e.1)) (find hash_cmp q (joined_by_hash es))) [
            | true ↦ λ t. ap (λ b. cond (is_among (hashes_of es) q || b) (Some (joined_at es q ++ cond b e.1 [])) None) (sym (same_by_cmp q e.0) ∙ t) ∙ always (is_among (hashes_of es) q) (Some (joined_at es q ++ e.1)) ∙ at_key (key_is q e.0 t)
            | false ↦ λ t. ap (λ b. cond (is_among (hashes_of es) q || b) (Some (joined_at es q ++ cond b e.1 [])) None) (sym (same_by_cmp q e.0) ∙ t) ∙ gone (is_among (hashes_of es) q) ∙ sym (found_joined es q)
          ] refl

  pub joined_more : (es : List (Listed X)) (e : Listed X) → with_joined (joined_by_hash es) e ≡ joined_by_hash (es ++ e ∷ [])
  joined_more es e =
      same_entries hash_cmp hash_total hash_exact _ _
      (is_sorted-put hash_cmp hash_total e.0 (behind (find hash_cmp e.0 (joined_by_hash es)) e.1) (joined_by_hash es) (joined_sorted es))
      (joined_sorted (es ++ e ∷ []))
      (λ q. sym (found_more es e q))

  -- the lists behind those that are there
  pub joined_all : (es fs : List (Listed X)) → with_all_joined (joined_by_hash es) fs ≡ joined_by_hash (es ++ fs)
  joined_all es [] = ap (λ (xs : List (Listed X)). joined_by_hash xs) (sym (append-nil es))
  joined_all es (f ∷ fs) =
      ap (λ (xs : List (Listed X)). with_all_joined xs fs) (joined_more es f)
      ∙ joined_all (es ++ f ∷ []) fs
      ∙ ap (λ (xs : List (Listed X)). joined_by_hash xs) (append_assoc es (f ∷ []) fs)

-- ---- maps by hash as lists under hashes

abbrev pub Entries : Type 0 → Type 0
Entries X = List (HexMerkleHash × Vec X)

abbrev hex : List ℕ → HexMerkleHash
hex q = record { 0 = q }

both : (a b : Bool) → T a → T b → T (a && b)
both true b p q = q
both false b p q = p

module _ {X : Type 0} where
  abbrev items_of : Vec X → List X
  items_of v = v.items

  found_listed : (es : Entries X) (q : HexMerkleHash) → find hash_cmp q.0 (map listed es) ≡ option_map items_of (lookup (is_at (hex_cmp q)) es)
  found_listed [] q = refl
  found_listed (e ∷ es) q =
      elim (is_eq (hash_cmp q.0 e.0.0)) as (λ b. cond b (Some e.1.items) (find hash_cmp q.0 (map listed es)) ≡ option_map items_of (cond b (Some e.1) (lookup (is_at (hex_cmp q)) es))) [
        | true ↦ refl
        | false ↦ found_listed es q
      ]

  below_listed : (k : HexMerkleHash) (es : Entries X) → AllByRecursion (λ q. hex_cmp k q ≡ Less) (keys_of es) → T (below_all hash_cmp k.0 (map listed es))
  below_listed k [] h = tt
  below_listed k (e ∷ es) h = both (is_lt (hash_cmp k.0 e.0.0)) (below_all hash_cmp k.0 (map listed es)) (subst (λ r. T (is_lt r)) (sym h.0) tt) (below_listed k es h.1)

  listed_sorted : (es : Entries X) → IsStrictlySortedBy hex_cmp (keys_of es) → T (is_sorted hash_cmp (map listed es))
  unfolding IsStrictlySortedBy
  listed_sorted [] h = tt
  listed_sorted (e ∷ es) h = both (below_all hash_cmp e.0.0 (map listed es)) (is_sorted hash_cmp (map listed es)) (below_listed e.0 es h.0) (listed_sorted es h.1)

  -- what is at a hash after a value was put there
  abbrev pub Puts : Entries X → Entries X → HexMerkleHash → Vec X → Type 0
  Puts old new k v = (q : HexMerkleHash) → lookup (is_at (hex_cmp q)) new ≡ cond (is_at (hex_cmp k) q) (Some v) (lookup (is_at (hex_cmp q)) old)

  mapped : (b : Bool) (v : Vec X) (o : Option (Vec X)) → option_map items_of (cond b (Some v) o) ≡ cond b (Some v.items) (option_map items_of o)
  mapped true v o = refl
  mapped false v o = refl

  pub listed_put : (old new : Entries X) (k : HexMerkleHash) (v : Vec X) → IsStrictlySortedBy hex_cmp (keys_of old) → IsStrictlySortedBy hex_cmp (keys_of new) → Puts old new k v → map listed new ≡ put hash_cmp k.0 v.items (map listed old)
  listed_put old new k v sorted rising puts =
      same_entries hash_cmp hash_total hash_exact _ _ (listed_sorted new rising) (is_sorted-put hash_cmp hash_total k.0 v.items (map listed old) (listed_sorted old sorted))
      (λ q.
      found_listed new (hex q)
      ∙ ap (option_map items_of) (puts (hex q))
      ∙ mapped (is_at (hex_cmp k) (hex q)) v (lookup (is_at (hex_cmp (hex q))) old)
      ∙ ap (λ b. cond b (Some v.items) (option_map items_of (lookup (is_at (hex_cmp (hex q))) old))) ((eq_by_cmp_equiv hash_total).symm k.0 q)
      ∙ ap (cond (eq_by_cmp hash_cmp q k.0) (Some v.items)) (sym (found_listed old (hex q)))
      ∙ sym (find-put hash_cmp hash_total q k.0 v.items (map listed old)))

  -- the list of a hash, with more behind it
  pub listed_joined : (old new : Entries X) (k : HexMerkleHash) (o : Option (Vec X)) (v : Vec X) (more : List X) → IsStrictlySortedBy hex_cmp (keys_of old) → IsStrictlySortedBy hex_cmp (keys_of new)
      → o ≡ lookup (is_at (hex_cmp k)) old → Puts old new k v → v.items ≡ behind (option_map items_of o) more → map listed new ≡ with_joined (map listed old) (k.0, more)
  listed_joined old new k o v more sorted rising was puts joined =
      listed_put old new k v sorted rising puts
      ∙ ap (λ (xs : List X). put hash_cmp k.0 xs (map listed old)) (joined ∙ ap (λ (p : Option (Vec X)). behind (option_map items_of p) more) was ∙ ap (λ (p : Option (List X)). behind p more) (sym (found_listed old k)))
