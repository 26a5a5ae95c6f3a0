-- Entries in order as a finite map.
use denote.Ref.{Bor}
use Rattle.std.specs.Prelude.{IfSome}
use Rattle.std.specs.Option.{option_copied}
use Rattle.std.proofs.Common.{◌≡◌, cond, ◌&&◌, Bool, List, [], ◌∷◌, map, Option, Some, None, Ordering, true, false, subst, refl, sym, ap, ◌∙◌}
use Rattle.std.specs.Prelude.{T}
use Rattle.std.specs.List.{AllByRecursion}
use Rattle.std.specs.List.Sorted.{IsStrictlySortedBy}
use Rattle.std.specs.Ordering.{is_lt}
use Rattle.std.specs.declared.cmp.Ordering.TheVariants.{Less}
use Rattle.std.specs.Cmp.{IsTotalOrder, eq_by_cmp_equiv}
use Rattle.std.specs.Cmp.Lexicographic.{nat_list_cmp_total}
use Rattle.std.specs.Map.{lookup}
use Rattle.std.specs.BTreeMap.{is_at}
use Rattle.std.specs.FinMap.{FinMap, IsAntisymmetric, entries, is_sorted, find, get, insert, remove, from_entries, from_sorted, entries-from_sorted, get-from_sorted, get-from_entries, get-insert, get-remove, same_map, slice_cmp-IsAntisymmetric, nat_cmp-IsAntisymmetric}
use Rattle.std.specs.FinMap.Entries.{below_all}
use Rattle.xet_types.specs.Names.{hash_cmp}

abbrev pub found : {A : Type 0} → A → Option A
found x = Some x

pub some_is : {A : Type 0} (x y : A) → found x ≡ found y → x ≡ y
some_is x y e = cc

module _ {K X : Type 0} (R : K → K → Ordering) (whole : IsTotalOrder R) (exact : IsAntisymmetric R) where
  find_is : (es : List (K × X)) (q : K) → find R q es ≡ lookup (is_at (R q)) es
  find_is [] q = refl
  find_is (e ∷ es) q = ap (cond (is_at (R q) e.0) (Some e.1)) (find_is es q)

  -- what the map of the entries has at a key
  pub get_is : (es : List (K × X)) (q : K) → get (from_entries {R = R} es) q ≡ lookup (is_at (R q)) es
  get_is es q = get-from_entries whole es q ∙ find_is es q

  -- entries that differ at one key make maps that differ there
  pub put_is : (es fs : List (K × X)) (k : K) (x : X) → ((q : K) → lookup (is_at (R q)) fs ≡ cond (is_at (R k) q) (Some x) (lookup (is_at (R q)) es)) → from_entries {R = R} fs ≡ insert (from_entries es) k x
  put_is es fs k x h = same_map whole exact _ _ (λ q.
      get_is fs q ∙ h q ∙ ap (λ b. cond b (Some x) (lookup (is_at (R q)) es)) ((eq_by_cmp_equiv whole).symm k q)
      ∙ sym (get-insert whole (from_entries es) k x q ∙ ap (cond (is_at (R q) k) (Some x)) (get_is es q)))

  -- entries of which one key is gone
  pub gone_is : (es fs : List (K × X)) (k : K) → ((q : K) → lookup (is_at (R q)) fs ≡ cond (is_at (R k) q) None (lookup (is_at (R q)) es)) → from_entries {R = R} fs ≡ remove (from_entries es) k
  gone_is es fs k h = same_map whole exact _ _ (λ q.
      get_is fs q ∙ h q ∙ ap (λ b. cond b None (lookup (is_at (R q)) es)) ((eq_by_cmp_equiv whole).symm k q)
      ∙ sym (get-remove whole (from_entries es) k q ∙ ap (cond (is_at (R q) k) None) (get_is es q)))

  -- what holds of each value still holds with one more
  pub each_put : (P : X → Type 0) (m : FinMap R X) (k : K) (x : X) → ((q : K) (y : X) → get m q ≡ Some y → P y) → P x → (q : K) (y : X) → get (insert m k x) q ≡ Some y → P y
  each_put P m k x each holds q y e =
      elim (is_at (R q) k) as (λ b. cond b (Some x) (get m q) ≡ Some y → P y) [
        | true ↦ λ h. subst P (some_is x y h) holds
        | false ↦ λ h. each q y h
      ] (sym (get-insert whole m k x q) ∙ e)

pub hash_exact : IsAntisymmetric hash_cmp
hash_exact = slice_cmp-IsAntisymmetric nat_cmp-IsAntisymmetric

pub hash_total : IsTotalOrder hash_cmp
hash_total = nat_list_cmp_total

-- what holds of each value that may be found holds of the one that is
pub each_found : {X : Type 0} (P : X → Type 0) (r : Option (Bor X)) → ((x : X) → option_copied r ≡ Some x → P x) → IfSome r (λ x. P x.now)
each_found P None each = tt
each_found P (Some x) each = each x.now refl

-- ---- entries that stand in order

both : (a b : Bool) → T a → T b → T (a && b)
both true b p q = q
both false b p q = p

below_all_keys : {K X : Type 0} (R : K → K → Ordering) (k : K) (es : List (K × X)) → AllByRecursion (λ q. R k q ≡ Less) (map (λ e. e.0) es) → T (below_all R k es)
below_all_keys R k [] h = tt
below_all_keys R k (e ∷ es) h = both (is_lt (R k e.0)) (below_all R k es) (subst (λ r. T (is_lt r)) (sym h.0) tt) (below_all_keys R k es h.1)

sorted_from_rising : {K X : Type 0} (R : K → K → Ordering) (es : List (K × X)) → IsStrictlySortedBy R (map (λ e. e.0) es) → T (is_sorted R es)
unfolding IsStrictlySortedBy
sorted_from_rising R [] h = tt
sorted_from_rising R (e ∷ es) h = both (below_all R e.0 es) (is_sorted R es) (below_all_keys R e.0 es h.0) (sorted_from_rising R es h.1)

-- the map of entries in order has these entries
pub entries_are : {K X : Type 0} (R : K → K → Ordering) → IsTotalOrder R → IsAntisymmetric R → (es : List (K × X)) → IsStrictlySortedBy R (map (λ e. e.0) es) → entries (from_entries {R = R} es) ≡ es
entries_are R whole exact es h =
    let sorted = sorted_from_rising R es h in
    ap entries (same_map whole exact (from_entries {R = R} es) (from_sorted {R = R} es) (λ q. get-from_entries whole es q ∙ sym (get-from_sorted R es q sorted)))
    ∙ entries-from_sorted R es sorted
