-- Xorbs that are put in and taken out again.
use Rattle.std.proofs.Common.{◌≡◌, ◌∙◌, ℕ, ◌||◌, cond, Bool, true, false, List, [], ◌∷◌, ◌++◌, Option, Some, None, refl, sym, ap}
use Rattle.std.specs.List.{fold}
use Rattle.std.specs.Option.{is_some}
use Rattle.std.specs.Ordering.{eq_by_cmp}
use Rattle.std.specs.FinMap.{FinMap, get, insert, remove, get-insert, get-remove, same_map}
use Rattle.std.proofs.lemmas.Map.Text.{is_eq-slice_cmp}
use lib.Pointwise.{bytes_decides}
use Rattle.xet_types.specs.Names.{hash_cmp, xorb_name}
use Rattle.xet_bytes.proofs.Maps.{hash_exact, hash_total}
use Rattle.xet_store.specs.StoreModel.{StoreModel, Chunks, stored, with_xorb}
use Rattle.xet_store.specs.Commands.{with_absent}
use Rattle.xet_store.specs.Undoing.{without_xorbs}

abbrev Table : Type 0
Table = FinMap hash_cmp Chunks

out : Table → List (List ℕ) → Table
out t hashes = fold (λ u h. remove u h) t hashes

among : List ℕ → List (List ℕ) → Bool
among q [] = false
among q (h ∷ hs) = eq_by_cmp hash_cmp q h || among q hs

gone_twice : (a b : Bool) (o : Option Chunks) → cond b None (cond a None o) ≡ cond (a || b) None o
gone_twice true true o = refl
gone_twice true false o = refl
gone_twice false b o = refl

get_out : (t : Table) (hs : List (List ℕ)) (q : List ℕ) → get (out t hs) q ≡ cond (among q hs) None (get t q)
unfolding out among
get_out t [] q = refl
get_out t (h ∷ hs) q =
    get_out (remove t h) hs q ∙ ap (λ (o : Option Chunks). cond (among q hs) None o) (get-remove hash_total t h q) ∙ gone_twice (eq_by_cmp hash_cmp q h) (among q hs) (get t q)

or_last : (a b c : Bool) → a || (b || c) ≡ (a || b) || c
or_last true b c = refl
or_last false b c = refl

or_false : (a : Bool) → a || false ≡ a
or_false true = refl
or_false false = refl

among_push : (q : List ℕ) (hs : List (List ℕ)) (h : List ℕ) → among q (hs ++ h ∷ []) ≡ among q hs || eq_by_cmp hash_cmp q h
unfolding among
among_push q [] h = or_false (eq_by_cmp hash_cmp q h)
among_push q (k ∷ ks) h = ap (λ b. eq_by_cmp hash_cmp q k || b) (among_push q ks h) ∙ or_last (eq_by_cmp hash_cmp q k) (among q ks) (eq_by_cmp hash_cmp q h)

same_key : (q h : List ℕ) → eq_by_cmp hash_cmp q h ≡ true → q ≡ h
same_key q h e = (bytes_decides q h).0 (sym (is_eq-slice_cmp q h) ∙ e)

at_push : (t u : Table) (hs : List (List ℕ)) (h q : List ℕ) (b : Bool) → eq_by_cmp hash_cmp q h ≡ b → get t h ≡ None → (eq_by_cmp hash_cmp q h ≡ false → get u q ≡ get t q) → cond (among q hs || b) None (get u q) ≡ cond (among q hs) None (get t q)
at_push t u hs h q true e none same =
    let gone : get t q ≡ None = ap (get t) (same_key q h e) ∙ none in
    elim (among q hs) as (λ a. cond (a || true) None (get u q) ≡ cond a None (get t q)) [
      | true ↦ refl
      | false ↦ sym gone
    ]
at_push t u hs h q false e none same =
    elim (among q hs) as (λ a. cond (a || false) None (get u q) ≡ cond a None (get t q)) [
      | true ↦ refl
      | false ↦ same e
    ]

-- a table that differs at a key at which there was nothing, without that key
out_push : (t u : Table) (hs : List (List ℕ)) (h : List ℕ) → get t h ≡ None → ((q : List ℕ) → eq_by_cmp hash_cmp q h ≡ false → get u q ≡ get t q) → out u (hs ++ h ∷ []) ≡ out t hs
out_push t u hs h none same = same_map hash_total hash_exact _ _ (λ q.
    get_out u (hs ++ h ∷ []) q
    ∙ ap (λ b. cond b None (get u q)) (among_push q hs h)
    ∙ at_push t u hs h q (eq_by_cmp hash_cmp q h) refl none (same q)
    ∙ sym (get_out t hs q))

inserted : (t : Table) (h : List ℕ) (x : Chunks) (q : List ℕ) → eq_by_cmp hash_cmp q h ≡ false → get (insert t h x) q ≡ get t q
inserted t h x q e = get-insert hash_total t h x q ∙ ap (λ b. cond b (Some x) (get t q)) e

only_xorbs : (hs : List (List ℕ)) (m : StoreModel) → without_xorbs m hs ≡ record m { xorbs = out m.xorbs hs }
unfolding out
only_xorbs [] m = refl
only_xorbs (h ∷ hs) m = only_xorbs hs (record m { xorbs = remove m.xorbs h })

missing : (o : Option Chunks) → is_some o ≡ false → o ≡ None
missing None e = refl
missing (Some x) e = let no : ⊥ = cc in absurd no

with_table : StoreModel → Table → StoreModel
with_table m t = record m { xorbs = t }

-- a xorb that was put in under a new name, which is noted
pub put_out : (m : StoreModel) (hs : List (List ℕ)) (h : List ℕ) (x : Chunks) → is_some (get m.xorbs h) ≡ false → without_xorbs (with_xorb m h x) (hs ++ h ∷ []) ≡ without_xorbs m hs
unfolding with_table
put_out m hs h x none =
    only_xorbs (hs ++ h ∷ []) (with_xorb m h x)
    ∙ ap (with_table m) (out_push m.xorbs (insert m.xorbs h x) hs h (missing (get m.xorbs h) none) (inserted m.xorbs h x))
    ∙ sym (only_xorbs hs m)

-- a name that is noted, and no xorb under it
pub noted_out : (m : StoreModel) (hs : List (List ℕ)) (h : List ℕ) → is_some (get m.xorbs h) ≡ false → without_xorbs m (hs ++ h ∷ []) ≡ without_xorbs m hs
unfolding with_table
noted_out m hs h none =
    only_xorbs (hs ++ h ∷ []) m
    ∙ ap (with_table m) (out_push m.xorbs m.xorbs hs h (missing (get m.xorbs h) none) (λ q e. refl))
    ∙ sym (only_xorbs hs m)

-- the xorb is put in where none is under its name
pub put_absent : (m : StoreModel) (x : Chunks) → is_some (stored m (xorb_name x)) ≡ false → with_xorb m (xorb_name x) x ≡ with_absent m x
put_absent m x none = ap (λ b. cond b m (with_xorb m (xorb_name x) x)) (sym none)

pub put_present : (m : StoreModel) (x : Chunks) → is_some (stored m (xorb_name x)) ≡ true → m ≡ with_absent m x
put_present m x some = ap (λ b. cond b m (with_xorb m (xorb_name x) x)) (sym some)
