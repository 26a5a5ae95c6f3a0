-- Open reads by number, and what taking a link leaves.
use Rattle.std.proofs.Common.{◌≡◌, ℕ, zero, suc, ◌<◌, Bool, true, false, cond, List, [], ◌∷◌, Option, Some, None, refl, sym, ap, subst, arith}
use Rattle.std.specs.Prelude.{slice_get, slice_set, is_none}
use Rattle.std.specs.List.{AllByRecursion}
use Rattle.std.specs.Ordering.{nat_cmp, eq_by_cmp}
use Rattle.std.proofs.lemmas.List.Sums.{sum_by-cons}
use Rattle.std.proofs.lemmas.Cmp.{nat_cmp_total}
use Rattle.std.specs.FinMap.{get, insert, remove, get-insert, get-remove}
use Rattle.xet_store.specs.StoreModel.{Chunks}
use Rattle.xet_service.specs.declared.read.OpenRead.{OpenRead}
use Rattle.xet_service.specs.declared.reader.link.ReadLink.{ReadLink}
use Rattle.xet_service.specs.Reading.{if_left, left_link, left_one, count_left, with_got}
use Rattle.xet_service.specs.World.{Reads, IsOrderly}
use Rattle.xet_service.proofs.Serving.{tied_is}

-- ---- reads by number

-- a number is the key, or the map has there what it had
pub by_put : (P : Option OpenRead → Type 0) (m : Reads) (k : ℕ) (r : OpenRead) (q : ℕ) → (q ≡ k → P (Some r)) → (eq_by_cmp nat_cmp q k ≡ false → P (get m q)) → P (get (insert m k r) q)
by_put P m k r q here other =
    subst P (sym (get-insert nat_cmp_total m k r q)) (
    elim (eq_by_cmp nat_cmp q k) as (λ b. eq_by_cmp nat_cmp q k ≡ b → P (cond b (Some r) (get m q))) [
      | true ↦ λ e. here (tied_is q k e)
      | false ↦ λ e. other e
    ] refl
    )

pub by_gone : (P : Option OpenRead → Type 0) (m : Reads) (k : ℕ) (q : ℕ) → (q ≡ k → P None) → (eq_by_cmp nat_cmp q k ≡ false → P (get m q)) → P (get (remove m k) q)
by_gone P m k q here other =
    subst P (sym (get-remove nat_cmp_total m k q)) (
    elim (eq_by_cmp nat_cmp q k) as (λ b. eq_by_cmp nat_cmp q k ≡ b → P (cond b None (get m q))) [
      | true ↦ λ e. here (tied_is q k e)
      | false ↦ λ e. other e
    ] refl
    )

-- ---- links by number

other_set : (ls : List ReadLink) (n k : ℕ) (m : ReadLink) → (k ≡ n → ⊥) → slice_get (slice_set ls n m) k ≡ slice_get ls k
other_set [] n k m apart = refl
other_set (l ∷ ls) zero zero m apart = absurd (apart refl)
other_set (l ∷ ls) zero (suc k) m apart = refl
other_set (l ∷ ls) (suc n) zero m apart = refl
other_set (l ∷ ls) (suc n) (suc k) m apart = other_set ls n k m (λ e. apart (ap suc e))

-- another link stays
pub other_left : (ls : List ReadLink) (n k : ℕ) (got : List Chunks) → (k ≡ n → ⊥) → left_link (with_got ls n (slice_get ls n) got) k ≡ left_link ls k
other_left ls n k got apart = of (slice_get ls n)
  where
    of : (o : Option ReadLink) → left_link (with_got ls n o got) k ≡ left_link ls k
    of None = refl
    of (Some l) = ap if_left (other_set ls n k (record l { got = Some got }) apart)

-- where a link is left, some are
pub some_left : (ls : List ReadLink) (k : ℕ) (l : ReadLink) → left_link ls k ≡ Some l → 0 < count_left ls
some_left [] k l e = absurd cc
some_left (x ∷ ls) zero l e = let sums = sum_by-cons left_one x ls in omega (arith, sums, of (is_none x.got) e)
  where
    of : (b : Bool) → cond b (Some x) None ≡ Some l → 0 < cond b 1 0
    of true h = omega arith
    of false h = absurd cc
some_left (x ∷ ls) (suc k) l e = let h : 0 < count_left ls = some_left ls k l e in let sums = sum_by-cons left_one x ls in omega (arith, h, sums)

-- each link's ranges stay
pub ranges_stay : (ls : List ReadLink) (n : ℕ) (got : List Chunks) → AllByRecursion IsOrderly ls → AllByRecursion IsOrderly (with_got ls n (slice_get ls n) got)
ranges_stay [] n got h = h
ranges_stay (x ∷ ls) zero got h = (record { rises = h.0.rises; below = h.0.below }, h.1)
ranges_stay (x ∷ ls) (suc n) got h = of (slice_get ls n) (ranges_stay ls n got h.1)
  where
    of : (o : Option ReadLink) → AllByRecursion IsOrderly (with_got ls n o got) → AllByRecursion IsOrderly (with_got (x ∷ ls) (suc n) o got)
    of None r = (h.0, r)
    of (Some l) r = (h.0, r)

-- the ranges of a link that is left are in order
pub left_orderly : (ls : List ReadLink) (n : ℕ) (l : ReadLink) → AllByRecursion IsOrderly ls → left_link ls n ≡ Some l → IsOrderly l
left_orderly [] n l h e = absurd cc
left_orderly (x ∷ ls) zero l h e = of (is_none x.got) e
  where
    of : (b : Bool) → cond b (Some x) None ≡ Some l → IsOrderly l
    of true g = let same : x ≡ l = cc in subst IsOrderly same h.0
    of false g = absurd cc
left_orderly (x ∷ ls) (suc n) l h e = left_orderly ls n l h.1 e
