-- Values by number, one of which is at hand.
use Rattle.std.proofs.Common.{◌≡◌, ◌∙◌, ◌==◌, ℕ, Some, None, Result, Ok, Err, OnOk, OnErr, true, false, refl, sym, ap, subst}
use Rattle.std.specs.Ordering.{nat_cmp}
use Rattle.std.proofs.lemmas.Bool.{eqb-true, eqb-false}
use Rattle.std.proofs.lemmas.Cmp.{nat_cmp_total}
use Rattle.std.specs.FinMap.{FinMap, get, insert, remove, same_map, nat_cmp-IsAntisymmetric}
use Rattle.xet_bytes.proofs.LastPairs as maps
use Rattle.xet_service.specs.Recents.{AtHand, is_at, value_of, with_one, IsApart}

-- ---- one number and the others

-- what holds at a number and at each other one
each_number : (P : ℕ → Type 0) (k : ℕ) → P k → ((q : ℕ) → (q ≡ k → ⊥) → P q) → (q : ℕ) → P q
each_number P k here away q =
    elim (q == k) as (λ b. (q == k) ≡ b → P q) [
      | true ↦ λ e. subst P (sym (eqb-true q k e)) here
      | false ↦ λ e. away q (eqb-false q k e)
    ] refl

module _ {V : Type 0} (m : FinMap nat_cmp V) (k : ℕ) where
  put_here : (v : V) → get (insert m k v) k ≡ Some v
  put_here v = maps.put_here nat_cmp nat_cmp_total nat_cmp-IsAntisymmetric m k v

  put_away : (v : V) (q : ℕ) → (q ≡ k → ⊥) → get (insert m k v) q ≡ get m q
  put_away v q other = maps.put_elsewhere nat_cmp nat_cmp_total nat_cmp-IsAntisymmetric m k v q other

  gone_here : get (remove m k) k ≡ None
  gone_here = maps.gone_here nat_cmp nat_cmp_total nat_cmp-IsAntisymmetric m k

  gone_away : (q : ℕ) → (q ≡ k → ⊥) → get (remove m k) q ≡ get m q
  gone_away q other = maps.gone_elsewhere nat_cmp nat_cmp_total nat_cmp-IsAntisymmetric m k q other

-- maps with the same at a number and at each other one
same : {V : Type 0} (m n : FinMap nat_cmp V) (k : ℕ) → get m k ≡ get n k → ((q : ℕ) → (q ≡ k → ⊥) → get m q ≡ get n q) → m ≡ n
same m n k here away = same_map nat_cmp_total nat_cmp-IsAntisymmetric m n (each_number (λ q. get m q ≡ get n q) k here away)

module _ {V : Type 0} (m : FinMap nat_cmp V) (n : ℕ) (v : V) where
  put_anew : (w : V) → insert (insert m n v) n w ≡ insert m n w
  put_anew w = same _ _ n (put_here (insert m n v) n w ∙ sym (put_here m n w))
      (λ q other. put_away (insert m n v) n w q other ∙ put_away m n v q other ∙ sym (put_away m n w q other))

  put_both : (k : ℕ) (w : V) → (n ≡ k → ⊥) → insert (insert m n v) k w ≡ insert (insert m k w) n v
  put_both k w apart = same _ _ n (put_away (insert m n v) k w n apart ∙ put_here m n v ∙ sym (put_here (insert m k w) n v))
      (λ q other. each_number (λ q. (q ≡ n → ⊥) → get (insert (insert m n v) k w) q ≡ get (insert (insert m k w) n v) q) k
      (λ other. put_here (insert m n v) k w ∙ sym (put_away (insert m k w) n v k other ∙ put_here m k w))
      (λ q away other. put_away (insert m n v) k w q away ∙ put_away m n v q other ∙ sym (put_away (insert m k w) n v q other ∙ put_away m k w q away)) q other)

  put_and_other_gone : (k : ℕ) → (n ≡ k → ⊥) → remove (insert m n v) k ≡ insert (remove m k) n v
  put_and_other_gone k apart = same _ _ n (gone_away (insert m n v) k n apart ∙ put_here m n v ∙ sym (put_here (remove m k) n v))
      (λ q other. each_number (λ q. (q ≡ n → ⊥) → get (remove (insert m n v) k) q ≡ get (insert (remove m k) n v) q) k
      (λ other. gone_here (insert m n v) k ∙ sym (put_away (remove m k) n v k other ∙ gone_here m k))
      (λ q away other. gone_away (insert m n v) k q away ∙ put_away m n v q other ∙ sym (put_away (remove m k) n v q other ∙ gone_away m k q away)) q other)

-- ---- the one at hand

module _ {V : Type 0} (others : FinMap nat_cmp V) (number : ℕ) where
  pub get_at_hand : (one : AtHand V) → is_at one number ≡ true → get (with_one one others) number ≡ value_of one
  get_at_hand None at = absurd cc
  get_at_hand (Some p) at = ap (get (insert others p.0 p.1)) (sym (eqb-true p.0 number at)) ∙ put_here others p.0 p.1

  pub put_at_hand : (one : AtHand V) → is_at one number ≡ true → (v : V) → with_one (Some (number, v)) others ≡ insert (with_one one others) number v
  put_at_hand None at v = absurd cc
  put_at_hand (Some p) at v = subst (λ n. insert others n v ≡ insert (insert others p.0 p.1) n v) (eqb-true p.0 number at) (sym (put_anew others p.0 p.1 v))

  pub gone_at_hand : (one : AtHand V) → is_at one number ≡ true → IsApart one others → others ≡ remove (with_one one others) number
  gone_at_hand None at apart = absurd cc
  gone_at_hand (Some p) at apart = subst (λ n. others ≡ remove (insert others p.0 p.1) n) (eqb-true p.0 number at) (sym (maps.put_and_gone nat_cmp nat_cmp_total nat_cmp-IsAntisymmetric others p.0 p.1 apart))

-- ---- another one

differs : (n k : ℕ) → (n == k) ≡ false → k ≡ n → ⊥
differs n k e same = eqb-false n k e (sym same)

module _ {V : Type 0} (others : FinMap nat_cmp V) (number : ℕ) where
  pub get_other : (one : AtHand V) → is_at one number ≡ false → get (with_one one others) number ≡ get others number
  get_other None away = refl
  get_other (Some p) away = put_away others p.0 p.1 number (differs p.0 number away)

  pub put_other : (one : AtHand V) → is_at one number ≡ false → (v : V) → with_one one (insert others number v) ≡ insert (with_one one others) number v
  put_other None away v = refl
  put_other (Some p) away v = sym (put_both others p.0 p.1 number v (eqb-false p.0 number away))

  pub gone_other : (one : AtHand V) → is_at one number ≡ false → with_one one (remove others number) ≡ remove (with_one one others) number
  gone_other None away = refl
  gone_other (Some p) away = sym (put_and_other_gone others p.0 p.1 number (eqb-false p.0 number away))

  pub apart_put : (one : AtHand V) → is_at one number ≡ false → IsApart one others → (v : V) → IsApart one (insert others number v)
  apart_put None away apart v = tt
  apart_put (Some p) away apart v = put_away others number v p.0 (eqb-false p.0 number away) ∙ apart

  pub apart_gone : (one : AtHand V) → is_at one number ≡ false → IsApart one others → IsApart one (remove others number)
  apart_gone None away apart = tt
  apart_gone (Some p) away apart = gone_away others number p.0 (eqb-false p.0 number away) ∙ apart

-- ---- another one is put, or refused

module _ {V A E : Type 0} (one : AtHand V) (others after : FinMap nat_cmp V) (number : ℕ) (v : V) (away : is_at one number ≡ false) where
  pub answered_apart : (answer : Result A E) → OnOk answer (after ≡ insert others number v) → OnErr answer (after ≡ others) → IsApart one others → IsApart one after
  answered_apart (Ok old) put stays apart = subst (IsApart one) (sym put) (apart_put others number one away apart v)
  answered_apart (Err e) put stays apart = subst (IsApart one) (sym stays) apart

  pub answered_put : (answer : Result A E) → OnOk answer (after ≡ insert others number v) → OnOk answer (with_one one after ≡ insert (with_one one others) number v)
  answered_put (Ok old) put = ap (with_one one) put ∙ put_other others number one away v
  answered_put (Err e) put = tt
