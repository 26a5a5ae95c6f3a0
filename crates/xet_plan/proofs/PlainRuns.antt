-- Runs and groups that are found one after the other.
use Rattle.std.proofs.Common.{◌≡◌, ◌∙◌, ℕ, ◌-◌, ◌<◌, ◌≤◌, not, suc, List, [], ◌∷◌, length, get_or, take, drop, filter, refl, sym, ap, subst, arith, Bool, true, false, ◌⊎◌, inl, inr}
use Rattle.std.specs.List.{AllByRecursion}
use Rattle.std.proofs.lemmas.Bool.{cases_lt}
use Rattle.std.proofs.lemmas.List.{take_all, length-drop}
use Rattle.xet_types.specs.Names.{same_hash}
use Rattle.xet_plan.specs.Places.{Interval, interval}
use Rattle.xet_plan.specs.MetChunks.{Chunk, Has}
use Rattle.xet_plan.specs.Runs.{Covers, Separated, IsRuns, Before, Group, InGroups, IsMerged}
use Rattle.xet_plan.proofs.Order.{all_map, before-trans, same-hash, other-hash}
use Rattle.xet_plan.proofs.Unique.{first_of}

-- the numbers from one up to another that are in a set
abbrev pub Between : (ℕ → Type 0) → ℕ → ℕ → ℕ → Type 0
Between P from past k = P k × (from ≤ k) × (k < past)

starts_in : (Q : ℕ → Type 0) (rs : List Interval) → Separated rs → ((k : ℕ) → Covers rs k → Q k) → AllByRecursion (λ q. Q q.start) rs
starts_in Q [] s f = tt
starts_in Q (r ∷ rs) s f = (f r.start (inl (omega arith, s.0)), starts_in Q rs s.2 (λ k c. f k (inr c)))

pub runs_first : (P : ℕ → Type 0) (from end past : ℕ) (rs : List Interval) → from < end → end ≤ past → ((k : ℕ) → from ≤ k → k < end → P k) → (end < past → P end → ⊥)
    → IsRuns (Between P end past) rs → IsRuns (Between P from past) (interval from end ∷ rs)
runs_first P from end past rs some to met next r = record {
  separated = (some, all_map (λ q. Between P end past q.start) (λ q. end < q.start) (λ q t. behind q.start t) rs (starts_in (Between P end past) rs r.separated (λ k c. (r.covers k).0 c)), r.separated);
  covers = λ k. (λ c. inside k c, λ t. outside k t);
}
  where
    behind : (k : ℕ) → Between P end past k → end < k
    behind k t = elim (cases_lt end k) as (λ _. end < k) [
      | inl l ↦ l
      | inr l ↦ (let e : k ≡ end = omega (arith, t.1) in absurd (next (omega (arith, t.2)) (subst P e t.0)))
    ]

    inside : (k : ℕ) → Covers (interval from end ∷ rs) k → Between P from past k
    inside k (inl p) = (met k p.0 p.1, p.0, omega (arith, p.1))
    inside k (inr c) = let t : Between P end past k = (r.covers k).0 c in (t.0, omega (arith, t.1), t.2)

    outside : (k : ℕ) → Between P from past k → Covers (interval from end ∷ rs) k
    outside k t = elim (cases_lt k end) as (λ _. Covers (interval from end ∷ rs) k) [
      | inl l ↦ inl (t.1, l)
      | inr l ↦ inr ((r.covers k).1 (t.0, l, t.2))
    ]

-- the numbers of a xorb's chunks lie below what lies past all
pub has_below : (chunks : List Chunk) (past : ℕ) (h : List ℕ) (k : ℕ) → AllByRecursion (λ c. c.number < past) chunks → Has chunks h k → k < past
has_below [] past h k a p = absurd p
has_below (c ∷ cs) past h k a (inl p) = omega (arith, a.0, p.1)
has_below (c ∷ cs) past h k a (inr p) = has_below cs past h k a.1 p

pub runs_all : (chunks : List Chunk) (past : ℕ) (h : List ℕ) (rs : List Interval) → AllByRecursion (λ c. c.number < past) chunks → IsRuns (Between (Has chunks h) 0 past) rs → IsRuns (Has chunks h) rs
runs_all chunks past h rs a r = record {
  separated = r.separated;
  covers = λ k. (λ c. ((r.covers k).0 c).0, λ t. (r.covers k).1 (t, omega arith, has_below chunks past h k a t));
}

-- the chunk is of another xorb
abbrev pub other : List ℕ → Chunk → Bool
other h c = not (same_hash c.hash h)

other_no : (h : List ℕ) (c : Chunk) (cs : List Chunk) → same_hash c.hash h ≡ true → filter (other h) (c ∷ cs) ≡ filter (other h) cs
other_no h c cs e = rw e refl

other_yes : (h : List ℕ) (c : Chunk) (cs : List Chunk) → same_hash c.hash h ≡ false → filter (other h) (c ∷ cs) ≡ c ∷ filter (other h) cs
other_yes h c cs e = rw e refl

pub others_has : (h : List ℕ) (chunks : List Chunk) (x : List ℕ) (k : ℕ) → Has (filter (other h) chunks) x k → Has chunks x k
others_has h [] x k p = absurd p
others_has h (c ∷ cs) x k p = by (others_has h cs x k) (same_hash c.hash h) refl
  where
    later : (Has (filter (other h) cs) x k → Has cs x k) → Has (c ∷ filter (other h) cs) x k → Has (c ∷ cs) x k
    later f (inl q) = inl q
    later f (inr q) = inr (f q)

    by : (Has (filter (other h) cs) x k → Has cs x k) → (b : Bool) → same_hash c.hash h ≡ b → Has (c ∷ cs) x k
    by f true e = inr (f (subst (λ ds. Has ds x k) (other_no h c cs e) p))
    by f false e = later f (subst (λ ds. Has ds x k) (other_yes h c cs e) p)

pub others_other : (h : List ℕ) (chunks : List Chunk) (x : List ℕ) (k : ℕ) → Has (filter (other h) chunks) x k → x ≡ h → ⊥
others_other h [] x k p s = absurd p
others_other h (c ∷ cs) x k p s = by (λ q. others_other h cs x k q s) (same_hash c.hash h) refl
  where
    later : (Has (filter (other h) cs) x k → ⊥) → same_hash c.hash h ≡ false → Has (c ∷ filter (other h) cs) x k → ⊥
    later f e (inl q) = other-hash c.hash h e (q.0 ∙ s)
    later f e (inr q) = f q

    by : (Has (filter (other h) cs) x k → ⊥) → (b : Bool) → same_hash c.hash h ≡ b → ⊥
    by f true e = f (subst (λ ds. Has ds x k) (other_no h c cs e) p)
    by f false e = later f e (subst (λ ds. Has ds x k) (other_yes h c cs e) p)

pub has_others : (h : List ℕ) (chunks : List Chunk) (x : List ℕ) (k : ℕ) → Has chunks x k → (x ≡ h → ⊥) → Has (filter (other h) chunks) x k
has_others h [] x k p s = absurd p
has_others h (c ∷ cs) x k p s = by (λ q. has_others h cs x k q s) (same_hash c.hash h) refl p
  where
    same : (Has cs x k → Has (filter (other h) cs) x k) → same_hash c.hash h ≡ true → Has (c ∷ cs) x k → Has (filter (other h) cs) x k
    same f e (inl q) = absurd (s (sym q.0 ∙ same-hash c.hash h e))
    same f e (inr q) = f q

    differs : (Has cs x k → Has (filter (other h) cs) x k) → Has (c ∷ cs) x k → Has (c ∷ filter (other h) cs) x k
    differs f (inl q) = inl q
    differs f (inr q) = inr (f q)

    by : (Has cs x k → Has (filter (other h) cs) x k) → (b : Bool) → same_hash c.hash h ≡ b → Has (c ∷ cs) x k → Has (filter (other h) (c ∷ cs)) x k
    by f true e q = subst (λ ds. Has ds x k) (sym (other_no h c cs e)) (same f e q)
    by f false e q = subst (λ ds. Has ds x k) (sym (other_yes h c cs e)) (differs f q)

others_le : (h : List ℕ) (chunks : List Chunk) → length (filter (other h) chunks) ≤ length chunks
others_le h [] = omega arith
others_le h (c ∷ cs) = by (others_le h cs) (same_hash c.hash h) refl
  where
    by : length (filter (other h) cs) ≤ length cs → (b : Bool) → same_hash c.hash h ≡ b → length (filter (other h) (c ∷ cs)) ≤ length (c ∷ cs)
    by l true e = rw (other_no h c cs e) (omega (arith, l))
    by l false e = rw (other_yes h c cs e) (omega (arith, l))

-- fewer chunks are of other xorbs, where one is of this
pub others_less : (h : List ℕ) (chunks : List Chunk) (k : ℕ) → Has chunks h k → length (filter (other h) chunks) < length chunks
others_less h [] k p = absurd p
others_less h (c ∷ cs) k p = by (λ q. others_less h cs k q) (same_hash c.hash h) refl p
  where
    later : (Has cs h k → length (filter (other h) cs) < length cs) → same_hash c.hash h ≡ false → Has (c ∷ cs) h k → suc (length (filter (other h) cs)) < suc (length cs)
    later f e (inl q) = absurd (other-hash c.hash h e q.0)
    later f e (inr q) = omega (arith, f q)

    by : (Has cs h k → length (filter (other h) cs) < length cs) → (b : Bool) → same_hash c.hash h ≡ b → Has (c ∷ cs) h k → length (filter (other h) (c ∷ cs)) < length (c ∷ cs)
    by f true e q = rw (other_no h c cs e) (omega (arith, others_le h cs))
    by f false e q = rw (other_yes h c cs e) (later f e q)

-- no chunk is of an earlier xorb
abbrev pub IsFirst : List ℕ → List Chunk → Type 0
IsFirst h chunks = AllByRecursion (λ c. (h ≡ c.hash) ⊎ Before h c.hash) chunks

first_before : (h : List ℕ) (chunks : List Chunk) (x : List ℕ) (k : ℕ) → IsFirst h chunks → Has chunks x k → (h ≡ x) ⊎ Before h x
first_before h [] x k a p = absurd p
first_before h (c ∷ cs) x k a (inl p) = subst (λ y. (h ≡ y) ⊎ Before h y) p.0 a.0
first_before h (c ∷ cs) x k a (inr p) = first_before h cs x k a.1 p

hashes_in : (Q : List ℕ → Type 0) (gs : List Group) → AllByRecursion (λ g. (0 < length g.ranges) × Separated g.ranges) gs → ((x : List ℕ) (k : ℕ) → InGroups gs x k → Q x) → AllByRecursion (λ g. Q g.hash) gs
hashes_in Q [] r f = tt
hashes_in Q (g ∷ gs) r f =
    let k : (k : ℕ) × Covers g.ranges k = first_of g.ranges r.0.0 r.0.1 in
    (f g.hash k.0 (inl (refl, k.1)), hashes_in Q gs r.1 (λ x k c. f x k (inr c)))

covers_some : (rs : List Interval) (k : ℕ) → Covers rs k → 0 < length rs
covers_some [] k c = absurd c
covers_some (r ∷ rs) k c = omega arith

abbrev pub group : List ℕ → List Interval → Group
group h rs = record { hash = h; ranges = rs }

-- the runs of the first xorb, then those of the others
pub merged_first : (chunks : List Chunk) (h : List ℕ) (n : ℕ) (rs : List Interval) (gs : List Group) → Has chunks h n → IsFirst h chunks
    → IsRuns (Has chunks h) rs → IsMerged (Has (filter (other h) chunks)) gs → IsMerged (Has chunks) (group h rs ∷ gs)
merged_first chunks h n rs gs some first r m = record {
  rising = (hashes_in (Before h) gs m.runs (λ x k c. after x k ((m.covers x k).0 c)), m.rising);
  runs = ((covers_some rs n ((r.covers n).1 some), r.separated), m.runs);
  covers = λ x k. (λ c. inside x k c, λ p. outside x k p (same_hash x h) refl);
}
  where
    after : (x : List ℕ) (k : ℕ) → Has (filter (other h) chunks) x k → Before h x
    after x k p = elim (first_before h chunks x k first (others_has h chunks x k p)) as (λ _. Before h x) [
      | inl e ↦ absurd (others_other h chunks x k p (sym e))
      | inr b ↦ b
    ]

    inside : (x : List ℕ) (k : ℕ) → InGroups (group h rs ∷ gs) x k → Has chunks x k
    inside x k (inl p) = subst (λ y. Has chunks y k) p.0 ((r.covers k).0 p.1)
    inside x k (inr c) = others_has h chunks x k ((m.covers x k).0 c)

    outside : (x : List ℕ) (k : ℕ) → Has chunks x k → (b : Bool) → same_hash x h ≡ b → InGroups (group h rs ∷ gs) x k
    outside x k p true e = inl (sym (same-hash x h e), (r.covers k).1 (subst (λ y. Has chunks y k) (same-hash x h e) p))
    outside x k p false e = inr ((m.covers x k).1 (has_others h chunks x k p (other-hash x h e)))

-- what is known of the first chunk and of the others
pub below_all : (xs : List Chunk) (c : Chunk) (m n : ℕ) → 0 < length xs → c ≡ get_or xs 0 c → AllByRecursion (λ d. d.number < m) (drop 1 xs) → m ≤ n → c.number < n → AllByRecursion (λ d. d.number < n) xs
below_all [] c m n l e a p q = absurd (omega arith)
below_all (d ∷ ds) c m n l e a p q = (subst (λ x. x.number < n) e q, all_map (λ x. x.number < m) (λ x. x.number < n) (λ x t. omega (arith, t)) ds a)

pub has_first : (xs : List Chunk) (c : Chunk) → 0 < length xs → c ≡ get_or xs 0 c → Has xs c.hash c.number
has_first [] c l e = absurd (omega arith)
has_first (d ∷ ds) c l e = inl (ap (λ (x : Chunk). x.hash) (sym e), ap (λ (x : Chunk). x.number) (sym e))

pub has_rest : (xs : List Chunk) (h : List ℕ) (k : ℕ) → 0 < length xs → Has (drop 1 xs) h k → Has xs h k
has_rest [] h k l p = absurd (omega arith)
has_rest (d ∷ ds) h k l p = inr p

from_earlier : (h g x : List ℕ) → (h ≡ g) ⊎ Before h g → (g ≡ x) ⊎ Before g x → (h ≡ x) ⊎ Before h x
from_earlier h g x (inl e) (inl f) = inl (e ∙ f)
from_earlier h g x (inl e) (inr b) = inr (subst (λ y. Before y x) (sym e) b)
from_earlier h g x (inr a) (inl f) = inr (subst (λ y. Before h y) f a)
from_earlier h g x (inr a) (inr b) = inr (before-trans h g x a b)

pub first_all : (xs : List Chunk) (c : Chunk) (h g : List ℕ) → 0 < length xs → c ≡ get_or xs 0 c → (h ≡ g) ⊎ Before h g → (h ≡ c.hash) ⊎ Before h c.hash → IsFirst g (drop 1 xs) → IsFirst h xs
first_all [] c h g l e p q a = absurd (omega arith)
first_all (d ∷ ds) c h g l e p q a = (subst (λ (x : Chunk). (h ≡ x.hash) ⊎ Before h x.hash) e q, all_map (λ x. (g ≡ x.hash) ⊎ Before g x.hash) (λ x. (h ≡ x.hash) ⊎ Before h x.hash) (λ x t. from_earlier h g x.hash p t) ds a)

pub first_has : (xs : List Chunk) (c : Chunk) (h g : List ℕ) → 0 < length xs → c ≡ get_or xs 0 c → (h ≡ g) ⊎ (h ≡ c.hash) → (k : ℕ) × Has (drop 1 xs) g k → (k : ℕ) × Has xs h k
first_has xs c h g l e (inl p) m = (m.0, subst (λ y. Has xs y m.0) (sym p) (has_rest xs g m.0 l m.1))
first_has xs c h g l e (inr p) m = (c.number, subst (λ y. Has xs y c.number) (sym p) (has_first xs c l e))

pub rest_is : (xs : List Chunk) → take (length xs - 1) (drop 1 xs) ≡ drop 1 xs
rest_is xs = take_all (length xs - 1) (drop 1 xs) (omega (arith, length-drop 1 xs))
