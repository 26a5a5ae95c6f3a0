-- The numbered boundaries that stand in a part.
use Rattle.std.specs.Prelude.{codes}
use Rattle.std.proofs.Common.{◌≡◌, ◌≢◌, ◌⊎◌, inl, inr, ℕ, ◌+◌, ◌<◌, ◌^◌, Bool, true, false, not, eqb, ◌&&◌, List, [], ◌∷◌, ◌++◌, length, get_or, take, refl, sym, ap, ◌∙◌, arith, subst, append_assoc, length-append}
use Rattle.std.specs.List.{All, Contains}
use Rattle.std.proofs.lemmas.List.{append-nil, take_at}
use Rattle.std.proofs.lemmas.List.Elements.{All-nil, All-cons, All-append, Contains-append_left, Contains-append_right, Contains-push, All-weaker, All-more, All-contains}
use Rattle.std.specs.List.Sorted.{IsPermutation}
use Rattle.std.proofs.lemmas.List.Sorted.{Contains-permutation, IsPermutation-sym}
use Rattle.std.proofs.lemmas.Bool.{eqb-false}
use Rattle.xet_wire.specs.Texts.{Lacks}
use Rattle.xet_wire.specs.Multipart.{StandsIn, IsAbsent, IsCutAround, IsLeastNumbered, numbered_boundary, twenty_digits, TakesNumbers}
use Rattle.xet_types.specs.Ranges.{number_value}
use Rattle.xet_wire.proofs.TwentyDigits.{length_twenty, twenty_number}
use Rattle.xet_wire.proofs.Words.{apart}

-- a byte that a literal lacks
abbrev pub lacks_test : ℕ → List ℕ → Bool
lacks_test c [] = true
lacks_test c (b ∷ text) = not (eqb b c) && lacks_test c text

pub lacks_by : (c : ℕ) (text : List ℕ) → lacks_test c text ≡ true → Lacks c text
lacks_by c [] passes = All-nil (λ b. b ≢ c)
lacks_by c (b ∷ text) passes = first (eqb b c) refl passes (λ p. lacks_by c text p)
  where
    first : (v : Bool) → eqb b c ≡ v → (not v && lacks_test c text) ≡ true → (lacks_test c text ≡ true → Lacks c text) → Lacks c (b ∷ text)
    first true e p rest = absurd (cc)
    first false e p rest = All-cons (λ x. x ≢ c) b text (eqb-false b c e) (rest p)

-- the stem of the numbered boundaries
abbrev pub stem : List ℕ
stem = codes "xet_multipart_boundary_"

pub numbered_is : (n : ℕ) → numbered_boundary n ≡ stem ++ twenty_digits n
unfolding numbered_boundary
numbered_is n = refl

-- where the stem stands first, a numbered boundary begins there or stands behind it
pub begins_or_behind : (n : ℕ) (rest before behind : List ℕ) → IsCutAround stem rest before behind → StandsIn (numbered_boundary n) rest
    → ((a : List ℕ) × (behind ≡ twenty_digits n ++ a)) ⊎ StandsIn (numbered_boundary n) behind
begins_or_behind n rest before behind cut s =
    let w : List ℕ = codes "et_multipart_boundary_" in
    let there : rest ≡ s.before ++ (stem ++ (twenty_digits n ++ s.after)) = s.parts ∙ ap (λ (t : List ℕ). s.before ++ (t ++ s.after)) (numbered_is n) ∙ ap (λ (t : List ℕ). s.before ++ t) (append_assoc stem (twenty_digits n) s.after) in
    let low = cut.first s.before (twenty_digits n ++ s.after) there in
    sides (apart 120 w before behind s.before (twenty_digits n ++ s.after) (lacks_by 120 w refl) (sym cut.parts ∙ there) low)
  where
    sides : ((before ≡ s.before) × (behind ≡ twenty_digits n ++ s.after)) ⊎ ((more : List ℕ) × (s.before ≡ before ++ (stem ++ more)) × (behind ≡ more ++ (stem ++ (twenty_digits n ++ s.after))))
        → ((a : List ℕ) × (behind ≡ twenty_digits n ++ a)) ⊎ StandsIn (numbered_boundary n) behind
    sides (inl same) = inl (s.after, same.1)
    sides (inr p) = inr (record {
      before = p.0;
      after = s.after;
      parts = p.2 ∙ ap (λ (t : List ℕ). p.0 ++ t) (sym (append_assoc stem (twenty_digits n) s.after)) ∙ ap (λ (t : List ℕ). p.0 ++ (t ++ s.after)) (sym (numbered_is n));
    })

-- what was read of a part, and what is left of it
pub record Scans (part rest old now : List ℕ) : Type 0 where
  pub gained : List ℕ
  pub is : now ≡ old ++ gained
  pub stand : All (λ n. StandsIn (numbered_boundary n) part) gained
  pub ahead : List ℕ
  pub parts : part ≡ ahead ++ rest
  pub left : (n : ℕ) → n < 2 ^ 64 → StandsIn (numbered_boundary n) part → Contains gained n ⊎ StandsIn (numbered_boundary n) rest

pub scans_none : (part old : List ℕ) → Scans part part old old
scans_none part old = record {
  gained = [];
  is = sym (append-nil old);
  stand = All-nil (λ n. StandsIn (numbered_boundary n) part);
  ahead = [];
  parts = refl;
  left = λ n small s. inr s;
}

pub scans_all : (part rest old now : List ℕ) → Scans part rest old now → ¬ StandsIn stem rest → TakesNumbers part old now
scans_all part rest old now scans none = record {
  gained = scans.gained;
  is = scans.is;
  stand = scans.stand;
  all = λ n small s. gone n (scans.left n small s);
}
  where
    gone : (n : ℕ) → Contains scans.gained n ⊎ StandsIn (numbered_boundary n) rest → Contains scans.gained n
    gone n (inl there) = there
    gone n (inr s) = absurd (none (record {
      before = s.before;
      after = twenty_digits n ++ s.after;
      parts = s.parts ∙ ap (λ (t : List ℕ). s.before ++ (t ++ s.after)) (numbered_is n) ∙ ap (λ (t : List ℕ). s.before ++ t) (append_assoc stem (twenty_digits n) s.after);
    }))

-- what follows the stem is left
further : (part rest ahead before behind : List ℕ) → part ≡ ahead ++ rest → IsCutAround stem rest before behind → part ≡ (ahead ++ (before ++ stem)) ++ behind
further part rest ahead before behind e cut =
    e ∙ ap (λ (t : List ℕ). ahead ++ t) (cut.parts ∙ sym (append_assoc before stem behind)) ∙ sym (append_assoc ahead (before ++ stem) behind)

-- the stem with no number behind it
pub scans_past : (part rest old now before behind : List ℕ) → Scans part rest old now → IsCutAround stem rest before behind → ((n : ℕ) (a : List ℕ) → n < 2 ^ 64 → behind ≢ twenty_digits n ++ a) → Scans part behind old now
scans_past part rest old now before behind scans cut none = record {
  gained = scans.gained;
  is = scans.is;
  stand = scans.stand;
  ahead = scans.ahead ++ (before ++ stem);
  parts = further part rest scans.ahead before behind scans.parts cut;
  left = λ n small s. next n small (scans.left n small s);
}
  where
    later : (n : ℕ) → n < 2 ^ 64 → ((a : List ℕ) × (behind ≡ twenty_digits n ++ a)) ⊎ StandsIn (numbered_boundary n) behind → StandsIn (numbered_boundary n) behind
    later n small (inl p) = absurd (none n p.0 small p.1)
    later n small (inr s) = s

    next : (n : ℕ) → n < 2 ^ 64 → Contains scans.gained n ⊎ StandsIn (numbered_boundary n) rest → Contains scans.gained n ⊎ StandsIn (numbered_boundary n) behind
    next n small (inl there) = inl there
    next n small (inr s) = inr (later n small (begins_or_behind n rest before behind cut s))

-- twenty digits begin the text of one number
same_twenty : (n m : ℕ) (a b text : List ℕ) → n < 2 ^ 64 → m < 2 ^ 64 → text ≡ twenty_digits n ++ a → text ≡ twenty_digits m ++ b → n ≡ m
same_twenty n m a b text small low e f =
    let front : twenty_digits n ≡ twenty_digits m = sym (take_at (twenty_digits n) a 20 (length_twenty n small)) ∙ ap (λ (t : List ℕ). take 20 t) (sym e ∙ f) ∙ take_at (twenty_digits m) b 20 (length_twenty m low) in
    (twenty_number n small).value ∙ ap (λ (t : List ℕ). number_value t) front ∙ sym (twenty_number m low).value

-- the stem with a number behind it
pub scans_number : (part rest old now before behind a : List ℕ) (m : ℕ) → m < 2 ^ 64 → Scans part rest old now → IsCutAround stem rest before behind → behind ≡ twenty_digits m ++ a → Scans part behind old (now ++ m ∷ [])
scans_number part rest old now before behind a m low scans cut e = record {
  gained = scans.gained ++ m ∷ [];
  is = ap (λ (t : List ℕ). t ++ m ∷ []) scans.is ∙ append_assoc old scans.gained (m ∷ []);
  stand = All-append (λ n. StandsIn (numbered_boundary n) part) scans.gained (m ∷ []) scans.stand (All-cons (λ n. StandsIn (numbered_boundary n) part) m [] here (All-nil (λ n. StandsIn (numbered_boundary n) part)));
  ahead = scans.ahead ++ (before ++ stem);
  parts = further part rest scans.ahead before behind scans.parts cut;
  left = λ n small s. next n small (scans.left n small s);
}
  where
    here : StandsIn (numbered_boundary m) part
    here = record {
      before = scans.ahead ++ before;
      after = a;
      parts = scans.parts ∙ ap (λ (t : List ℕ). scans.ahead ++ t) (cut.parts ∙ ap (λ (t : List ℕ). before ++ (stem ++ t)) e ∙ ap (λ (t : List ℕ). before ++ t) (sym (append_assoc stem (twenty_digits m) a)) ∙ ap (λ (t : List ℕ). before ++ (t ++ a)) (sym (numbered_is m))) ∙ sym (append_assoc scans.ahead before (numbered_boundary m ++ a));
    }

    later : (n : ℕ) → n < 2 ^ 64 → ((b : List ℕ) × (behind ≡ twenty_digits n ++ b)) ⊎ StandsIn (numbered_boundary n) behind → Contains (scans.gained ++ m ∷ []) n ⊎ StandsIn (numbered_boundary n) behind
    later n small (inl p) = inl (subst (λ (x : ℕ). Contains (scans.gained ++ m ∷ []) x) (same_twenty m n a p.0 behind low small e p.1) (Contains-push scans.gained m))
    later n small (inr s) = inr s

    next : (n : ℕ) → n < 2 ^ 64 → Contains scans.gained n ⊎ StandsIn (numbered_boundary n) rest → Contains (scans.gained ++ m ∷ []) n ⊎ StandsIn (numbered_boundary n) behind
    next n small (inl there) = inl (Contains-append_left scans.gained (m ∷ []) n there)
    next n small (inr s) = later n small (begins_or_behind n rest before behind cut s)

-- what follows the stem is shorter
pub shorter : (rest before behind : List ℕ) → IsCutAround stem rest before behind → length behind < length rest
shorter rest before behind cut = omega (arith, ap length cut.parts, length-append before (stem ++ behind), length-append stem behind)

-- these are numbers of boundaries that stand in a part of all, and all of those that stand in one of the first
pub record HasTaken (parts first : List (List ℕ)) (taken : List ℕ) : Type 0 where
  pub stand : All (λ n. ¬ IsAbsent (numbered_boundary n) parts) taken
  pub all : (n : ℕ) → n < 2 ^ 64 → ¬ Contains taken n → IsAbsent (numbered_boundary n) first

pub taken_none : (parts : List (List ℕ)) → HasTaken parts [] []
taken_none parts = record {
  stand = All-nil (λ n. ¬ IsAbsent (numbered_boundary n) parts);
  all = λ n small none. All-nil (λ p. ¬ StandsIn (numbered_boundary n) p);
}

pub taken_more : (parts : List (List ℕ)) (i : ℕ) (part : List ℕ) (old new : List ℕ) → i < length parts → get_or parts i part ≡ part → HasTaken parts (take i parts) old → TakesNumbers part old new → HasTaken parts (take (i + 1) parts) new
taken_more parts i part old new lt at has takes = record {
  stand = subst (λ (t : List ℕ). All (λ n. ¬ IsAbsent (numbered_boundary n) parts) t) (sym takes.is) (All-append (λ n. ¬ IsAbsent (numbered_boundary n) parts) old takes.gained has.stand (All-weaker (λ n. StandsIn (numbered_boundary n) part) (λ n. ¬ IsAbsent (numbered_boundary n) parts) (λ n s absent. subst (λ (p : List ℕ). ¬ StandsIn (numbered_boundary n) p) at (absent i part lt) s) takes.gained takes.stand));
  all = λ n small none. All-more (λ p. ¬ StandsIn (numbered_boundary n) p) parts i part lt (has.all n small (λ there. none (subst (λ (t : List ℕ). Contains t n) (sym takes.is) (Contains-append_left old takes.gained n there)))) (subst (λ (p : List ℕ). ¬ StandsIn (numbered_boundary n) p) (sym at) (λ s. none (subst (λ (t : List ℕ). Contains t n) (sym takes.is) (Contains-append_right old takes.gained n (takes.all n small s)))));
}

-- of the numbers in order, the least that is free
pub least_is : (parts : List (List ℕ)) (taken sorted boundary : List ℕ) (n : ℕ) → n < 2 ^ 64 → HasTaken parts parts taken → IsPermutation taken sorted → ¬ Contains sorted n → ((k : ℕ) → k < n → Contains sorted k) → boundary ≡ numbered_boundary n → IsLeastNumbered parts boundary
least_is parts taken sorted boundary n small has moved free least e = record {
  number = n;
  fits = omega (arith, small);
  text = e;
  absent = subst (λ (t : List ℕ). IsAbsent t parts) (sym e) (has.all n small (λ there. free (Contains-permutation taken sorted n moved there)));
  least = λ k lt. All-contains (λ m. ¬ IsAbsent (numbered_boundary m) parts) taken k has.stand (Contains-permutation sorted taken k (IsPermutation-sym taken sorted moved) (least k lt));
}
