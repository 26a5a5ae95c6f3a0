-- The chunks of a met segment that the interval meets lie one behind the other.
use Rattle.std.proofs.Common.{◌≡◌, ◌∙◌, ℕ, ◌+◌, ◌-◌, ◌<◌, ◌≤◌, min, max, List, [], ◌∷◌, length, drop, sum, filter, refl, sym, ap, subst, arith, inl, inr, Option}
use Rattle.std.specs.List.{AllByRecursion}
use Rattle.std.proofs.lemmas.Bool.{cases_lt}
use Rattle.std.proofs.lemmas.List.Elements.{recursion_from_All, All-take, All-drop}
use Rattle.xet_xorb.specs.Values.{Xorb}
use Rattle.xet_plan.specs.Places.{Interval, Placed, Known, lengths_in}
use Rattle.xet_plan.specs.MetChunks.{Chunk, chunk, lay, is_met, lengths_at, kept, Has}
use Rattle.xet_plan.specs.Cuts.{IsReadable}
use Rattle.xet_plan.proofs.Lay.{none_past, is_met-yes, is_met-no, filter-yes, filter-no, sum-cons}
use Rattle.xet_plan.proofs.Cuts.{Agreement, agreed}

abbrev pub Positive : List ℕ → Type 0
Positive ns = AllByRecursion (λ n. 0 < n) ns

pub record IsLaid (h : List ℕ) (n at : ℕ) (cs : List Chunk) : Type 0 where
  pub lengths : List ℕ
  pub is : cs ≡ lay h n at lengths

-- past the interval's start the meeting chunks are those up to its end
meets_front : (clip : Interval) (h : List ℕ) (n at : ℕ) (ns : List ℕ) → Positive ns → clip.start < at → clip.start < clip.end → IsLaid h n at (filter (is_met clip) (lay h n at ns))
meets_front clip h n at [] p s o = record { lengths = []; is = refl }
meets_front clip h n at (x ∷ xs) p s o = elim (cases_lt at clip.end) as (λ _. IsLaid h n at (filter (is_met clip) (lay h n at (x ∷ xs)))) [
  | inl l ↦
      (let rest : IsLaid h (n + 1) (at + x) (filter (is_met clip) (lay h (n + 1) (at + x) xs)) = meets_front clip h (n + 1) (at + x) xs p.1 (omega arith) o in
      record {
        lengths = x ∷ rest.lengths;
        is = filter-yes (is_met clip) (chunk h n at x) (lay h (n + 1) (at + x) xs) (is_met-yes clip h n at x p.0 (omega arith) l o) ∙ ap (λ cs. chunk h n at x ∷ cs) rest.is;
      })
  | inr l ↦ record { lengths = []; is = none_past clip h n at (x ∷ xs) l }
]

pub record IsSpan (h : List ℕ) (cs : List Chunk) : Type 0 where
  pub number : ℕ
  pub at : ℕ
  pub first : ℕ
  pub rest : List ℕ
  pub is : cs ≡ lay h number at (first ∷ rest)

pub meets_span : (clip : Interval) (h : List ℕ) (n at : ℕ) (ns : List ℕ) → Positive ns → max clip.start at < min clip.end (at + sum ns) → IsSpan h (filter (is_met clip) (lay h n at ns))
meets_span clip h n at [] p m = absurd (omega arith)
meets_span clip h n at (x ∷ xs) p m = elim (cases_lt clip.start (at + x)) as (λ _. IsSpan h (filter (is_met clip) (lay h n at (x ∷ xs)))) [
  | inl l ↦
      (let rest : IsLaid h (n + 1) (at + x) (filter (is_met clip) (lay h (n + 1) (at + x) xs)) = meets_front clip h (n + 1) (at + x) xs p.1 l (omega arith) in
      record {
        number = n;
        at = at;
        first = x;
        rest = rest.lengths;
        is = filter-yes (is_met clip) (chunk h n at x) (lay h (n + 1) (at + x) xs) (is_met-yes clip h n at x p.0 l (omega arith) (omega arith)) ∙ ap (λ cs. chunk h n at x ∷ cs) rest.is;
      })
  | inr l ↦
      (let e : sum (x ∷ xs) ≡ x + sum xs = sum-cons x xs in
      let s : IsSpan h (filter (is_met clip) (lay h (n + 1) (at + x) xs)) = meets_span clip h (n + 1) (at + x) xs p.1 (omega arith) in
      record {
        number = s.number;
        at = s.at;
        first = s.first;
        rest = s.rest;
        is = filter-no (is_met clip) (chunk h n at x) (lay h (n + 1) (at + x) xs) (is_met-no clip h n at x (inr l)) ∙ s.is;
      })
]

-- which chunks are laid down
pub has_lay : (h : List ℕ) (n at : ℕ) (ns : List ℕ) (x : List ℕ) (k : ℕ) → Has (lay h n at ns) x k → (h ≡ x) × (n ≤ k) × (k < n + length ns)
has_lay h n at [] x k p = absurd p
has_lay h n at (m ∷ ms) x k (inl p) = (p.0, omega (arith, p.1), omega (arith, p.1))
has_lay h n at (m ∷ ms) x k (inr p) = let r : (h ≡ x) × (n + 1 ≤ k) × (k < n + 1 + length ms) = has_lay h (n + 1) (at + m) ms x k p in (r.0, omega (arith, r.1), omega (arith, r.2))

pub lay_has : (h : List ℕ) (n at : ℕ) (ns : List ℕ) (x : List ℕ) (k : ℕ) → h ≡ x → n ≤ k → k < n + length ns → Has (lay h n at ns) x k
lay_has h n at [] x k e l m = absurd (omega arith)
lay_has h n at (m ∷ ms) x k e l g = elim (cases_lt n k) as (λ _. Has (lay h n at (m ∷ ms)) x k) [
  | inl q ↦ inr (lay_has h (n + 1) (at + m) ms x k e (omega arith) (omega arith))
  | inr q ↦ inl (e, omega arith)
]

pub kept_span : (known : Known) (clip : Interval) (p : Placed) → IsReadable known p → max clip.start p.at < min clip.end (p.at + p.segment.unpacked_segment_bytes) → IsSpan p.segment.xorb_hash (kept known clip p)
kept_span known clip p r m =
    let a : Agreement p.segment r.xorb = agreed p.segment r.xorb r.agrees in
    let ns = lengths_in p.segment r.xorb in
    let positive : Positive ns = recursion_from_All (λ n. 0 < n) ns (All-take (λ n. 0 < n) (p.segment.chunk_index_end - p.segment.chunk_index_start) (drop p.segment.chunk_index_start r.xorb.lengths) (All-drop (λ n. 0 < n) p.segment.chunk_index_start r.xorb.lengths r.nonempty)) in
    let s : IsSpan p.segment.xorb_hash (filter (is_met clip) (lay p.segment.xorb_hash p.segment.chunk_index_start p.at ns)) = meets_span clip p.segment.xorb_hash p.segment.chunk_index_start p.at ns positive (omega (arith, a.sums)) in
    subst (λ (o : Option Xorb). IsSpan p.segment.xorb_hash (filter (is_met clip) (lay p.segment.xorb_hash p.segment.chunk_index_start p.at (lengths_at p.segment o)))) (sym r.is) s
