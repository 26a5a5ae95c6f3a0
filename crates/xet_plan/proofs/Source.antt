-- The chunks that hold a byte of the interval are those whose own bytes meet it.
use Rattle.std.proofs.Common.{◌≡◌, ◌∙◌, ℕ, ◌+◌, ◌-◌, ◌<◌, ◌≤◌, nat_lt, min, max, cond, List, [], ◌∷◌, sum, drop, filter, refl, sym, ap, subst, arith, ◌⊎◌, inl, inr, true, false, Bool, Option, Some}
use Rattle.std.specs.List.{AllByRecursion, flat_map}
use Rattle.std.proofs.lemmas.Bool.{cases_lt, lt-ltb, le-ltb}
use Rattle.std.proofs.lemmas.List.Elements.{recursion_from_All, All-take, All-drop}
use Rattle.std.proofs.lemmas.List.Sums.{sum_by-cons}
use Rattle.xet_shard.specs.declared.listing.Segment.{Segment}
use Rattle.xet_xorb.specs.Values.{Xorb}
use Rattle.xet_shard.specs.Values.{size_of}
use Rattle.xet_plan.specs.Places.{Interval, Placed, Known, place, meets, met_from, lengths_in}
use Rattle.xet_plan.specs.MetChunks.{Chunk, chunk, lay, is_met, kept, lengths_at, Has}
use Rattle.xet_plan.specs.Cuts.{IsReadable}
use Rattle.xet_plan.specs.Least.{Name, chunk_at, source}
use Rattle.xet_plan.proofs.Lay.{filter-yes, filter-no, is_met-yes, is_met-no, sum-cons}
use Rattle.xet_plan.proofs.Cuts.{Agreement, agreed}
use Rattle.xet_plan.proofs.PlanOk.{has_left, has_right, has_cases}
use Rattle.xet_plan.proofs.SoFar.{met-yes}

-- a chunk is met or isn't
met_cases : (clip : Interval) (h : List ℕ) (n at x : ℕ) → 0 < x → clip.start < clip.end → ((is_met clip (chunk h n at x) ≡ true) × (clip.start < at + x) × (at < clip.end)) ⊎ ((is_met clip (chunk h n at x) ≡ false) × ((clip.end ≤ at) ⊎ (at + x ≤ clip.start)))
met_cases clip h n at x p o = elim (cases_lt clip.start (at + x)) as (λ _. ((is_met clip (chunk h n at x) ≡ true) × (clip.start < at + x) × (at < clip.end)) ⊎ ((is_met clip (chunk h n at x) ≡ false) × ((clip.end ≤ at) ⊎ (at + x ≤ clip.start)))) [
  | inl l ↦ (elim (cases_lt at clip.end) as (λ _. ((is_met clip (chunk h n at x) ≡ true) × (clip.start < at + x) × (at < clip.end)) ⊎ ((is_met clip (chunk h n at x) ≡ false) × ((clip.end ≤ at) ⊎ (at + x ≤ clip.start)))) [
    | inl m ↦ inl (is_met-yes clip h n at x p l m o, l, m)
    | inr m ↦ inr (is_met-no clip h n at x (inl m), inl m)
  ])
  | inr l ↦ inr (is_met-no clip h n at x (inr l), inr l)
]

at-yes : (h : List ℕ) (n x : ℕ) (xs : List ℕ) (j : ℕ) → j < x → chunk_at h n (x ∷ xs) j ≡ Some (h, n)
at-yes h n x xs j l = rw (lt-ltb j x l) refl

at-no : (h : List ℕ) (n x : ℕ) (xs : List ℕ) (j : ℕ) → x ≤ j → chunk_at h n (x ∷ xs) j ≡ chunk_at h (n + 1) xs (j - x)
at-no h n x xs j l = rw (le-ltb j x l) refl

has_more : (p : Chunk → Bool) (c : Chunk) (cs : List Chunk) (x : List ℕ) (k : ℕ) → Has (filter p cs) x k → Has (filter p (c ∷ cs)) x k
has_more p c cs x k h = elim (p c) as (λ b. Has (cond b (c ∷ filter p cs) (filter p cs)) x k) [ true ↦ inr h | false ↦ h ]

-- the chunk that holds a byte of the interval is met
pub met_source : (clip : Interval) (h : List ℕ) (n at : ℕ) (ns : List ℕ) (j : ℕ) (c : Name) → clip.start ≤ at + j → at + j < clip.end → chunk_at h n ns j ≡ Some c → Has (filter (is_met clip) (lay h n at ns)) c.0 c.1
met_source clip h n at [] j c l m e = let f : ⊥ = cc in absurd f
met_source clip h n at (x ∷ xs) j c l m e = elim (cases_lt j x) as (λ _. Has (filter (is_met clip) (lay h n at (x ∷ xs))) c.0 c.1) [
  | inl q ↦
      (let s : Some (h, n) ≡ Some c = sym (at-yes h n x xs j q) ∙ e in
      let same : (h, n) ≡ c = some_same s in
      subst (λ cs. Has cs c.0 c.1) (sym (filter-yes (is_met clip) (chunk h n at x) (lay h (n + 1) (at + x) xs) (is_met-yes clip h n at x (omega arith) (omega arith) (omega arith) (omega arith))))
      (inl (ap (λ (d : Name). d.0) same, ap (λ (d : Name). d.1) same)))
  | inr q ↦ has_more (is_met clip) (chunk h n at x) (lay h (n + 1) (at + x) xs) c.0 c.1 (met_source clip h (n + 1) (at + x) xs (j - x) c (omega arith) (omega arith) (sym (at-no h n x xs j q) ∙ e))
]
  where
    some_same : {X : Type 0} {a b : X} → Some a ≡ Some b → a ≡ b
    some_same s = cc

pub record IsByteOf (clip : Interval) (at : ℕ) (f : ℕ → Option Name) (c : Name) (bound : ℕ) : Type 0 where
  pub j : ℕ
  pub low : clip.start ≤ at + j
  pub high : at + j < clip.end
  pub below : j < bound
  pub is : f j ≡ Some c

-- a chunk that is met holds a byte of the interval
pub source_met : (clip : Interval) (h : List ℕ) (n at : ℕ) (ns : List ℕ) (x : List ℕ) (k : ℕ) → AllByRecursion (λ n. 0 < n) ns → clip.start < clip.end → Has (filter (is_met clip) (lay h n at ns)) x k → IsByteOf clip at (chunk_at h n ns) (x, k) (sum ns)
source_met clip h n at [] x k a o p = absurd p
source_met clip h n at (y ∷ ys) x k a o p = elim (met_cases clip h n at y a.0 o) as (λ _. IsByteOf clip at (chunk_at h n (y ∷ ys)) (x, k) (sum (y ∷ ys))) [
  | inl t ↦ here (λ q. source_met clip h (n + 1) (at + y) ys x k a.1 o q) t.1 t.2 (subst (λ cs. Has cs x k) (filter-yes (is_met clip) (chunk h n at y) (lay h (n + 1) (at + y) ys) t.0) p)
  | inr t ↦ later (source_met clip h (n + 1) (at + y) ys x k a.1 o (subst (λ cs. Has cs x k) (filter-no (is_met clip) (chunk h n at y) (lay h (n + 1) (at + y) ys) t.0) p))
]
  where
    later : IsByteOf clip (at + y) (chunk_at h (n + 1) ys) (x, k) (sum ys) → IsByteOf clip at (chunk_at h n (y ∷ ys)) (x, k) (sum (y ∷ ys))
    later b =
        let e : y + b.j - y ≡ b.j = omega arith in
        record {
          j = y + b.j;
          low = omega (arith, b.low);
          high = omega (arith, b.high);
          below = omega (arith, b.below, sum-cons y ys);
          is = at-no h n y ys (y + b.j) (omega arith) ∙ ap (chunk_at h (n + 1) ys) e ∙ b.is;
        }

    here : (Has (filter (is_met clip) (lay h (n + 1) (at + y) ys)) x k → IsByteOf clip (at + y) (chunk_at h (n + 1) ys) (x, k) (sum ys)) → clip.start < at + y → at < clip.end → Has (chunk h n at y ∷ filter (is_met clip) (lay h (n + 1) (at + y) ys)) x k → IsByteOf clip at (chunk_at h n (y ∷ ys)) (x, k) (sum (y ∷ ys))
    here f l m (inl q) = record {
      j = max clip.start at - at;
      low = omega arith;
      high = omega arith;
      below = omega (arith, sum-cons y ys, a.0);
      is = at-yes h n y ys (max clip.start at - at) (omega (arith, a.0)) ∙ (ap (λ z. Some (z, n)) q.0 ∙ ap (λ z. Some (x, z)) q.1);
    }
    here f l m (inr q) = later (f q)

-- each byte has a chunk
pub chunk_total : (h : List ℕ) (n : ℕ) (ns : List ℕ) (j : ℕ) → j < sum ns → (c : Name) × (chunk_at h n ns j ≡ Some c)
chunk_total h n [] j l = absurd (omega arith)
chunk_total h n (x ∷ xs) j l = elim (cases_lt j x) as (λ _. (c : Name) × (chunk_at h n (x ∷ xs) j ≡ Some c)) [
  | inl q ↦ ((h, n), at-yes h n x xs j q)
  | inr q ↦
      (let r : (c : Name) × (chunk_at h (n + 1) xs (j - x) ≡ Some c) = chunk_total h (n + 1) xs (j - x) (omega (arith, sum-cons x xs)) in
      (r.0, at-no h n x xs j q ∙ r.1))
]

pub positive_range : (known : Known) (p : Placed) (r : IsReadable known p) → AllByRecursion (λ n. 0 < n) (lengths_in p.segment r.xorb)
positive_range known p r = recursion_from_All (λ n. 0 < n) (lengths_in p.segment r.xorb) (All-take (λ n. 0 < n) (p.segment.chunk_index_end - p.segment.chunk_index_start) (drop p.segment.chunk_index_start r.xorb.lengths) (All-drop (λ n. 0 < n) p.segment.chunk_index_start r.xorb.lengths r.nonempty))

tail_readable : (known : Known) (clip : Interval) (at : ℕ) (s : Segment) (ss : List Segment) → AllByRecursion (IsReadable known) (met_from clip at (s ∷ ss)) → AllByRecursion (IsReadable known) (met_from clip (at + s.unpacked_segment_bytes) ss)
tail_readable known clip at s ss r =
    let rest = met_from clip (at + s.unpacked_segment_bytes) ss in
    let by : (b : Bool) → AllByRecursion (IsReadable known) (cond b (place at s ∷ rest) rest) → AllByRecursion (IsReadable known) rest
    = λ b. elim b as (λ b. AllByRecursion (IsReadable known) (cond b (place at s ∷ rest) rest) → AllByRecursion (IsReadable known) rest) [ true ↦ λ q. q.1 | false ↦ λ q. q ] in
    by (meets clip at s.unpacked_segment_bytes) r

-- the segments, from one that begins at a place
pub met_segment_source : (known : Known) (clip : Interval) (at : ℕ) (ss : List Segment) (j : ℕ) (c : Name) → clip.start ≤ at + j → at + j < clip.end → source known ss j ≡ Some c → Has (flat_map (kept known clip) (met_from clip at ss)) c.0 c.1
met_segment_source known clip at [] j c l m e = let f : ⊥ = cc in absurd f
met_segment_source known clip at (s ∷ ss) j c l m e = elim (cases_lt j s.unpacked_segment_bytes) as (λ _. Has (flat_map (kept known clip) (met_from clip at (s ∷ ss))) c.0 c.1) [
  | inl q ↦
      (let here : chunk_at s.xorb_hash s.chunk_index_start (lengths_at s (known s.xorb_hash)) j ≡ Some c = rw (lt-ltb j s.unpacked_segment_bytes q) at e in
      let yes : meets clip at s.unpacked_segment_bytes ≡ true = lt-ltb (max clip.start at) (min clip.end (at + s.unpacked_segment_bytes)) (omega arith) in
      subst (λ ps. Has (flat_map (kept known clip) ps) c.0 c.1) (sym (met-yes clip at s ss yes))
      (has_left (kept known clip (place at s)) (flat_map (kept known clip) (met_from clip (at + s.unpacked_segment_bytes) ss)) c.0 c.1
      (met_source clip s.xorb_hash s.chunk_index_start at (lengths_at s (known s.xorb_hash)) j c l m here)))
  | inr q ↦
      (let later : source known ss (j - s.unpacked_segment_bytes) ≡ Some c = rw (le-ltb j s.unpacked_segment_bytes q) at e in
      let rest : Has (flat_map (kept known clip) (met_from clip (at + s.unpacked_segment_bytes) ss)) c.0 c.1 = met_segment_source known clip (at + s.unpacked_segment_bytes) ss (j - s.unpacked_segment_bytes) c (omega arith) (omega arith) later in
      more known clip at s ss c rest)
]
  where
    more : (known : Known) (clip : Interval) (at : ℕ) (s : Segment) (ss : List Segment) (c : Name) → Has (flat_map (kept known clip) (met_from clip (at + s.unpacked_segment_bytes) ss)) c.0 c.1 → Has (flat_map (kept known clip) (met_from clip at (s ∷ ss))) c.0 c.1
    more known clip at s ss c h = elim (meets clip at s.unpacked_segment_bytes) as (λ b. Has (flat_map (kept known clip) (cond b (place at s ∷ met_from clip (at + s.unpacked_segment_bytes) ss) (met_from clip (at + s.unpacked_segment_bytes) ss))) c.0 c.1) [
      | true ↦ has_right (kept known clip (place at s)) (flat_map (kept known clip) (met_from clip (at + s.unpacked_segment_bytes) ss)) c.0 c.1 h
      | false ↦ h
    ]

pub record IsSourceOf (known : Known) (clip : Interval) (at : ℕ) (ss : List Segment) (c : Name) : Type 0 where
  pub j : ℕ
  pub low : clip.start ≤ at + j
  pub high : at + j < clip.end
  pub is : source known ss j ≡ Some c

source_later : (known : Known) (clip : Interval) (at : ℕ) (s : Segment) (ss : List Segment) (c : Name) → IsSourceOf known clip (at + s.unpacked_segment_bytes) ss c → IsSourceOf known clip at (s ∷ ss) c
source_later known clip at s ss c b =
    let n = s.unpacked_segment_bytes in
    let e : n + b.j - n ≡ b.j = omega arith in
    let no : nat_lt (n + b.j) n ≡ false = le-ltb (n + b.j) n (omega arith) in
    record { j = n + b.j; low = omega (arith, b.low); high = omega (arith, b.high); is = rw (no, e) b.is }

source_here : (known : Known) (clip : Interval) (at : ℕ) (s : Segment) (ss : List Segment) (x : List ℕ) (k : ℕ) → IsReadable known (place at s) → clip.start < clip.end → Has (kept known clip (place at s)) x k → IsSourceOf known clip at (s ∷ ss) (x, k)
source_here known clip at s ss x k r o h =
    let a : Agreement s r.xorb = agreed s r.xorb r.agrees in
    let g : Has (filter (is_met clip) (lay s.xorb_hash s.chunk_index_start at (lengths_in s r.xorb))) x k = subst (λ (o : Option Xorb). Has (filter (is_met clip) (lay s.xorb_hash s.chunk_index_start at (lengths_at s o))) x k) r.is h in
    let b : IsByteOf clip at (chunk_at s.xorb_hash s.chunk_index_start (lengths_in s r.xorb)) (x, k) (sum (lengths_in s r.xorb)) = source_met clip s.xorb_hash s.chunk_index_start at (lengths_in s r.xorb) x k (positive_range known (place at s) r) o g in
    let yes : nat_lt b.j s.unpacked_segment_bytes ≡ true = lt-ltb b.j s.unpacked_segment_bytes (omega (arith, b.below, a.sums)) in
    record { j = b.j; low = b.low; high = b.high; is = rw (yes, r.is) b.is }

pub source_segment : (known : Known) (clip : Interval) (at : ℕ) (ss : List Segment) (x : List ℕ) (k : ℕ) → AllByRecursion (IsReadable known) (met_from clip at ss) → clip.start < clip.end → Has (flat_map (kept known clip) (met_from clip at ss)) x k → IsSourceOf known clip at ss (x, k)
source_segment known clip at [] x k r o h = absurd h
source_segment known clip at (s ∷ ss) x k r o h =
    let rest = met_from clip (at + s.unpacked_segment_bytes) ss in
    let by : (b : Bool) → AllByRecursion (IsReadable known) (cond b (place at s ∷ rest) rest) → Has (flat_map (kept known clip) (cond b (place at s ∷ rest) rest)) x k → IsSourceOf known clip at (s ∷ ss) (x, k)
    = λ b. elim b as (λ b. AllByRecursion (IsReadable known) (cond b (place at s ∷ rest) rest) → Has (flat_map (kept known clip) (cond b (place at s ∷ rest) rest)) x k → IsSourceOf known clip at (s ∷ ss) (x, k)) [
      | true ↦ λ q g. elim (has_cases (kept known clip (place at s)) (flat_map (kept known clip) rest) x k g) as (λ _. IsSourceOf known clip at (s ∷ ss) (x, k)) [
        | inl u ↦ source_here known clip at s ss x k q.0 o u
        | inr u ↦ source_later known clip at s ss (x, k) (source_segment known clip (at + s.unpacked_segment_bytes) ss x k q.1 o u)
      ]
      | false ↦ λ q g. source_later known clip at s ss (x, k) (source_segment known clip (at + s.unpacked_segment_bytes) ss x k q o g)
    ] in
    by (meets clip at s.unpacked_segment_bytes) r h

-- each byte of the interval has a source
pub source_total : (known : Known) (clip : Interval) (at : ℕ) (ss : List Segment) (j : ℕ) → AllByRecursion (IsReadable known) (met_from clip at ss) → clip.start ≤ at + j → at + j < clip.end → j < size_of ss → (c : Name) × (source known ss j ≡ Some c)
source_total known clip at [] j r l m n = absurd (omega arith)
source_total known clip at (s ∷ ss) j r l m n = elim (cases_lt j s.unpacked_segment_bytes) as (λ _. (c : Name) × (source known (s ∷ ss) j ≡ Some c)) [
  | inl q ↦
      (let yes : meets clip at s.unpacked_segment_bytes ≡ true = lt-ltb (max clip.start at) (min clip.end (at + s.unpacked_segment_bytes)) (omega arith) in
      let r' : AllByRecursion (IsReadable known) (place at s ∷ met_from clip (at + s.unpacked_segment_bytes) ss) = subst (AllByRecursion (IsReadable known)) (met-yes clip at s ss yes) r in
      let a : Agreement s (r'.0).xorb = agreed s (r'.0).xorb (r'.0).agrees in
      let t : (c : Name) × (chunk_at s.xorb_hash s.chunk_index_start (lengths_in s (r'.0).xorb) j ≡ Some c) = chunk_total s.xorb_hash s.chunk_index_start (lengths_in s (r'.0).xorb) j (omega (arith, a.sums)) in
      (t.0, rw (lt-ltb j s.unpacked_segment_bytes q, (r'.0).is) t.1))
  | inr q ↦
      (let t : (c : Name) × (source known ss (j - s.unpacked_segment_bytes) ≡ Some c)
      = source_total known clip (at + s.unpacked_segment_bytes) ss (j - s.unpacked_segment_bytes) (tail_readable known clip at s ss r) (omega arith) (omega arith) (omega (arith, sum_by-cons (λ (x : Segment). x.unpacked_segment_bytes) s ss)) in
      (t.0, rw (le-ltb j s.unpacked_segment_bytes q) t.1))
]
