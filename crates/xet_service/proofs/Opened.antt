-- The read that a plan of a store opens is good, where its terms have their chunks' lengths.
use Rattle.std.proofs.Common.{◌≡◌, ◌∙◌, ℕ, zero, suc, ◌+◌, ◌-◌, ◌<◌, ◌≤◌, true, false, Bool, cond, ◌&&◌, List, [], ◌∷◌, ◌++◌, length, map, filter, drop, sum, slice_range, Option, Some, None, refl, sym, ap, subst, arith, ◌⊎◌, inl, inr}
use Rattle.std.specs.Prelude.{slice_get, nat_le, is_some, ◌==◌}
use Rattle.std.specs.List.{AllByRecursion, flat_map}
use Rattle.std.proofs.lemmas.Bool.{leb-true, eqb-true, eq-eqb}
use Rattle.std.proofs.lemmas.List.{length-map}
use Rattle.std.proofs.lemmas.List.Sums.{sum_by-cons}
use Rattle.xet_types.specs.Names.{same_hash}
use Rattle.xet_types.specs.declared.range.Range.{Range}
use Rattle.xet_types.specs.declared.range._F.{_F}
use Rattle.xet_types.specs.declared.record.XorbReconstructionTerm.{XorbReconstructionTerm}
use Rattle.xet_shard.specs.declared.listing.Segment.{Segment}
use Rattle.xet_plan.specs.Places.{Interval}
use Rattle.xet_plan.specs.FileBytes.{Content, chunks_between, term_bytes, file_bytes}
use Rattle.xet_plan.specs.Plans.{PlanModel}
use Rattle.xet_plan.specs.Answers.{IsPlan}
use Rattle.xet_plan.proofs.Order.{same-hash}
use Rattle.xet_store.specs.StoreModel.{StoreModel, Chunks, stored, known_of, content_of, IsSound}
use Rattle.xet_store.specs.Plans.{Serves, cut_to, length_asked}
use Rattle.xet_store.specs.Responses.{descriptor_of}
use Rattle.xet_xorb.specs.Lengths.{packed_before}
use Rattle.xet_xorb.specs.ChunkLists.{lengths_of}
use Rattle.xet_plan.specs.declared.runs.MergedRange.{MergedRange}
use Rattle.xet_service.specs.declared.step.PlanVersion.{PlanVersion}
use Rattle.xet_service.specs.declared.reader.held.LinkRange.{LinkRange}
use Rattle.xet_service.specs.declared.reader.held.HeldTerm.{HeldTerm}
use Rattle.xet_service.specs.declared.reader.link.ReadLink.{ReadLink}
use Rattle.xet_service.specs.Links.{LinkModel, answer_of}
use Rattle.xet_service.specs.Reading.{has_length, chunks_or_none, nth_chunks, have_lengths, left_one, count_left}
use Rattle.xet_service.specs.ReadingPlans.{all_apart, total_of, fresh_links, ranges_of, all_ranges, range_holds, range_of, all_held, held_term, held_by, held_terms, is_of_link, with_terms, plan_ranges, plan_terms, reading_of}
use Rattle.xet_service.specs.World.{IsOrderly}
use Rattle.xet_service.specs.Validity.{AgreesWith}
use Rattle.xet_service.proofs.PlanRuns.{run, Linked, linked, link_runs, all_runs, link_of, fresh_of, links_in, links_same, plan_fresh, runs_same, same_terms, same_offset, links_some, HasRuns, all_left as left_of, all_right}
use Rattle.xet_service.proofs.RunChunks.{IsNonEmpty, runs_nonempty}
use Rattle.xet_service.proofs.Described.{describes_map, same_bytes}
use Rattle.xet_service.proofs.Planned.{answered_links}
use Rattle.xet_service.proofs.Holders.{range_at}
use Rattle.xet_service.proofs.Opening.{opens, orderly, IsStoredRun, plan_runs}
use Rattle.xet_service.proofs.Goods.{all_chunks, GoodRange, GoodLink, IsHeldIn, GoodRead, term_of}
use Rattle.xet_service.proofs.Taken.{some_is, part_of_part, nth_is}

-- the term has its chunks' length
abbrev pub IsSized : StoreModel → XorbReconstructionTerm → Type 0
IsSized store t = sum (map length (chunks_between (stored store t.hash) t.range.start t.range.end)) ≡ t.unpacked_length

-- ---- the range that holds a term

both : (a b : Bool) → (a && b) ≡ true → (a ≡ true) × (b ≡ true)
both true true e = (refl, refl)
both true false e = absurd cc
both false b e = absurd cc

-- the range is that of a run of a link, which has the term's chunks
record IsFound (n : ℕ) (ls : List Linked) (t : XorbReconstructionTerm) (x : LinkRange) : Type 0 where
  pub place : ℕ
  pub link : Linked
  pub there : slice_get ls place ≡ Some link
  pub numbered : x.link ≡ n + place
  pub range : MergedRange
  pub at : slice_get link.runs x.number ≡ Some range
  pub from : x.chunks.start ≡ range.chunk_range.start
  pub hash : link.hash ≡ t.hash
  pub low : range.chunk_range.start ≤ t.range.start
  pub rises : t.range.start ≤ t.range.end
  pub high : t.range.end ≤ range.chunk_range.end

-- the same among the runs of one link, numbered from a number on
record IsFoundIn (h : List ℕ) (n i : ℕ) (rs : List MergedRange) (t : XorbReconstructionTerm) (x : LinkRange) : Type 0 where
  pub place : ℕ
  pub range : MergedRange
  pub there : slice_get rs place ≡ Some range
  pub number : x.number ≡ i + place
  pub link : x.link ≡ n
  pub from : x.chunks.start ≡ range.chunk_range.start
  pub hash : h ≡ t.hash
  pub low : range.chunk_range.start ≤ t.range.start
  pub rises : t.range.start ≤ t.range.end
  pub high : t.range.end ≤ range.chunk_range.end

found_in : (h : List ℕ) (n i : ℕ) (rs : List MergedRange) (t : XorbReconstructionTerm) (x : LinkRange) → range_of (ranges_of h n i (map descriptor_of rs)) t ≡ Some x → IsFoundIn h n i rs t x
found_in h n i [] t x e = absurd cc
found_in h n i (r ∷ rs) t x e = of (range_holds t (range_at h n i r)) refl (λ g. found_in h n (suc i) rs t x g) e
  where
    of : (b : Bool) → range_holds t (range_at h n i r) ≡ b → (range_of (ranges_of h n (suc i) (map descriptor_of rs)) t ≡ Some x → IsFoundIn h n (suc i) rs t x) → cond b (Some (range_at h n i r)) (range_of (ranges_of h n (suc i) (map descriptor_of rs)) t) ≡ Some x → IsFoundIn h n i (r ∷ rs) t x
    of true is rest g =
        let same : range_at h n i r ≡ x = cc in
        let a = both (same_hash h t.hash) (nat_le r.chunk_range.start t.range.start && (nat_le t.range.start t.range.end && nat_le t.range.end r.chunk_range.end)) is in
        let b = both (nat_le r.chunk_range.start t.range.start) (nat_le t.range.start t.range.end && nat_le t.range.end r.chunk_range.end) a.1 in
        let d = both (nat_le t.range.start t.range.end) (nat_le t.range.end r.chunk_range.end) b.1 in
        record {
          place = 0;
          range = r;
          there = refl;
          number = let k : x.number ≡ i = ap (λ (y : LinkRange). y.number) (sym same) in omega (arith, k);
          link = ap (λ (y : LinkRange). y.link) (sym same);
          from = ap (λ (y : LinkRange). y.chunks.start) (sym same);
          hash = same-hash h t.hash a.0;
          low = leb-true r.chunk_range.start t.range.start b.0;
          rises = leb-true t.range.start t.range.end d.0;
          high = leb-true t.range.end r.chunk_range.end d.1;
        }
    of false is rest g =
        let f = rest g in
        record { place = suc f.place; range = f.range; there = f.there; number = let k = f.number in omega (arith, k); link = f.link; from = f.from; hash = f.hash; low = f.low; rises = f.rises; high = f.high }

-- the first range that holds a term is of the first list or of the second
first_of : (t : XorbReconstructionTerm) (xs ys : List LinkRange) (x : LinkRange) → range_of (xs ++ ys) t ≡ Some x → (range_of xs t ≡ Some x) ⊎ (range_of ys t ≡ Some x)
first_of t [] ys x e = inr e
first_of t (q ∷ xs) ys x e = of (range_holds t q) e (λ g. first_of t xs ys x g)
  where
    of : (b : Bool) → cond b (Some q) (range_of (xs ++ ys) t) ≡ Some x → (range_of (xs ++ ys) t ≡ Some x → (range_of xs t ≡ Some x) ⊎ (range_of ys t ≡ Some x)) → (cond b (Some q) (range_of xs t) ≡ Some x) ⊎ (range_of ys t ≡ Some x)
    of true g more = inl g
    of false g more = more g

found_at : (n : ℕ) (ls : List Linked) (t : XorbReconstructionTerm) (x : LinkRange) → range_of (all_ranges n (map fresh_of ls)) t ≡ Some x → IsFound n ls t x
found_at n [] t x e = absurd cc
found_at n (l ∷ ls) t x e = elim (first_of t (ranges_of l.hash n 0 (map descriptor_of l.runs)) (all_ranges (suc n) (map fresh_of ls)) x e) as (λ _. IsFound n (l ∷ ls) t x) [
  | inl g ↦
      (let f = found_in l.hash n 0 l.runs t x g in
      record {
        place = 0;
        link = l;
        there = refl;
        numbered = let k = f.link in omega (arith, k);
        range = f.range;
        at = ap (slice_get l.runs) (let k : x.number ≡ f.place = let j = f.number in omega (arith, j) in k) ∙ f.there;
        from = f.from;
        hash = f.hash;
        low = f.low;
        rises = f.rises;
        high = f.high;
      })
  | inr g ↦
      (let f = found_at (suc n) ls t x g in
      record { place = suc f.place; link = f.link; there = f.there; numbered = let k = f.numbered in omega (arith, k); range = f.range; at = f.at; from = f.from; hash = f.hash; low = f.low; rises = f.rises; high = f.high })
]

-- ---- the links with their terms

abbrev held_link : ℕ → Linked → List HeldTerm → ReadLink
held_link n l hs = record (fresh_of l) { held = [] ++ filter (is_of_link n) hs }

link_at : (n : ℕ) (ls : List Linked) (hs : List HeldTerm) (k : ℕ) (l : Linked) → slice_get ls k ≡ Some l → slice_get (with_terms n (map fresh_of ls) hs) k ≡ Some (held_link (n + k) l hs)
link_at n [] hs k l e = absurd cc
link_at n (x ∷ ls) hs zero l e =
    let same : x ≡ l = cc in
    ap (λ (y : Linked). Some (held_link n y hs)) same ∙ ap (λ (i : ℕ). Some (held_link i l hs)) (let f : n ≡ n + 0 = omega arith in f)
link_at n (x ∷ ls) hs (suc k) l e = link_at (suc n) ls hs k l e ∙ ap (λ (i : ℕ). Some (held_link i l hs)) (let f : suc n + k ≡ n + suc k = omega arith in f)

all_left : (n : ℕ) (ls : List Linked) (hs : List HeldTerm) → count_left (with_terms n (map fresh_of ls) hs) ≡ length ls
all_left n [] hs = refl
all_left n (l ∷ ls) hs =
    let sums = sum_by-cons left_one (held_link n l hs) (with_terms (suc n) (map fresh_of ls) hs) in
    let rest = all_left (suc n) ls hs in
    omega (arith, sums, rest)

get_mapped : {X Y : Type 0} (f : X → Y) (xs : List X) (k : ℕ) (x : X) → slice_get xs k ≡ Some x → slice_get (map f xs) k ≡ Some (f x)
get_mapped f [] k x e = absurd cc
get_mapped {Y = Y} f (y ∷ xs) zero x e = ap (λ (z : _). Some (f z)) (some_is y x e)
get_mapped f (y ∷ xs) (suc k) x e = get_mapped f xs k x e

-- ---- the terms

module _ (ls : List Linked) where
  abbrev ranges : List LinkRange
  ranges = all_ranges 0 (map fresh_of ls)

  terms_back : (ts : List XorbReconstructionTerm) → all_held ranges ts ≡ true → map term_of (held_terms ranges ts) ≡ ts
  terms_back [] e = refl
  terms_back (t ∷ ts) e = of (range_of ranges t) (both (is_some (range_of ranges t)) (all_held ranges ts) e).0 (terms_back ts (both (is_some (range_of ranges t)) (all_held ranges ts) e).1)
    where
      of : (o : Option LinkRange) → is_some o ≡ true → map term_of (held_terms ranges ts) ≡ ts → map term_of (held_by t o ++ held_terms ranges ts) ≡ t ∷ ts
      of None f rest = absurd cc
      of (Some x) f rest = ap (λ (xs : List XorbReconstructionTerm). t ∷ xs) rest

  -- what holds of each held term that is found
  all_held_by : (P : HeldTerm → Type 0) (ts : List XorbReconstructionTerm) → AllByRecursion (λ t. (x : LinkRange) → range_of ranges t ≡ Some x → P (held_term t x)) ts → AllByRecursion P (held_terms ranges ts)
  all_held_by P [] h = tt
  all_held_by P (t ∷ ts) h = of (range_of ranges t) refl (all_held_by P ts h.1)
    where
      of : (o : Option LinkRange) → range_of ranges t ≡ o → AllByRecursion P (held_terms ranges ts) → AllByRecursion P (held_by t o ++ held_terms ranges ts)
      of None e rest = rest
      of (Some x) e rest = (h.0 x e, rest)

  held_in : (hs : List HeldTerm) (ts : List XorbReconstructionTerm) → AllByRecursion (λ t. (x : LinkRange) → range_of ranges t ≡ Some x → IsHeldIn (with_terms 0 (map fresh_of ls) hs) (held_term t x)) ts
  held_in hs [] = tt
  held_in hs (t ∷ ts) = (
    λ x e.
        let f = found_at 0 ls t x e in
        record {
          link = held_link (0 + f.place) f.link hs;
          there = ap (slice_get (with_terms 0 (map fresh_of ls) hs)) f.numbered ∙ ap (slice_get (with_terms 0 (map fresh_of ls) hs)) (let z : 0 + f.place ≡ f.place = omega arith in z) ∙ link_at 0 ls hs f.place f.link f.there;
          hash = f.hash;
          range = descriptor_of f.range;
          at = get_mapped descriptor_of f.link.runs x.number f.range f.at;
          from = f.from;
          low = f.low;
          rises = f.rises;
          high = f.high;
        },
    held_in hs ts,
  )

abbrev some_link : Linked → Option Linked
some_link l = Some l

-- ---- the lengths

-- the list that the store has of a link's xorb, which has all its runs
record IsStoredLink (store : StoreModel) (l : Linked) : Type 0 where
  pub chunks : Chunks
  pub is : stored store l.hash ≡ Some chunks
  pub each : AllByRecursion (GoodRange chunks) (map descriptor_of l.runs)

good_of : (store : StoreModel) (h : List ℕ) (chunks : Chunks) (rs : List MergedRange) → stored store h ≡ Some chunks → AllByRecursion (IsStoredRun store) (map (run h) rs) → AllByRecursion IsNonEmpty (map (run h) rs) → AllByRecursion (GoodRange chunks) (map descriptor_of rs)
good_of store h chunks [] is there some = tt
good_of store h chunks (r ∷ rs) is there some =
    let s : IsStoredRun store (run h r) = there.0 in
    let list : s.chunks ≡ chunks = some_is s.chunks chunks (sym s.is ∙ is) in (
      record {
        some = some.0;
        inside = subst (λ (cs : Chunks). r.chunk_range.end ≤ length cs) list s.inside;
        first = s.start ∙ ap (λ (cs : Chunks). packed_before (lengths_of cs) r.chunk_range.start) list;
        last = ap (λ (e : ℕ). e - 1) (s.end ∙ ap (λ (cs : Chunks). packed_before (lengths_of cs) r.chunk_range.end) list);
      },
      good_of store h chunks rs is there.1 some.1,
    )

stored_link : (store : StoreModel) (h url : List ℕ) (rs : List MergedRange) → 0 < length rs → AllByRecursion (IsStoredRun store) (map (run h) rs) → AllByRecursion IsNonEmpty (map (run h) rs) → IsStoredLink store (linked h url rs)
stored_link store h url [] full there some = absurd (omega (arith, full))
stored_link store h url (r ∷ rs) full there some =
    let s : IsStoredRun store (run h r) = there.0 in
    record { chunks = s.chunks; is = s.is; each = good_of store h s.chunks (r ∷ rs) s.is there some }

stored_links : (store : StoreModel) (ls : List Linked) → AllByRecursion HasRuns ls → AllByRecursion (IsStoredRun store) (all_runs ls) → AllByRecursion IsNonEmpty (all_runs ls) → AllByRecursion (IsStoredLink store) ls
stored_links store [] full there some = tt
stored_links store (l ∷ ls) full there some =
    let s = stored_link store l.hash l.url l.runs full.0 (left_of (IsStoredRun store) (link_runs l) (all_runs ls) there) (left_of IsNonEmpty (link_runs l) (all_runs ls) some) in (
      record { chunks = s.chunks; is = s.is; each = s.each },
      stored_links store ls full.1 (all_right (IsStoredRun store) (link_runs l) (all_runs ls) there) (all_right IsNonEmpty (link_runs l) (all_runs ls) some),
    )

link_there : (store : StoreModel) (ls : List Linked) (k : ℕ) (l : Linked) → slice_get ls k ≡ Some l → AllByRecursion (IsStoredLink store) ls → IsStoredLink store l
link_there store [] k l e there = absurd cc
link_there store (x ∷ ls) zero l e there = let same : x ≡ l = cc in subst (IsStoredLink store) same there.0
link_there store (x ∷ ls) (suc k) l e there = link_there store ls k l e there.1

abbrev got_of : StoreModel → Linked → List Chunks
got_of store l = all_chunks (chunks_or_none (stored store l.hash)) (map descriptor_of l.runs)

-- where the term is of this link, its chunks have its length
abbrev FitsAt : StoreModel → List Linked → HeldTerm → Type 0
FitsAt store ls h = (k : ℕ) (l : Linked) → slice_get ls k ≡ Some l → h.range.link ≡ k → has_length (nth_chunks (got_of store l) h.range.number) h ≡ true

term_fits : (store : StoreModel) (all : Chunks) (a b : ℕ) (t : XorbReconstructionTerm) (start : ℕ) → stored store t.hash ≡ Some all → start ≡ a → a ≤ t.range.start → t.range.start ≤ t.range.end → t.range.end ≤ b → IsSized store t
    → (sum (map length (slice_range (slice_range all a b) (t.range.start - start) (t.range.end - start))) == t.unpacked_length) ≡ true
term_fits store all a b t start list from low rises high sized =
    let part : slice_range (slice_range all a b) (t.range.start - start) (t.range.end - start) ≡ slice_range all t.range.start t.range.end
    = ap (λ (n : ℕ). slice_range (slice_range all a b) (t.range.start - n) (t.range.end - n)) from ∙ part_of_part all a b t.range.start t.range.end low rises high in
    let whole : slice_range all t.range.start t.range.end ≡ chunks_between (stored store t.hash) t.range.start t.range.end = ap (λ (o : Option Chunks). chunks_between o t.range.start t.range.end) (sym list) in
    eq-eqb (sum (map length (slice_range (slice_range all a b) (t.range.start - start) (t.range.end - start)))) t.unpacked_length (ap (λ (cs : Chunks). sum (map length cs)) (part ∙ whole) ∙ sized)

fits_all : (store : StoreModel) (ls : List Linked) (ts : List XorbReconstructionTerm) → AllByRecursion (IsStoredLink store) ls → AllByRecursion (IsSized store) ts
    → AllByRecursion (λ t. (x : LinkRange) → range_of (all_ranges 0 (map fresh_of ls)) t ≡ Some x → FitsAt store ls (held_term t x)) ts
fits_all store ls [] there sized = tt
fits_all store ls (t ∷ ts) there sized = (
  λ x e k l at link.
      let f = found_at 0 ls t x e in
      let place : f.place ≡ k = let j = f.numbered in omega (arith, j, link) in
      let found : some_link f.link ≡ some_link l = sym f.there ∙ ap (slice_get ls) place ∙ at in
      let same : f.link ≡ l = cc in
      let s = link_there store ls k l at there in
      let ranged : slice_get (map descriptor_of l.runs) x.number ≡ Some (descriptor_of f.range) = ap (λ (y : Linked). slice_get (map descriptor_of y.runs) x.number) (sym same) ∙ get_mapped descriptor_of f.link.runs x.number f.range f.at in
      let list : stored store t.hash ≡ Some s.chunks = ap (stored store) (sym f.hash ∙ ap (λ (y : Linked). y.hash) same) ∙ s.is in
      let got : nth_chunks (got_of store l) x.number ≡ slice_range s.chunks f.range.chunk_range.start f.range.chunk_range.end
      = ap (λ (o : Option Chunks). nth_chunks (all_chunks (chunks_or_none o) (map descriptor_of l.runs)) x.number) s.is ∙ nth_is s.chunks (map descriptor_of l.runs) x.number (descriptor_of f.range) ranged in
      ap (λ (cs : Chunks). sum (map length (slice_range cs (t.range.start - x.chunks.start) (t.range.end - x.chunks.start))) == t.unpacked_length) got
      ∙ term_fits store s.chunks f.range.chunk_range.start f.range.chunk_range.end t x.chunks.start list f.from f.low f.rises f.high sized.0,
  fits_all store ls ts there sized.1,
)

filtered : (store : StoreModel) (ls : List Linked) (k : ℕ) (l : Linked) (hs : List HeldTerm) → slice_get ls k ≡ Some l → AllByRecursion (FitsAt store ls) hs → have_lengths (got_of store l) (filter (is_of_link k) hs) ≡ true
filtered store ls k l [] at h = refl
filtered store ls k l (x ∷ hs) at h = of (is_of_link k x) refl (filtered store ls k l hs at h.1)
  where
    of : (b : Bool) → is_of_link k x ≡ b → have_lengths (got_of store l) (filter (is_of_link k) hs) ≡ true → have_lengths (got_of store l) (cond b (x ∷ filter (is_of_link k) hs) (filter (is_of_link k) hs)) ≡ true
    of true e rest = rw (h.0 k l at (eqb-true x.range.link k e), rest) refl
    of false e rest = rest

-- ---- the read

all_good : (m : Content) (store : StoreModel) (n : ℕ) (ls : List Linked) (hs : List HeldTerm) → AgreesWith m store → IsSound store → AllByRecursion (IsStoredLink store) ls → AllByRecursion IsOrderly (with_terms n (map fresh_of ls) hs)
    → ((k : ℕ) (l : Linked) → slice_get ls k ≡ Some l → have_lengths (got_of store l) (filter (is_of_link (n + k)) hs) ≡ true) → AllByRecursion (GoodLink m) (with_terms n (map fresh_of ls) hs)
all_good m store n [] hs agree sound there order fits = tt
all_good m store n (l ∷ ls) hs agree sound there order fits =
    let s : IsStoredLink store l = there.0 in
    let here : have_lengths (got_of store l) (filter (is_of_link n) hs) ≡ true = subst (λ (i : ℕ). have_lengths (got_of store l) (filter (is_of_link i) hs) ≡ true) (let z : n + 0 ≡ n = omega arith in z) (fits 0 l refl) in (
      record {
        all = s.chunks;
        is = agree l.hash s.chunks s.is;
        formed = (sound.xorbs l.hash s.chunks s.is).0;
        each = s.each;
        rises = order.0.rises;
        fit = ap (λ (o : Option Chunks). have_lengths (all_chunks (chunks_or_none o) (map descriptor_of l.runs)) (filter (is_of_link n) hs)) (sym s.is) ∙ here;
        brought = inl refl;
      },
      all_good m store (suc n) ls hs agree sound there.1 order.1 (λ k q e. subst (λ (i : ℕ). have_lengths (got_of store q) (filter (is_of_link i) hs) ≡ true) (let z : n + suc k ≡ suc n + k = omega arith in z) (fits (suc k) q e)),
    )

-- where the terms of a plan have their chunks' lengths, the read that it opens is good, and it is to give the file's bytes
pub planned_good : (version : PlanVersion) (max at : ℕ) (store : StoreModel) {segments : List Segment} {range : Option (Range ℕ _F)} {clip : Interval} {plan : PlanModel} (m : Content) → AgreesWith m store → IsSound store → Serves (known_of store) segments range clip plan → AllByRecursion (IsSized store) plan.terms
    → 0 < length (answered_links version max at plan) → GoodRead m (file_bytes (content_of store) clip segments) (reading_of (answer_of version max at plan) range)
planned_good version max at store {segments = segments} {range = range} {clip = clip} {plan = plan} m agree sound s sized some =
    let p : IsPlan (known_of store) segments clip plan = s.planned in
    let ls = links_in version max at plan in
    let second = answer_of version max at plan in
    let can = opens version max at p in
    let fresh : fresh_links second.xorbs ≡ map fresh_of ls = plan_fresh version max at plan in
    let of_terms : second.terms ≡ plan.terms = same_terms version max at plan in
    let there = stored_links store ls (links_some version max at plan) (subst (AllByRecursion (IsStoredRun store)) (sym (runs_same version max at plan)) (plan_runs store p)) (subst (AllByRecursion IsNonEmpty) (sym (runs_same version max at plan)) (runs_nonempty plan.merged p.merged.runs)) in
    let terms : plan_terms second ≡ held_terms (ranges ls) plan.terms = ap (λ (ks : List ReadLink). held_terms (all_ranges 0 ks) second.terms) fresh ∙ ap (held_terms (ranges ls)) of_terms in
    let hs = held_terms (ranges ls) plan.terms in
    let links : (reading_of second range).links ≡ with_terms 0 (map fresh_of ls) hs = ap (λ (ks : List ReadLink). with_terms 0 ks (plan_terms second)) fresh ∙ ap (with_terms 0 (map fresh_of ls)) terms in
    let order : AllByRecursion IsOrderly (with_terms 0 (map fresh_of ls) hs) = subst (AllByRecursion IsOrderly) links (orderly version max at store p sound range) in
    let fits = all_held_by ls (FitsAt store ls) plan.terms (fits_all store ls plan.terms there sized) in
    let many : 0 < length ls = subst (λ n. 0 < n) (ap (λ (ks : List LinkModel). length ks) (links_same version max at plan) ∙ length-map ls link_of) some in
    let opened = both (all_apart (fresh_links second.xorbs)) (nat_le second.offset_into_first_range (total_of second.terms) && all_held (plan_ranges second) second.terms) can in
    let held : all_held (plan_ranges second) second.terms ≡ true = (both (nat_le second.offset_into_first_range (total_of second.terms)) (all_held (plan_ranges second) second.terms) opened.1).1 in
    let found : all_held (ranges ls) plan.terms ≡ true = ap (all_held (ranges ls)) (sym of_terms) ∙ ap (λ (ks : List ReadLink). all_held (all_ranges 0 ks) second.terms) (sym fresh) ∙ held in
    record {
      left = subst (λ (ks : List ReadLink). 0 < count_left ks) (sym links) (let c = all_left 0 ls hs in omega (arith, c, many));
      links = subst (AllByRecursion (GoodLink m)) (sym links) (all_good m store 0 ls hs agree sound there order (λ k l e. subst (λ (i : ℕ). have_lengths (got_of store l) (filter (is_of_link i) hs) ≡ true) (let z : k ≡ 0 + k = omega arith in z) (filtered store ls k l hs e fits)));
      held = subst (λ (ks : List ReadLink). AllByRecursion (IsHeldIn ks) (plan_terms second)) (sym links) (subst (AllByRecursion (IsHeldIn (with_terms 0 (map fresh_of ls) hs))) (sym terms) (all_held_by ls (IsHeldIn (with_terms 0 (map fresh_of ls) hs)) plan.terms (held_in ls hs plan.terms)));
      bytes = ap (λ (k : ℕ). cut_to (length_asked range) (drop k (flat_map (term_bytes m) (map term_of (plan_terms second))))) (same_offset version max at plan)
          ∙ ap (λ (ts : List XorbReconstructionTerm). cut_to (length_asked range) (drop plan.offset_into_first_range (flat_map (term_bytes m) ts))) (ap (λ (xs : List HeldTerm). map term_of xs) terms ∙ terms_back ls plan.terms found)
          ∙ s.bytes m (describes_map m store agree) ∙ same_bytes m store clip segments agree p.readable;
    }
