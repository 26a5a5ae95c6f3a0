-- A plan that a store answers gives a read.
use Rattle.std.proofs.Common.{◌≡◌, ◌∙◌, ℕ, zero, suc, ◌+◌, ◌-◌, ◌^◌, ◌<◌, ◌≤◌, true, false, Bool, cond, length, sum, take, Some, List, [], ◌∷◌, ◌++◌, map, filter, max, min, Option, refl, sym, ap, subst, arith, inl, inr}
use Rattle.std.specs.Prelude.{nat_le}
use Rattle.std.specs.List.{AllByRecursion, flat_map, sum_by}
use Rattle.std.proofs.lemmas.Bool.{le-leb, ltb-true}
use Rattle.std.specs.Option.{option_map}
use Rattle.std.proofs.lemmas.List.{length-map}
use Rattle.std.proofs.lemmas.List.Sums.{sum_by-cons}
use Rattle.xet_types.specs.Ranges.{last_place}
use Rattle.xet_types.specs.declared.record.XorbRangeDescriptor.{XorbRangeDescriptor}
use Rattle.xet_types.specs.declared.record.XorbReconstructionTerm.{XorbReconstructionTerm}
use Rattle.xet_plan.specs.declared.runs.MergedRange.{MergedRange}
use Rattle.xet_shard.specs.declared.listing.Segment.{Segment}
use Rattle.xet_plan.specs.Places.{Placed, Interval, Known, met_segments}
use Rattle.xet_plan.specs.MetChunks.{Chunk, is_met, chunks_of, kept, span, term, offset_in, met_chunks, Has}
use Rattle.xet_plan.specs.Cuts.{IsReadable}
use Rattle.xet_plan.specs.Plans.{PlanModel}
use Rattle.xet_plan.specs.Answers.{IsPlan}
use Rattle.xet_types.specs.declared.range.Range.{Range}
use Rattle.xet_types.specs.declared.range._F.{_F}
use Rattle.xet_xorb.specs.Lengths.{packed_before}
use Rattle.xet_xorb.specs.Values.{Xorb}
use Rattle.xet_xorb.specs.ChunkLists.{lengths_of, object_of, IsWellFormed}
use Rattle.xet_plan.specs.Cuts.{object_lengths}
use Rattle.xet_plan.specs.Merging.{RangeAt, RangesAt}
use Rattle.xet_plan.specs.Answers.{packed_at}
use Rattle.xet_plan.proofs.Lay.{sum-cons}
use Rattle.xet_plan.proofs.Order.{before-same}
use Rattle.xet_bytes.proofs.Maps.{some_is}
use Rattle.xet_store.specs.StoreModel.{StoreModel, Chunks, stored, known_of, content_of, IsSound}
use Rattle.xet_plan.proofs.Kept.{IsSpan}
use Rattle.xet_plan.proofs.PlanOk.{IsMet, all_met, span_of, cuts_have, has_right}
use Rattle.xet_store.specs.Responses.{descriptor_of}
use Rattle.xet_service.specs.declared.step.PlanVersion.{PlanVersion}
use Rattle.xet_service.specs.Links.{answer_of}
use Rattle.xet_service.specs.declared.reader.link.ReadLink.{ReadLink}
use Rattle.xet_service.specs.ReadingPlans.{fresh_links, all_apart, all_ranges, all_held, plan_ranges, plan_terms, with_terms, total_of, can_open, reading_of}
use Rattle.xet_service.specs.declared.reader.held.HeldTerm.{HeldTerm}
use Rattle.xet_service.specs.World.{RisesFrom, IsOrderly}
use Rattle.xet_service.proofs.Described.{IsInMap, met_in_map}
use Rattle.xet_service.proofs.PlanRuns.{Run, run, group_runs, runs_of, Linked, link_runs, all_runs, fresh_of, links_in, plan_fresh, runs_same, same_terms, same_offset, Before, InOrder, all_left, all_right, order_left, order_right}
use Rattle.xet_service.proofs.RunChunks.{RunsHave, IsNonEmpty, groups_runs, runs_groups, runs_nonempty}
use Rattle.xet_service.proofs.Planned.{links_in_order}
use Rattle.xet_service.proofs.Holders.{apart, one_has_all, found}
use Rattle.xet_service.proofs.RunBodies.{rises}

-- ---- the offset

-- the first met chunk reaches past the start
first_reaches : (clip : Interval) (cs : List Chunk) → offset_in clip.start (filter (is_met clip) cs) ≤ sum_by (λ (c : Chunk). c.length) (filter (is_met clip) cs)
first_reaches clip [] = omega arith
first_reaches clip (c ∷ cs) = of (is_met clip c) refl (first_reaches clip cs)
  where
    of : (b : Bool) → is_met clip c ≡ b → offset_in clip.start (filter (is_met clip) cs) ≤ sum_by (λ (d : Chunk). d.length) (filter (is_met clip) cs)
        → offset_in clip.start (cond b (c ∷ filter (is_met clip) cs) (filter (is_met clip) cs)) ≤ sum_by (λ (d : Chunk). d.length) (cond b (c ∷ filter (is_met clip) cs) (filter (is_met clip) cs))
    of true e more =
        let met : max clip.start c.at < min clip.end (c.at + c.length) = ltb-true (max clip.start c.at) (min clip.end (c.at + c.length)) e in
        let sums = sum_by-cons (λ (d : Chunk). d.length) c (filter (is_met clip) cs) in
        omega (arith, met, sums)
    of false e more = more

offset_fits : (known : Known) (clip : Interval) (ps : List Placed) → offset_in clip.start (flat_map (kept known clip) ps) ≤ total_of (map (λ (p : Placed). term p.segment.xorb_hash (kept known clip p)) ps)
offset_fits known clip [] = omega arith
offset_fits known clip (p ∷ ps) = of (kept known clip p) (first_reaches clip (chunks_of known p)) (offset_fits known clip ps)
  where
    rest : List XorbReconstructionTerm
    rest = map (λ (q : Placed). term q.segment.xorb_hash (kept known clip q)) ps

    of : (cs : List Chunk) → offset_in clip.start cs ≤ sum_by (λ (c : Chunk). c.length) cs → offset_in clip.start (flat_map (kept known clip) ps) ≤ total_of rest → offset_in clip.start (cs ++ flat_map (kept known clip) ps) ≤ total_of (term p.segment.xorb_hash cs ∷ rest)
    of [] here more = let sums = sum_by-cons (λ (t : XorbReconstructionTerm). t.unpacked_length) (term p.segment.xorb_hash []) rest in omega (arith, more, sums)
    of (c ∷ cs) here more = let sums = sum_by-cons (λ (t : XorbReconstructionTerm). t.unpacked_length) (term p.segment.xorb_hash (c ∷ cs)) rest in omega (arith, here, sums)

-- ---- the terms

span_rises : (known : Known) (clip : Interval) (p : Placed) → IsSpan p.segment.xorb_hash (kept known clip p) → (span (kept known clip p)).start < (span (kept known clip p)).end
span_rises known clip p s = rw s.is (omega arith)

all_found : (known : Known) (clip : Interval) (ls : List Linked) (ps : List Placed) → InOrder (all_runs ls) → AllByRecursion (IsReadable known) ps → AllByRecursion (IsMet clip) ps → ((h : List ℕ) (k : ℕ) → Has (flat_map (kept known clip) ps) h k → RunsHave (all_runs ls) h k)
    → all_held (all_ranges 0 (map fresh_of ls)) (map (λ (p : Placed). term p.segment.xorb_hash (kept known clip p)) ps) ≡ true
all_found known clip ls [] o r m all = refl
all_found known clip ls (p ∷ ps) o r m all =
    let start = (span (kept known clip p)).start in
    let end = (span (kept known clip p)).end in
    let rises : start < end = span_rises known clip p (span_of known clip p r.0 m.0) in
    let t : XorbReconstructionTerm = term p.segment.xorb_hash (kept known clip p) in
    let here = found 0 ls t (omega (arith, rises)) (one_has_all (all_runs ls) p.segment.xorb_hash start end o rises (λ k low high. all p.segment.xorb_hash k (cuts_have known clip (p ∷ ps) r m p.segment.xorb_hash k (inl (refl, low, high))))) in
    rw (here, all_found known clip ls ps o r.1 m.1 (λ h k q. all h k (has_right (kept known clip p) (flat_map (kept known clip) ps) h k q))) refl

-- ---- the read

pub opens : (version : PlanVersion) (max at : ℕ) {known : Known} {segments : List Segment} {clip : Interval} {plan : PlanModel} → IsPlan known segments clip plan → can_open (answer_of version max at plan) ≡ true
opens version max at {known = known} {segments = segments} {clip = clip} {plan = plan} p =
    let second = answer_of version max at plan in
    let ls = links_in version max at plan in
    let same = runs_same version max at plan in
    let fresh : fresh_links second.xorbs ≡ map fresh_of ls = plan_fresh version max at plan in
    let terms : second.terms ≡ plan.terms = same_terms version max at plan in
    let offset : second.offset_into_first_range ≡ plan.offset_into_first_range = same_offset version max at plan in
    let one : all_apart (fresh_links second.xorbs) ≡ true
    = ap all_apart fresh ∙ apart ls (links_in_order p version max at) (subst (AllByRecursion IsNonEmpty) (sym same) (runs_nonempty plan.merged p.merged.runs)) in
    let fits : offset_in clip.start (met_chunks known clip segments) ≤ total_of plan.terms = subst (λ (ts : List XorbReconstructionTerm). offset_in clip.start (met_chunks known clip segments) ≤ total_of ts) (sym p.terms) (offset_fits known clip (met_segments clip segments)) in
    let two : nat_le second.offset_into_first_range (total_of second.terms) ≡ true
    = ap (λ (n : ℕ). nat_le n (total_of second.terms)) offset ∙ ap (λ (ts : List XorbReconstructionTerm). nat_le plan.offset_into_first_range (total_of ts)) terms
    ∙ le-leb plan.offset_into_first_range (total_of plan.terms) (subst (λ n. n ≤ total_of plan.terms) (sym p.offset) fits) in
    let three : all_held (plan_ranges second) second.terms ≡ true
    = ap (λ (ls : List ReadLink). all_held (all_ranges 0 ls) second.terms) fresh
    ∙ ap (all_held (all_ranges 0 (map fresh_of ls))) (terms ∙ p.terms)
    ∙ all_found known clip ls (met_segments clip segments) (links_in_order p version max at) p.readable (all_met clip 0 segments) (λ h k q. subst (λ (rs : List Run). RunsHave rs h k) (sym same) (groups_runs plan.merged h k ((p.merged.covers h k).1 q))) in
    rw (one, two, three) refl

-- ---- the ranges

all_append : {X : Type 0} (P : X → Type 0) (xs ys : List X) → AllByRecursion P xs → AllByRecursion P ys → AllByRecursion P (xs ++ ys)
all_append P [] ys a b = b
all_append P (x ∷ xs) ys a b = (a.0, all_append P xs ys a.1 b)

-- a run's bytes lie where f says
abbrev IsAt : (List ℕ → ℕ → ℕ) → Run → Type 0
IsAt f r = RangeAt f r.hash r.range

group_at : (f : List ℕ → ℕ → ℕ) (h : List ℕ) (rs : List MergedRange) → AllByRecursion (RangeAt f h) rs → AllByRecursion (IsAt f) (map (run h) rs)
group_at f h [] a = tt
group_at f h (r ∷ rs) a = (a.0, group_at f h rs a.1)

pub groups_at : (f : List ℕ → ℕ → ℕ) (gs : List (List ℕ × List MergedRange)) → AllByRecursion (RangesAt f) gs → AllByRecursion (IsAt f) (flat_map group_runs gs)
groups_at f [] a = tt
groups_at f (g ∷ gs) a = all_append (IsAt f) (group_runs g) (flat_map group_runs gs) (group_at f g.0 g.1 a.0) (groups_at f gs a.1)

sum_take : (k : ℕ) (ns : List ℕ) → sum (take k ns) ≤ sum ns
sum_take zero ns = omega arith
sum_take (suc k) [] = omega arith
sum_take (suc k) (n ∷ ns) =
    let rest = sum_take k ns in
    let a : sum (n ∷ take k ns) ≡ n + sum (take k ns) = sum-cons n (take k ns) in
    let b : sum (n ∷ ns) ≡ n + sum ns = sum-cons n ns in
    omega (arith, rest, a, b)

-- the bytes of a well-formed list's chunks end within its length
pub packed_short : (cs : Chunks) (k : ℕ) → IsWellFormed cs → k ≤ length cs → packed_before (lengths_of cs) k < 2 ^ 32
packed_short cs k formed l =
    let most = sum_take k (lengths_of cs) in
    let many : length (lengths_of cs) ≡ length cs = length-map cs length in
    omega (arith, most, many, l, formed.lengths.short)

-- a run of chunks that the store has
pub record IsStoredRun (store : StoreModel) (r : Run) : Type 0 where
  pub chunks : Chunks
  pub is : stored store r.hash ≡ Some chunks
  pub inside : r.range.chunk_range.end ≤ length chunks
  pub start : r.range.byte_range.start ≡ packed_before (lengths_of chunks) r.range.chunk_range.start
  pub end : r.range.byte_range.end ≡ packed_before (lengths_of chunks) r.range.chunk_range.end

stored_run : (store : StoreModel) (r : Run) → IsAt (packed_at (known_of store)) r → IsNonEmpty r → IsInMap (content_of store) r.hash (r.range.chunk_range.end - 1) → IsStoredRun store r
stored_run store r at some h =
    let known : known_of store r.hash ≡ Some (object_of h.chunks) = ap (option_map object_of) h.is in
    record {
      chunks = h.chunks;
      is = h.is;
      inside = omega (arith, h.within, some);
      start = at.0 ∙ ap (λ (o : Option Xorb). packed_before (object_lengths o) r.range.chunk_range.start) known;
      end = at.1 ∙ ap (λ (o : Option Xorb). packed_before (object_lengths o) r.range.chunk_range.end) known;
    }

pub stored_runs : (store : StoreModel) (rs : List Run) → AllByRecursion (IsAt (packed_at (known_of store))) rs → AllByRecursion IsNonEmpty rs → ((h : List ℕ) (k : ℕ) → RunsHave rs h k → IsInMap (content_of store) h k) → AllByRecursion (IsStoredRun store) rs
stored_runs store [] at some all = tt
stored_runs store (r ∷ rs) at some all =
    (stored_run store r at.0 some.0 (all r.hash (r.range.chunk_range.end - 1) (inl (refl, omega (arith, some.0), omega (arith, some.0)))), stored_runs store rs at.1 some.1 (λ h k p. all h k (inr p)))

-- the runs of a plan are of chunks that the store has
pub plan_runs : (store : StoreModel) {segments : List Segment} {clip : Interval} {plan : PlanModel} → IsPlan (known_of store) segments clip plan → AllByRecursion (IsStoredRun store) (runs_of plan)
plan_runs store {segments = segments} {clip = clip} {plan = plan} p =
    stored_runs store (runs_of plan) (groups_at (packed_at (known_of store)) plan.merged p.bytes) (runs_nonempty plan.merged p.merged.runs)
    (λ h k q. met_in_map (content_of store) store clip segments (λ hash chunks is. is) p.readable h k ((p.merged.covers h k).0 (runs_groups plan.merged h k q)))

-- where a run of the store's lies behind another of its xorb, so do its bytes
bytes_rise : (store : StoreModel) (h : List ℕ) (r s : MergedRange) → IsStoredRun store (run h r) → IsStoredRun store (run h s) → IsNonEmpty (run h r) → IsNonEmpty (run h s) → Before (run h r) (run h s) → r.byte_range.start ≤ s.byte_range.start
bytes_rise store h r s a b some other (inl q) = absurd (before-same h h q refl)
bytes_rise store h r s a b some other (inr q) =
    let list : a.chunks ≡ b.chunks = some_is a.chunks b.chunks (sym a.is ∙ b.is) in
    let up = rises b.chunks r.chunk_range.start s.chunk_range.start (omega (arith, some, q.1)) (omega (arith, other, b.inside)) in
    let first : r.byte_range.start ≡ packed_before (lengths_of b.chunks) r.chunk_range.start = a.start ∙ ap (λ (cs : Chunks). packed_before (lengths_of cs) r.chunk_range.start) list in
    omega (arith, up, first, b.start)

all_rise : (store : StoreModel) (h : List ℕ) (r : MergedRange) (rs : List MergedRange) → IsStoredRun store (run h r) → AllByRecursion (IsStoredRun store) (map (run h) rs) → IsNonEmpty (run h r) → AllByRecursion IsNonEmpty (map (run h) rs) → AllByRecursion (Before (run h r)) (map (run h) rs)
    → AllByRecursion (λ (s : Run). r.byte_range.start ≤ s.range.byte_range.start) (map (run h) rs)
all_rise store h r [] a b some others o = tt
all_rise store h r (s ∷ rs) a b some others o = (bytes_rise store h r s a b.0 some others.0 o.0, all_rise store h r rs a b.1 some others.1 o.1)

link_rises : (store : StoreModel) (h : List ℕ) (from : ℕ) (rs : List MergedRange) → AllByRecursion (IsStoredRun store) (map (run h) rs) → InOrder (map (run h) rs) → AllByRecursion IsNonEmpty (map (run h) rs) → AllByRecursion (λ (s : Run). from ≤ s.range.byte_range.start) (map (run h) rs)
    → RisesFrom from (map descriptor_of rs)
link_rises store h from [] there o some low = tt
link_rises store h from (r ∷ rs) there o some low = (low.0, link_rises store h r.byte_range.start rs there.1 o.1 some.1 (all_rise store h r rs there.0 there.1 some.0 some.1 o.0))

link_below : (store : StoreModel) (h : List ℕ) (rs : List MergedRange) → IsSound store → AllByRecursion (IsStoredRun store) (map (run h) rs) → AllByRecursion (λ (d : XorbRangeDescriptor). d.bytes.end < last_place) (map descriptor_of rs)
link_below store h [] sound there = tt
link_below store h (r ∷ rs) sound there =
    let s : IsStoredRun store (run h r) = there.0 in
    let short = packed_short s.chunks r.chunk_range.end (sound.xorbs h s.chunks s.is).0 s.inside in
    (omega (arith, short, s.end), link_below store h rs sound there.1)

from_none : (rs : List Run) → AllByRecursion (λ (s : Run). 0 ≤ s.range.byte_range.start) rs
from_none [] = tt
from_none (r ∷ rs) = (omega arith, from_none rs)

-- the bytes of the ranges of a link of stored runs rise
pub stored_rises : (store : StoreModel) (l : Linked) → AllByRecursion (IsStoredRun store) (link_runs l) → InOrder (link_runs l) → AllByRecursion IsNonEmpty (link_runs l) → RisesFrom 0 (map descriptor_of l.runs)
stored_rises store l there o some = link_rises store l.hash 0 l.runs there o some (from_none (link_runs l))

all_orderly : (store : StoreModel) (n : ℕ) (ls : List Linked) (hs : List HeldTerm) → IsSound store → AllByRecursion (IsStoredRun store) (all_runs ls) → InOrder (all_runs ls) → AllByRecursion IsNonEmpty (all_runs ls) → AllByRecursion IsOrderly (with_terms n (map fresh_of ls) hs)
all_orderly store n [] hs sound there o some = tt
all_orderly store n (l ∷ ls) hs sound there o some =
    let here = all_left (IsStoredRun store) (link_runs l) (all_runs ls) there in (
      record {
        rises = stored_rises store l here (order_left (link_runs l) (all_runs ls) o) (all_left IsNonEmpty (link_runs l) (all_runs ls) some);
        below = link_below store l.hash l.runs sound here;
      },
      all_orderly store (suc n) ls hs sound (all_right (IsStoredRun store) (link_runs l) (all_runs ls) there) (order_right (link_runs l) (all_runs ls) o) (all_right IsNonEmpty (link_runs l) (all_runs ls) some),
    )

-- the ranges of each link of the read are in order
pub orderly : (version : PlanVersion) (max at : ℕ) (store : StoreModel) {segments : List Segment} {clip : Interval} {plan : PlanModel} → IsPlan (known_of store) segments clip plan → IsSound store → (range : Option (Range ℕ _F))
    → AllByRecursion IsOrderly (reading_of (answer_of version max at plan) range).links
orderly version max at store {plan = plan} p sound range =
    let second = answer_of version max at plan in
    let ls = links_in version max at plan in
    let same = runs_same version max at plan in
    subst (λ (ks : List ReadLink). AllByRecursion IsOrderly (with_terms 0 ks (plan_terms second))) (sym (plan_fresh version max at plan))
    (all_orderly store 0 ls (plan_terms second) sound (subst (AllByRecursion (IsStoredRun store)) (sym same) (plan_runs store p)) (links_in_order p version max at) (subst (AllByRecursion IsNonEmpty) (sym same) (runs_nonempty plan.merged p.merged.runs)))
