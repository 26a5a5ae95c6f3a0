-- The terms of a plan have their chunks' lengths.
use Rattle.std.proofs.Common.{◌≡◌, ◌∙◌, ℕ, suc, ◌+◌, ◌-◌, ◌<◌, min, max, List, [], ◌∷◌, length, map, take, drop, sum, filter, slice_range, refl, sym, ap, subst, arith}
use Rattle.std.specs.List.{AllByRecursion, sum_by}
use Rattle.std.proofs.lemmas.List.{take-map, drop-map, length-map}
use Rattle.std.proofs.lemmas.Bool.{ltb-true}
use Rattle.std.proofs.lemmas.List.Sums.{sum_by-cons}
use Rattle.xet_shard.specs.declared.listing.Segment.{Segment}
use Rattle.xet_plan.specs.Places.{Interval, Placed, met_segments, lengths_in}
use Rattle.xet_plan.specs.MetChunks.{Chunk, lay, is_met, kept, span, term, lengths_at}
use Rattle.xet_plan.specs.Cuts.{IsReadable}
use Rattle.xet_plan.specs.FileBytes.{chunks_between}
use Rattle.xet_plan.specs.Plans.{PlanModel}
use Rattle.xet_plan.specs.Answers.{IsPlan}
use Rattle.xet_plan.proofs.Cuts.{Agreement, agreed}
use Rattle.xet_plan.proofs.Lay.{sum-cons}
use Rattle.xet_plan.proofs.PlanOk.{IsMet, all_met}
use Rattle.xet_plan.proofs.Source.{positive_range}
use Rattle.xet_plan.proofs.Window.{Full, first_kept, IsWindow, window, window_range}
use Rattle.xet_store.specs.StoreModel.{StoreModel, stored, known_of}
use Rattle.xet_service.proofs.Described.{IsStored, is_stored}
use Rattle.xet_service.proofs.Opened.{IsSized}

full_from : (ds : List (List ℕ)) → AllByRecursion (λ n. 0 < n) (map length ds) → Full ds
full_from [] a = tt
full_from (d ∷ ds) a = (a.0, full_from ds a.1)

-- chunks that are laid down have their lengths
lay_sum : (h : List ℕ) (n at : ℕ) (ns : List ℕ) → sum_by (λ (c : Chunk). c.length) (lay h n at ns) ≡ sum ns
lay_sum h n at [] = refl
lay_sum h n at (x ∷ xs) =
    let sums = sum_by-cons (λ (c : Chunk). c.length) (record { hash = h; number = n; at = at; length = x }) (lay h (n + 1) (at + x) xs) in
    let rest = lay_sum h (n + 1) (at + x) xs in
    let s : sum (x ∷ xs) ≡ x + sum xs = sum-cons x xs in
    omega (arith, sums, rest, s)

sized_one : (store : StoreModel) (clip : Interval) (p : Placed) → IsReadable (known_of store) p → IsMet clip p → IsSized store (term p.segment.xorb_hash (kept (known_of store) clip p))
sized_one store clip p r m =
    let known = known_of store in
    let h = p.segment.xorb_hash in
    let i = p.segment.chunk_index_start in
    let j = p.segment.chunk_index_end in
    let a : Agreement p.segment r.xorb = agreed p.segment r.xorb r.agrees in
    let d : IsStored store h r.xorb = is_stored store h r.xorb r.is in
    let ds = slice_range d.chunks i j in
    let ls : lengths_in p.segment r.xorb ≡ map length ds = ap (λ ns. slice_range ns i j) d.lengths ∙ (ap (take (j - i)) (drop-map length i d.chunks) ∙ take-map length (j - i) (drop i d.chunks)) in
    let long : length r.xorb.lengths ≡ length d.chunks = ap length d.lengths ∙ length-map d.chunks length in
    let full : Full ds = full_from ds (subst (AllByRecursion (λ n. 0 < n)) ls (positive_range known p r)) in
    let sums : sum (map length ds) ≡ p.segment.unpacked_segment_bytes = sym (ap sum ls) ∙ a.sums in
    let meet : max clip.start p.at < min clip.end (p.at + p.segment.unpacked_segment_bytes) = ltb-true (max clip.start p.at) (min clip.end (p.at + p.segment.unpacked_segment_bytes)) m in
    let w : IsWindow clip h i p.at ds = window clip h i p.at ds full (omega (arith, meet, sums)) in
    let k : kept known clip p ≡ filter (is_met clip) (lay h i p.at (map length ds)) = ap (λ o. filter (is_met clip) (lay h i p.at (lengths_at p.segment o))) r.is ∙ ap (λ ns. filter (is_met clip) (lay h i p.at ns)) ls in
    let block = take (suc w.count) (drop w.skip ds) in
    let chunks : chunks_between (stored store h) (span (kept known clip p)).start (span (kept known clip p)).end ≡ block
    = ap (λ o. chunks_between o (span (kept known clip p)).start (span (kept known clip p)).end) d.is
    ∙ ap (λ es. slice_range d.chunks (span es).start (span es).end) k
    ∙ window_range clip h p.at d.chunks i j (omega (arith, a.order)) (omega (arith, a.inside, long)) w
    ∙ w.keeps in
    let total : sum_by (λ (c : Chunk). c.length) (kept known clip p) ≡ sum (map length block) = ap (λ cs. sum_by (λ (c : Chunk). c.length) cs) (k ∙ w.lays) ∙ lay_sum h (i + w.skip) (first_kept clip p.at ds) (map length block) in
    ap (λ cs. sum (map length cs)) chunks ∙ sym total

sized_all : (store : StoreModel) (clip : Interval) (ps : List Placed) → AllByRecursion (IsReadable (known_of store)) ps → AllByRecursion (IsMet clip) ps → AllByRecursion (IsSized store) (map (λ (p : Placed). term p.segment.xorb_hash (kept (known_of store) clip p)) ps)
sized_all store clip [] r m = tt
sized_all store clip (p ∷ ps) r m = (sized_one store clip p r.0 m.0, sized_all store clip ps r.1 m.1)

pub sized : (store : StoreModel) {segments : List Segment} {clip : Interval} {plan : PlanModel} → IsPlan (known_of store) segments clip plan → AllByRecursion (IsSized store) plan.terms
sized store {segments = segments} {clip = clip} p = subst (AllByRecursion (IsSized store)) (sym p.terms) (sized_all store clip (met_segments clip segments) p.readable (all_met clip 0 segments))
