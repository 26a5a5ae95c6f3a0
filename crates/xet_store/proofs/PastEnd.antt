-- An end past a file's end reaches the same bytes by the same terms.
use Rattle.std.proofs.Common.{◌≡◌, ◌∙◌, ℕ, ◌+◌, ◌-◌, ◌≤◌, min, max, nat_lt, cond, Bool, true, false, List, [], ◌∷◌, ◌++◌, length, map, take, drop, sum, filter, slice_range, Option, Some, refl, sym, ap, subst, arith, inl, inr, ◌⊎◌}
use Rattle.std.specs.List.{AllByRecursion, flat_map, concat}
use Rattle.std.proofs.lemmas.List.{take-map, drop-map, length-drop, length-append, take_all}
use Rattle.std.proofs.lemmas.List.Sums.{sum_by-cons}
use Rattle.xet_xorb.specs.Values.{Xorb}
use Rattle.xet_shard.specs.declared.listing.Segment.{Segment}
use Rattle.xet_shard.specs.Values.{size_of}
use Rattle.xet_plan.specs.Places.{Interval, interval, Placed, Known, place, meets, met_from, met_segments, lengths_in}
use Rattle.xet_plan.specs.MetChunks.{Chunk, chunk, lay, is_met, kept, term, terms_of, offset_of, offset_in, lengths_at}
use Rattle.xet_plan.specs.Cuts.{IsReadable}
use Rattle.xet_plan.specs.FileBytes.{Content, chunks_between, segment_bytes, segments_of, laid, first_place, file_bytes, assembled, Describes}
use Rattle.xet_plan.proofs.Cuts.{Agreement, agreed}
use Rattle.xet_plan.proofs.Lay.{sum-cons}
use Rattle.xet_plan.proofs.Bytes.{assembled_ok}

-- two ends past some place ask the same before it
meets-same : (start end far at n : ℕ) → at + n ≤ end → end ≤ far → meets (interval start far) at n ≡ meets (interval start end) at n
meets-same start end far at n p q =
    let e : min far (at + n) ≡ min end (at + n) = omega arith in
    ap (λ k. nat_lt (max start at) k) e

met-same : (start end far at : ℕ) (ss : List Segment) → at + size_of ss ≤ end → end ≤ far → met_from (interval start far) at ss ≡ met_from (interval start end) at ss
met-same start end far at [] p q = refl
met-same start end far at (s ∷ ss) p q =
    let n = s.unpacked_segment_bytes in
    let size : size_of (s ∷ ss) ≡ n + size_of ss = sum_by-cons (λ (x : Segment). x.unpacked_segment_bytes) s ss in
    let test : meets (interval start far) at n ≡ meets (interval start end) at n = meets-same start end far at n (omega arith) q in
    let rest : met_from (interval start far) (at + n) ss ≡ met_from (interval start end) (at + n) ss = met-same start end far (at + n) ss (omega arith) q in
    ap (λ b. cond b (place at s ∷ met_from (interval start far) (at + n) ss) (met_from (interval start far) (at + n) ss)) test
    ∙ ap (λ (ps : List Placed). cond (meets (interval start end) at n) (place at s ∷ ps) ps) rest

lay-same : (start end far : ℕ) (h : List ℕ) (n at : ℕ) (ns : List ℕ) → at + sum ns ≤ end → end ≤ far → filter (is_met (interval start far)) (lay h n at ns) ≡ filter (is_met (interval start end)) (lay h n at ns)
lay-same start end far h n at [] p q = refl
lay-same start end far h n at (x ∷ xs) p q =
    let sums : sum (x ∷ xs) ≡ x + sum xs = sum-cons x xs in
    let c = chunk h n at x in
    let test : is_met (interval start far) c ≡ is_met (interval start end) c = meets-same start end far at x (omega arith) q in
    let rest : filter (is_met (interval start far)) (lay h (n + 1) (at + x) xs) ≡ filter (is_met (interval start end)) (lay h (n + 1) (at + x) xs) = lay-same start end far h (n + 1) (at + x) xs (omega arith) q in
    ap (λ b. cond b (c ∷ filter (is_met (interval start far)) (lay h (n + 1) (at + x) xs)) (filter (is_met (interval start far)) (lay h (n + 1) (at + x) xs))) test
    ∙ ap (λ (cs : List Chunk). cond (is_met (interval start end) c) (c ∷ cs) cs) rest

-- the placed segment ends by b
abbrev EndsBy : ℕ → Placed → Type 0
EndsBy b p = p.at + p.segment.unpacked_segment_bytes ≤ b

ends_by : (clip : Interval) (b at : ℕ) (ss : List Segment) → at + size_of ss ≤ b → AllByRecursion (EndsBy b) (met_from clip at ss)
ends_by clip b at [] p = tt
ends_by clip b at (s ∷ ss) p =
    let n = s.unpacked_segment_bytes in
    let size : size_of (s ∷ ss) ≡ n + size_of ss = sum_by-cons (λ (x : Segment). x.unpacked_segment_bytes) s ss in
    let here : at + n ≤ b = omega arith in
    let rest : AllByRecursion (EndsBy b) (met_from clip (at + n) ss) = ends_by clip b (at + n) ss (omega arith) in
    elim (meets clip at n) as (λ t. AllByRecursion (EndsBy b) (cond t (place at s ∷ met_from clip (at + n) ss) (met_from clip (at + n) ss))) [ true ↦ (here, rest) | false ↦ rest ]

kept-same : (known : Known) (start end far : ℕ) (p : Placed) → IsReadable known p → EndsBy end p → end ≤ far → kept known (interval start far) p ≡ kept known (interval start end) p
kept-same known start end far p r e q =
    let a : Agreement p.segment r.xorb = agreed p.segment r.xorb r.agrees in
    let row : List ℕ → List Chunk = lay p.segment.xorb_hash p.segment.chunk_index_start p.at in
    let f : Interval → Option Xorb → List Chunk = λ clip o. filter (is_met clip) (row (lengths_at p.segment o)) in
    ap (f (interval start far)) r.is
    ∙ lay-same start end far p.segment.xorb_hash p.segment.chunk_index_start p.at (lengths_in p.segment r.xorb) (omega (arith, a.sums)) q
    ∙ sym (ap (f (interval start end)) r.is)

terms-same : (known : Known) (start end far : ℕ) (ps : List Placed) → AllByRecursion (IsReadable known) ps → AllByRecursion (EndsBy end) ps → end ≤ far
    → map (λ p. term p.segment.xorb_hash (kept known (interval start far) p)) ps ≡ map (λ p. term p.segment.xorb_hash (kept known (interval start end) p)) ps
terms-same known start end far [] r e q = refl
terms-same known start end far (p ∷ ps) r e q =
    ap (λ (cs : List Chunk). term p.segment.xorb_hash cs ∷ map (λ p. term p.segment.xorb_hash (kept known (interval start far) p)) ps) (kept-same known start end far p r.0 e.0 q)
    ∙ ap (λ ts. term p.segment.xorb_hash (kept known (interval start end) p) ∷ ts) (terms-same known start end far ps r.1 e.1 q)

chunks-same : (known : Known) (start end far : ℕ) (ps : List Placed) → AllByRecursion (IsReadable known) ps → AllByRecursion (EndsBy end) ps → end ≤ far
    → flat_map (kept known (interval start far)) ps ≡ flat_map (kept known (interval start end)) ps
chunks-same known start end far [] r e q = refl
chunks-same known start end far (p ∷ ps) r e q =
    ap (λ (cs : List Chunk). cs ++ flat_map (kept known (interval start far)) ps) (kept-same known start end far p r.0 e.0 q)
    ∙ ap (λ (cs : List Chunk). kept known (interval start end) p ++ cs) (chunks-same known start end far ps r.1 e.1 q)

-- ---- the segments' own bytes

length-concat : (ds : List (List ℕ)) → length (concat ds) ≡ sum (map length ds)
length-concat [] = refl
length-concat (d ∷ ds) = length-append d (concat ds) ∙ ap (λ k. length d + k) (length-concat ds) ∙ sym (sum-cons (length d) (map length ds))

length-segment : (known : Known) (content : Content) (p : Placed) → Describes known content → IsReadable known p → length (segment_bytes content p.segment) ≡ p.segment.unpacked_segment_bytes
length-segment known content p f r =
    let h = p.segment.xorb_hash in
    let i = p.segment.chunk_index_start in
    let j = p.segment.chunk_index_end in
    let a : Agreement p.segment r.xorb = agreed p.segment r.xorb r.agrees in
    let d : (chunks : List (List ℕ)) × (content h ≡ Some chunks) × (r.xorb.lengths ≡ map length chunks) = f h r.xorb r.is in
    let ls : lengths_in p.segment r.xorb ≡ map length (slice_range d.0 i j) = ap (λ ns. slice_range ns i j) d.2 ∙ (ap (take (j - i)) (drop-map length i d.0) ∙ take-map length (j - i) (drop i d.0)) in
    ap (λ o. length (concat (chunks_between o i j))) d.1 ∙ length-concat (slice_range d.0 i j) ∙ sym (ap sum ls) ∙ a.sums

length-laid : (known : Known) (content : Content) (clip : Interval) (at : ℕ) (ss : List Segment) → Describes known content → AllByRecursion (IsReadable known) (met_from clip at ss) → length (laid content (segments_of (met_from clip at ss))) ≤ size_of ss
length-laid known content clip at [] f r = omega arith
length-laid known content clip at (s ∷ ss) f r =
    let n = s.unpacked_segment_bytes in
    let ps = met_from clip (at + n) ss in
    let size : size_of (s ∷ ss) ≡ n + size_of ss = sum_by-cons (λ (x : Segment). x.unpacked_segment_bytes) s ss in
    let by : (b : Bool) → AllByRecursion (IsReadable known) (cond b (place at s ∷ ps) ps) → length (laid content (segments_of (cond b (place at s ∷ ps) ps))) ≤ size_of (s ∷ ss)
    = λ b. elim b as (λ b. AllByRecursion (IsReadable known) (cond b (place at s ∷ ps) ps) → length (laid content (segments_of (cond b (place at s ∷ ps) ps))) ≤ size_of (s ∷ ss)) [
      | true ↦ λ q.
          (let one : length (segment_bytes content s) ≡ n = length-segment known content (place at s) f q.0 in
          let rest : length (laid content (segments_of ps)) ≤ size_of ss = length-laid known content clip (at + n) ss f q.1 in
          let both : length (segment_bytes content s ++ laid content (segments_of ps)) ≡ length (segment_bytes content s) + length (laid content (segments_of ps)) = length-append (segment_bytes content s) (laid content (segments_of ps)) in
          omega (arith, both))
      | false ↦ λ q. (let rest : length (laid content (segments_of ps)) ≤ size_of ss = length-laid known content clip (at + n) ss f q in omega arith)
    ] in
    by (meets clip at n) r

-- no bytes lie past the end of the last segment
ends-laid : (known : Known) (content : Content) (clip : Interval) (b at : ℕ) (ss : List Segment) → Describes known content → AllByRecursion (IsReadable known) (met_from clip at ss) → at + size_of ss ≤ b → length (laid content (segments_of (met_from clip at ss))) ≤ b - first_place (met_from clip at ss)
ends-laid known content clip b at [] f r p = omega arith
ends-laid known content clip b at (s ∷ ss) f r p =
    let n = s.unpacked_segment_bytes in
    let ps = met_from clip (at + n) ss in
    let size : size_of (s ∷ ss) ≡ n + size_of ss = sum_by-cons (λ (x : Segment). x.unpacked_segment_bytes) s ss in
    let by : (t : Bool) → AllByRecursion (IsReadable known) (cond t (place at s ∷ ps) ps) → length (laid content (segments_of (cond t (place at s ∷ ps) ps))) ≤ b - first_place (cond t (place at s ∷ ps) ps)
    = λ t. elim t as (λ t. AllByRecursion (IsReadable known) (cond t (place at s ∷ ps) ps) → length (laid content (segments_of (cond t (place at s ∷ ps) ps))) ≤ b - first_place (cond t (place at s ∷ ps) ps)) [
      | true ↦ λ q.
          (let one : length (segment_bytes content s) ≡ n = length-segment known content (place at s) f q.0 in
          let rest : length (laid content (segments_of ps)) ≤ size_of ss = length-laid known content clip (at + n) ss f q.1 in
          let both : length (segment_bytes content s ++ laid content (segments_of ps)) ≡ length (segment_bytes content s) + length (laid content (segments_of ps)) = length-append (segment_bytes content s) (laid content (segments_of ps)) in
          omega (arith, both))
      | false ↦ λ q. ends-laid known content clip b (at + n) ss f q (omega arith)
    ] in
    by (meets clip at n) r

range-same : (xs : List ℕ) (a b c : ℕ) → length xs ≤ b → b ≤ c → slice_range xs a c ≡ slice_range xs a b
range-same xs a b c p q =
    take_all (c - a) (drop a xs) (omega (arith, length-drop a xs)) ∙ sym (take_all (b - a) (drop a xs) (omega (arith, length-drop a xs)))

file-same : (known : Known) (content : Content) (start end far : ℕ) (segments : List Segment) → Describes known content → AllByRecursion (IsReadable known) (met_segments (interval start end) segments) → size_of segments ≤ end → end ≤ far
    → file_bytes content (interval start far) segments ≡ file_bytes content (interval start end) segments
file-same known content start end far segments f r p q =
    let cut : ℕ → List Placed → List ℕ = λ e ps. slice_range (laid content (segments_of ps)) (start - first_place ps) (e - first_place ps) in
    let met = met_segments (interval start end) segments in
    let short : length (laid content (segments_of met)) ≤ end - first_place met = ends-laid known content (interval start end) end 0 segments f r (omega arith) in
    ap (cut far) (met-same start end far 0 segments (omega arith) q)
    ∙ range-same (laid content (segments_of met)) (start - first_place met) (end - first_place met) (far - first_place met) short (omega arith)

-- the plan's terms, cut to an end that is the interval's or past the file's
abbrev pub IsEnd : List Segment → ℕ → ℕ → Type 0
IsEnd segments end far = (far ≡ end) ⊎ ((size_of segments ≤ end) × (end ≤ far))

pub assembled_past : (known : Known) (content : Content) (start end far : ℕ) (segments : List Segment) → Describes known content → AllByRecursion (IsReadable known) (met_segments (interval start end) segments) → IsEnd segments end far
    → assembled content (terms_of known (interval start end) segments) (offset_of known (interval start end) segments) (far - start) ≡ file_bytes content (interval start end) segments
assembled_past known content start end far segments f r (inl e) = rw e (assembled_ok known content (interval start end) segments f r)
assembled_past known content start end far segments f r (inr h) =
    let met = met_segments (interval start end) segments in
    let same : met_segments (interval start far) segments ≡ met = met-same start end far 0 segments (omega arith) h.1 in
    let ends : AllByRecursion (EndsBy end) met = ends_by (interval start end) end 0 segments (omega arith) in
    let terms : terms_of known (interval start far) segments ≡ terms_of known (interval start end) segments
    = ap (map (λ p. term p.segment.xorb_hash (kept known (interval start far) p))) same ∙ terms-same known start end far met r ends h.1 in
    let offset : offset_of known (interval start far) segments ≡ offset_of known (interval start end) segments
    = ap (λ cs. offset_in start cs) (ap (flat_map (kept known (interval start far))) same ∙ chunks-same known start end far met r ends h.1) in
    let far_ok : assembled content (terms_of known (interval start far) segments) (offset_of known (interval start far) segments) (far - start) ≡ file_bytes content (interval start far) segments
    = assembled_ok known content (interval start far) segments f (subst (AllByRecursion (IsReadable known)) (sym same) r) in
    sym (ap (λ ts. assembled content ts (offset_of known (interval start far) segments) (far - start)) terms ∙ ap (λ o. assembled content (terms_of known (interval start end) segments) o (far - start)) offset)
    ∙ far_ok
    ∙ file-same known content start end far segments f r h.0 h.1
