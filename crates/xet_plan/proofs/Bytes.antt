-- The joined terms are the bytes of the file.
use Rattle.std.proofs.Common.{◌≡◌, ◌∙◌, ℕ, ◌+◌, ◌-◌, ◌<◌, ◌≤◌, min, max, cond, List, [], ◌∷◌, ◌++◌, length, map, take, drop, sum, filter, slice_range, refl, sym, ap, subst, arith, inl, inr, true, false, Bool, Some, suc}
use Rattle.std.specs.List.{AllByRecursion, flat_map, concat}
use Rattle.std.proofs.lemmas.Bool.{cases_lt, ltb-true, ltb-false}
use Rattle.std.proofs.lemmas.List.{take-map, drop-map, length-map, length-take, length-drop}
use Rattle.std.proofs.Math.Seq.{drop-nil}
use Rattle.xet_shard.specs.declared.listing.Segment.{Segment}
use Rattle.xet_plan.specs.Places.{Interval, Placed, Known, place, meets, met_from, met_segments, lengths_in}
use Rattle.xet_plan.specs.MetChunks.{Chunk, lay, is_met, kept, span, term, terms_of, offset_of, offset_in, lengths_at}
use Rattle.xet_plan.specs.Cuts.{IsReadable, first_at}
use Rattle.xet_plan.specs.FileBytes.{Content, chunks_between, segment_bytes, first_place, file_bytes, term_bytes, assembled, Describes}
use Rattle.xet_plan.proofs.Cuts.{Agreement, agreed}
use Rattle.xet_plan.proofs.Source.{positive_range}
use Rattle.xet_plan.proofs.Window.{Full, keep, first_kept, IsWindow, window, window_range, inside, before}

-- a met segment with its chunks
pub record IsHeld (known : Known) (content : Content) (clip : Interval) (p : Placed) : Type 0 where
  pub chunks : List (List ℕ)
  pub full : Full chunks
  pub sums : sum (map length chunks) ≡ p.segment.unpacked_segment_bytes
  pub bytes : segment_bytes content p.segment ≡ concat chunks
  pub first : first_at (kept known clip p) ≡ first_kept clip p.at chunks
  pub some : (h : List Chunk) → offset_in clip.start (kept known clip p ++ h) ≡ clip.start - first_at (kept known clip p)
  pub term_is : term_bytes content (term p.segment.xorb_hash (kept known clip p)) ≡ concat (keep clip p.at chunks)

full_from : (ds : List (List ℕ)) → AllByRecursion (λ n. 0 < n) (map length ds) → Full ds
full_from [] a = tt
full_from (d ∷ ds) a = (a.0, full_from ds a.1)

first-lay : (h : List ℕ) (n at : ℕ) (ns : List ℕ) → 0 < length ns → first_at (lay h n at ns) ≡ at
first-lay h n at [] l = absurd (omega arith)
first-lay h n at (x ∷ xs) l = refl

offset-lay : (start : ℕ) (h : List ℕ) (n at : ℕ) (ns : List ℕ) (cs : List Chunk) → 0 < length ns → offset_in start (lay h n at ns ++ cs) ≡ start - first_at (lay h n at ns)
offset-lay start h n at [] cs l = absurd (omega arith)
offset-lay start h n at (x ∷ xs) cs l = refl

pub held : (known : Known) (content : Content) (clip : Interval) (p : Placed) → Describes known content → IsReadable known p → max clip.start p.at < min clip.end (p.at + p.segment.unpacked_segment_bytes) → IsHeld known content clip p
held known content clip p f r m =
    let h = p.segment.xorb_hash in
    let i = p.segment.chunk_index_start in
    let j = p.segment.chunk_index_end in
    let a : Agreement p.segment r.xorb = agreed p.segment r.xorb r.agrees in
    let d : (chunks : List (List ℕ)) × (content h ≡ Some chunks) × (r.xorb.lengths ≡ map length chunks) = f h r.xorb r.is in
    let ds = slice_range d.0 i j in
    let ls : lengths_in p.segment r.xorb ≡ map length ds = ap (λ ns. slice_range ns i j) d.2 ∙ (ap (take (j - i)) (drop-map length i d.0) ∙ take-map length (j - i) (drop i d.0)) in
    let long : length r.xorb.lengths ≡ length d.0 = ap length d.2 ∙ length-map d.0 length in
    let full : Full ds = full_from ds (subst (AllByRecursion (λ n. 0 < n)) ls (positive_range known p r)) in
    let sums : sum (map length ds) ≡ p.segment.unpacked_segment_bytes = sym (ap sum ls) ∙ a.sums in
    let w : IsWindow clip h i p.at ds = window clip h i p.at ds full (omega arith) in
    let k : kept known clip p ≡ filter (is_met clip) (lay h i p.at (map length ds)) = ap (λ o. filter (is_met clip) (lay h i p.at (lengths_at p.segment o))) r.is ∙ ap (λ ns. filter (is_met clip) (lay h i p.at ns)) ls in
    let block = map length (take (suc w.count) (drop w.skip ds)) in
    let some : 0 < length block = omega (arith, length-map (take (suc w.count) (drop w.skip ds)) length, length-take (suc w.count) (drop w.skip ds), length-drop w.skip ds, w.fits) in
    let row = lay h (i + w.skip) (first_kept clip p.at ds) block in
    let kr : kept known clip p ≡ row = k ∙ w.lays in
    record {
      chunks = ds;
      full = full;
      sums = sums;
      bytes = ap (λ o. concat (chunks_between o i j)) d.1;
      first = ap first_at kr ∙ first-lay h (i + w.skip) (first_kept clip p.at ds) block some;
      some = λ cs. subst (λ es. offset_in clip.start (es ++ cs) ≡ clip.start - first_at es) (sym kr) (offset-lay clip.start h (i + w.skip) (first_kept clip p.at ds) block cs some);
      term_is = ap (λ o. concat (chunks_between o (span (kept known clip p)).start (span (kept known clip p)).end)) d.1
          ∙ ap (λ es. concat (slice_range d.0 (span es).start (span es).end)) k
          ∙ ap concat (window_range clip h p.at d.0 i j (omega (arith, a.order)) (omega (arith, a.inside)) w);
    }

abbrev pub held_bytes : Content → List Placed → List ℕ
held_bytes content ps = flat_map (λ p. segment_bytes content p.segment) ps

abbrev pub kept_bytes : Known → Content → Interval → List Placed → List ℕ
kept_bytes known content clip ps = flat_map (λ p. term_bytes content (term p.segment.xorb_hash (kept known clip p))) ps

-- the segments from one inside the interval on
pub inside_segments : (known : Known) (content : Content) (clip : Interval) (at : ℕ) (ss : List Segment) → Describes known content → AllByRecursion (IsReadable known) (met_from clip at ss) → clip.start ≤ at → clip.start < clip.end
    → take (clip.end - at) (held_bytes content (met_from clip at ss)) ≡ take (clip.end - at) (kept_bytes known content clip (met_from clip at ss))
inside_segments known content clip at [] f r l o = refl
inside_segments known content clip at (s ∷ ss) f r l o =
    let n = s.unpacked_segment_bytes in
    let ps = met_from clip (at + n) ss in
    let by : (b : Bool) → meets clip at n ≡ b → AllByRecursion (IsReadable known) (cond b (place at s ∷ ps) ps) → take (clip.end - at) (held_bytes content (cond b (place at s ∷ ps) ps)) ≡ take (clip.end - at) (kept_bytes known content clip (cond b (place at s ∷ ps) ps))
    = λ b. elim b as (λ b. meets clip at n ≡ b → AllByRecursion (IsReadable known) (cond b (place at s ∷ ps) ps) → take (clip.end - at) (held_bytes content (cond b (place at s ∷ ps) ps)) ≡ take (clip.end - at) (kept_bytes known content clip (cond b (place at s ∷ ps) ps))) [
      | true ↦ λ e q.
          (let x : IsHeld known content clip (place at s) = held known content clip (place at s) f q.0 (ltb-true (max clip.start at) (min clip.end (at + n)) e) in
          let rest : take (clip.end - (at + n)) (held_bytes content ps) ≡ take (clip.end - (at + n)) (kept_bytes known content clip ps) = inside_segments known content clip (at + n) ss f q.1 (omega arith) o in
          let t : take (clip.end - (at + sum (map length x.chunks))) (held_bytes content ps) ≡ take (clip.end - (at + sum (map length x.chunks))) (kept_bytes known content clip ps) = subst (λ k. take (clip.end - (at + k)) (held_bytes content ps) ≡ take (clip.end - (at + k)) (kept_bytes known content clip ps)) (sym x.sums) rest in
          ap (λ xs. take (clip.end - at) (xs ++ held_bytes content ps)) x.bytes
          ∙ inside clip at x.chunks (held_bytes content ps) (kept_bytes known content clip ps) x.full l o t
          ∙ ap (λ xs. take (clip.end - at) (xs ++ kept_bytes known content clip ps)) (sym x.term_is))
      | false ↦ λ e q.
          (elim (cases_lt at clip.end) as (λ _. take (clip.end - at) (held_bytes content ps) ≡ take (clip.end - at) (kept_bytes known content clip ps)) [
            | inl m ↦
                (let none : min clip.end (at + n) ≤ max clip.start at = ltb-false (max clip.start at) (min clip.end (at + n)) e in
                let same : at + n ≡ at = omega arith in
                subst (λ k. take (clip.end - k) (held_bytes content ps) ≡ take (clip.end - k) (kept_bytes known content clip ps)) same (inside_segments known content clip (at + n) ss f q (omega arith) o))
            | inr m ↦ (let z : clip.end - at ≡ 0 = omega arith in rw z refl)
          ])
    ] in
    by (meets clip at n) refl r

-- all segments, from one before the interval on
pub before_segments : (known : Known) (content : Content) (clip : Interval) (at : ℕ) (ss : List Segment) → Describes known content → AllByRecursion (IsReadable known) (met_from clip at ss) → at ≤ clip.start → clip.start < clip.end
    → take (clip.end - clip.start) (drop (clip.start - first_place (met_from clip at ss)) (held_bytes content (met_from clip at ss)))
    ≡ take (clip.end - clip.start) (drop (offset_in clip.start (flat_map (kept known clip) (met_from clip at ss))) (kept_bytes known content clip (met_from clip at ss)))
before_segments known content clip at [] f r l o = ap (take (clip.end - clip.start)) (drop-nil (clip.start - 0))
before_segments known content clip at (s ∷ ss) f r l o =
    let n = s.unpacked_segment_bytes in
    let ps = met_from clip (at + n) ss in
    let goal : List Placed → Type 0 = λ qs. take (clip.end - clip.start) (drop (clip.start - first_place qs) (held_bytes content qs)) ≡ take (clip.end - clip.start) (drop (offset_in clip.start (flat_map (kept known clip) qs)) (kept_bytes known content clip qs)) in
    let by : (b : Bool) → meets clip at n ≡ b → AllByRecursion (IsReadable known) (cond b (place at s ∷ ps) ps) → goal (cond b (place at s ∷ ps) ps)
    = λ b. elim b as (λ b. meets clip at n ≡ b → AllByRecursion (IsReadable known) (cond b (place at s ∷ ps) ps) → goal (cond b (place at s ∷ ps) ps)) [
      | true ↦ λ e q.
          (let m : max clip.start at < min clip.end (at + n) = ltb-true (max clip.start at) (min clip.end (at + n)) e in
          let x : IsHeld known content clip (place at s) = held known content clip (place at s) f q.0 m in
          let rest : take (clip.end - (at + n)) (held_bytes content ps) ≡ take (clip.end - (at + n)) (kept_bytes known content clip ps) = inside_segments known content clip (at + n) ss f q.1 (omega arith) o in
          let t : take (clip.end - (at + sum (map length x.chunks))) (held_bytes content ps) ≡ take (clip.end - (at + sum (map length x.chunks))) (kept_bytes known content clip ps) = subst (λ k. take (clip.end - (at + k)) (held_bytes content ps) ≡ take (clip.end - (at + k)) (kept_bytes known content clip ps)) (sym x.sums) rest in
          let off : clip.start - first_kept clip at x.chunks ≡ offset_in clip.start (kept known clip (place at s) ++ flat_map (kept known clip) ps) = ap (λ k. clip.start - k) (sym x.first) ∙ sym (x.some (flat_map (kept known clip) ps)) in
          ap (λ xs. take (clip.end - clip.start) (drop (clip.start - at) (xs ++ held_bytes content ps))) x.bytes
          ∙ before clip at x.chunks (held_bytes content ps) (kept_bytes known content clip ps) x.full l (omega (arith, x.sums)) o t
          ∙ ap (λ xs. take (clip.end - clip.start) (drop (clip.start - first_kept clip at x.chunks) (xs ++ kept_bytes known content clip ps))) (sym x.term_is)
          ∙ ap (λ k. take (clip.end - clip.start) (drop k (term_bytes content (term s.xorb_hash (kept known clip (place at s))) ++ kept_bytes known content clip ps))) off)
      | false ↦ λ e q.
          (let none : min clip.end (at + n) ≤ max clip.start at = ltb-false (max clip.start at) (min clip.end (at + n)) e in
          before_segments known content clip (at + n) ss f q (omega arith) o)
    ] in
    by (meets clip at n) refl r

first_le : (clip : Interval) (at : ℕ) (ss : List Segment) → at ≤ clip.start → clip.start < clip.end → first_place (met_from clip at ss) ≤ clip.start
first_le clip at [] l o = omega arith
first_le clip at (s ∷ ss) l o =
    let n = s.unpacked_segment_bytes in
    let ps = met_from clip (at + n) ss in
    let by : (b : Bool) → meets clip at n ≡ b → first_place (cond b (place at s ∷ ps) ps) ≤ clip.start
    = λ b. elim b as (λ b. meets clip at n ≡ b → first_place (cond b (place at s ∷ ps) ps) ≤ clip.start) [
      | true ↦ λ e. l
      | false ↦ λ e. (let none : min clip.end (at + n) ≤ max clip.start at = ltb-false (max clip.start at) (min clip.end (at + n)) e in first_le clip (at + n) ss (omega arith) o)
    ] in
    by (meets clip at n) refl

pub flat_map-map : {X Y Z : Type 0} (f : Y → List Z) (g : X → Y) (xs : List X) → flat_map f (map g xs) ≡ flat_map (λ x. f (g x)) xs
flat_map-map f g [] = refl
flat_map-map f g (x ∷ xs) = ap (λ zs. f (g x) ++ zs) (flat_map-map f g xs)

within_ok : (known : Known) (content : Content) (clip : Interval) (segments : List Segment) → Describes known content → AllByRecursion (IsReadable known) (met_segments clip segments) → clip.start < clip.end
    → assembled content (terms_of known clip segments) (offset_of known clip segments) (clip.end - clip.start) ≡ file_bytes content clip segments
within_ok known content clip segments f r o =
    let ps = met_segments clip segments in
    let p = first_place ps in
    let low : p ≤ clip.start = first_le clip 0 segments (omega arith) o in
    let n : clip.end - p - (clip.start - p) ≡ clip.end - clip.start = omega arith in
    ap (λ xs. take (clip.end - clip.start) (drop (offset_of known clip segments) xs)) (flat_map-map (term_bytes content) (λ (q : Placed). term q.segment.xorb_hash (kept known clip q)) ps)
    ∙ sym (before_segments known content clip 0 segments f r (omega arith) o)
    ∙ ap (λ k. take k (drop (clip.start - p) (held_bytes content ps))) (sym n)
    ∙ ap (λ xs. take (clip.end - p - (clip.start - p)) (drop (clip.start - p) xs)) (sym (flat_map-map (segment_bytes content) (λ (q : Placed). q.segment) ps))

pub assembled_ok : (known : Known) (content : Content) (clip : Interval) (segments : List Segment) → Describes known content → AllByRecursion (IsReadable known) (met_segments clip segments)
    → assembled content (terms_of known clip segments) (offset_of known clip segments) (clip.end - clip.start) ≡ file_bytes content clip segments
assembled_ok known content clip segments f r = elim (cases_lt clip.start clip.end) as (λ _. assembled content (terms_of known clip segments) (offset_of known clip segments) (clip.end - clip.start) ≡ file_bytes content clip segments) [
  | inl o ↦ within_ok known content clip segments f r o
  | inr o ↦
      (let p = first_place (met_segments clip segments) in
      let a : clip.end - clip.start ≡ 0 = omega arith in
      let b : clip.end - p - (clip.start - p) ≡ 0 = omega arith in
      rw (a, b) refl)
]
