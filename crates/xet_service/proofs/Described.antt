-- What a store knows of its xorbs is what a map that agrees with it gives.
use Rattle.std.proofs.Common.{◌≡◌, ◌∙◌, ℕ, ◌+◌, ◌-◌, ◌<◌, ◌≤◌, true, false, Bool, cond, List, [], ◌∷◌, ◌++◌, length, map, filter, slice_range, Option, Some, None, refl, sym, ap, subst, arith, inl, inr}
use Rattle.std.specs.Option.{option_map}
use Rattle.std.specs.List.{AllByRecursion, flat_map, concat}
use Rattle.std.proofs.lemmas.List.{length-map}
use Rattle.xet_xorb.specs.Values.{Xorb}
use Rattle.xet_xorb.specs.ChunkLists.{object_of}
use Rattle.xet_shard.specs.declared.listing.Segment.{Segment}
use Rattle.xet_plan.specs.Places.{Interval, Placed, met_segments, lengths_in}
use Rattle.xet_plan.specs.MetChunks.{Chunk, lay, is_met, lengths_at, chunks_of, kept, met_chunks, Has}
use Rattle.xet_plan.specs.Cuts.{IsReadable}
use Rattle.xet_plan.specs.FileBytes.{Content, Describes, chunks_between, segment_bytes, laid, first_place, segments_of, file_bytes}
use Rattle.xet_plan.proofs.Cuts.{Agreement, agreed, length-range}
use Rattle.xet_plan.proofs.Kept.{has_lay}
use Rattle.xet_plan.proofs.PlanOk.{has_cases}
use Rattle.xet_store.specs.StoreModel.{StoreModel, Chunks, stored, known_of, content_of}
use Rattle.xet_service.specs.Validity.{AgreesWith}

-- a known xorb is stored
pub record IsStored (store : StoreModel) (h : List ℕ) (x : Xorb) : Type 0 where
  pub chunks : Chunks
  pub is : stored store h ≡ Some chunks
  pub lengths : x.lengths ≡ map length chunks

pub is_stored : (store : StoreModel) (h : List ℕ) (x : Xorb) → known_of store h ≡ Some x → IsStored store h x
is_stored store h x e = of (stored store h) refl e
  where
    of : (o : Option Chunks) → stored store h ≡ o → option_map object_of o ≡ Some x → IsStored store h x
    of None is g = absurd cc
    of (Some chunks) is g = let same : object_of chunks ≡ x = cc in record { chunks = chunks; is = is; lengths = ap (λ (y : Xorb). y.lengths) (sym same) }

pub describes_map : (m : Content) (store : StoreModel) → AgreesWith m store → Describes (known_of store) m
describes_map m store agree h x e = let s : IsStored store h x = is_stored store h x e in (s.chunks, agree h s.chunks s.is, s.lengths)

pub describes_store : (store : StoreModel) → Describes (known_of store) (content_of store)
describes_store store h x e = let s : IsStored store h x = is_stored store h x e in (s.chunks, s.is, s.lengths)

-- ---- the bytes of a file

laid_same : (m : Content) (store : StoreModel) (ps : List Placed) → AgreesWith m store → AllByRecursion (IsReadable (known_of store)) ps → laid m (segments_of ps) ≡ laid (content_of store) (segments_of ps)
laid_same m store [] agree r = refl
laid_same m store (p ∷ ps) agree r =
    let s : IsStored store p.segment.xorb_hash r.0.xorb = is_stored store p.segment.xorb_hash r.0.xorb r.0.is in
    let same : m p.segment.xorb_hash ≡ content_of store p.segment.xorb_hash = agree p.segment.xorb_hash s.chunks s.is ∙ sym s.is in
    let here : segment_bytes m p.segment ≡ segment_bytes (content_of store) p.segment = ap (λ (o : Option Chunks). concat (chunks_between o p.segment.chunk_index_start p.segment.chunk_index_end)) same in
    ap (λ (xs : List ℕ). xs ++ laid m (segments_of ps)) here ∙ ap (λ (xs : List ℕ). segment_bytes (content_of store) p.segment ++ xs) (laid_same m store ps agree r.1)

pub same_bytes : (m : Content) (store : StoreModel) (clip : Interval) (segments : List Segment) → AgreesWith m store → AllByRecursion (IsReadable (known_of store)) (met_segments clip segments)
    → file_bytes m clip segments ≡ file_bytes (content_of store) clip segments
same_bytes m store clip segments agree r =
    ap (λ (b : List ℕ). slice_range b (clip.start - first_place (met_segments clip segments)) (clip.end - first_place (met_segments clip segments))) (laid_same m store (met_segments clip segments) agree r)

-- ---- a met chunk is in the map

filter_has : (q : Chunk → Bool) (cs : List Chunk) (h : List ℕ) (k : ℕ) → Has (filter q cs) h k → Has cs h k
filter_has q [] h k p = p
filter_has q (c ∷ cs) h k p = of (q c) (filter_has q cs h k) p
  where
    of : (b : Bool) → (Has (filter q cs) h k → Has cs h k) → Has (cond b (c ∷ filter q cs) (filter q cs)) h k → Has (c ∷ cs) h k
    of true rest (inl g) = inl g
    of true rest (inr g) = inr (rest g)
    of false rest g = inr (rest g)

-- the map's list of this hash has a chunk of this number
pub record IsInMap (m : Content) (h : List ℕ) (k : ℕ) : Type 0 where
  pub chunks : Chunks
  pub is : m h ≡ Some chunks
  pub within : k < length chunks

placed_in_map : (m : Content) (store : StoreModel) (clip : Interval) (p : Placed) → AgreesWith m store → IsReadable (known_of store) p → (h : List ℕ) (k : ℕ) → Has (kept (known_of store) clip p) h k → IsInMap m h k
placed_in_map m store clip p agree r h k has =
    let s : IsStored store p.segment.xorb_hash r.xorb = is_stored store p.segment.xorb_hash r.xorb r.is in
    let a : Agreement p.segment r.xorb = agreed p.segment r.xorb r.agrees in
    let ns = lengths_in p.segment r.xorb in
    let all : Has (lay p.segment.xorb_hash p.segment.chunk_index_start p.at (lengths_at p.segment (known_of store p.segment.xorb_hash))) h k = filter_has (is_met clip) (chunks_of (known_of store) p) h k has in
    let here : Has (lay p.segment.xorb_hash p.segment.chunk_index_start p.at ns) h k = subst (λ (o : Option Xorb). Has (lay p.segment.xorb_hash p.segment.chunk_index_start p.at (lengths_at p.segment o)) h k) r.is all in
    let t : (p.segment.xorb_hash ≡ h) × (p.segment.chunk_index_start ≤ k) × (k < p.segment.chunk_index_start + length ns) = has_lay p.segment.xorb_hash p.segment.chunk_index_start p.at ns h k here in
    let count : length ns ≡ p.segment.chunk_index_end - p.segment.chunk_index_start = length-range r.xorb.lengths p.segment.chunk_index_start p.segment.chunk_index_end (omega (arith, a.order)) a.inside in
    let many : length r.xorb.lengths ≡ length s.chunks = ap (λ (ns : List ℕ). length ns) s.lengths ∙ length-map s.chunks length in
    record { chunks = s.chunks; is = ap m (sym t.0) ∙ agree p.segment.xorb_hash s.chunks s.is; within = omega (arith, t.2, count, many, a.order, a.inside) }

in_map : (m : Content) (store : StoreModel) (clip : Interval) (ps : List Placed) → AgreesWith m store → AllByRecursion (IsReadable (known_of store)) ps → (h : List ℕ) (k : ℕ) → Has (flat_map (kept (known_of store) clip) ps) h k → IsInMap m h k
in_map m store clip [] agree r h k has = absurd has
in_map m store clip (p ∷ ps) agree r h k has = elim (has_cases (kept (known_of store) clip p) (flat_map (kept (known_of store) clip) ps) h k has) as (λ _. IsInMap m h k) [
  | inl q ↦ placed_in_map m store clip p agree r.0 h k q
  | inr q ↦ in_map m store clip ps agree r.1 h k q
]

pub met_in_map : (m : Content) (store : StoreModel) (clip : Interval) (segments : List Segment) → AgreesWith m store → AllByRecursion (IsReadable (known_of store)) (met_segments clip segments) → (h : List ℕ) (k : ℕ)
    → Has (met_chunks (known_of store) clip segments) h k → IsInMap m h k
met_in_map m store clip segments agree r h k has = in_map m store clip (met_segments clip segments) agree r h k has
