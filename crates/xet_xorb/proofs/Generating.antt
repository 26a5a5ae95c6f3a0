-- Generated chunks: their lengths, and lists of them.
use Rattle.std.proofs.Common.{◌≡◌, ℕ, zero, suc, ◌+◌, ◌-◌, ◌*◌, ◌/◌, ◌^◌, ◌<◌, ◌≤◌, append_assoc, get_or, take, drop, slice_range, All, List, [], ◌∷◌, ◌++◌, length, map, replicate, refl, sym, ap, subst, ◌∙◌, arith, length-append}
use Rattle.std.proofs.lemmas.List.{length-take-le, take_rest, drop_at}
use Rattle.std.specs.Global.{Vec}
use Rattle.std.specs.List.{AllByRecursion, flat_map}
use Rattle.std.proofs.lemmas.List.Elements.{All-take, All-drop, All-from_recursion, recursion_from_All}
use Rattle.std.proofs.lemmas.List.Folds.{flat_map-map}
use Rattle.std.specs.Int.{w64, to_le_bytes}
use Rattle.rand_core.specs.Stream.{Stream, fill_bytes, next_u64}
use Rattle.rand_core.specs.Steps.{word_bytes, stream_of}
use Rattle.rand_xoshiro.specs.SplitMix64.{splitmix_seed}
use Rattle.rand_xoshiro.specs.Xoshiro256.{plus_plus, of_seed}
use Rattle.xet_types.specs.Names.{chunk_hash}
use Rattle.xet_xorb.specs.declared.generate.RandomChunkInfo.{RandomChunkInfo}
use Rattle.xet_xorb.specs.declared.random.RandomXorb.TheInside.{Inside}
use Rattle.xet_xorb.specs.Lengths.{IsChunkLength, AreLengths}
use Rattle.xet_xorb.specs.Values.{Xorb}
use Rattle.xet_xorb.specs.ChunkLists.{IsWellFormed, lengths_of, object_of}
use Rattle.xet_xorb.specs.XorbBytes.{chunk_bytes, xorb_text}
use Rattle.xet_xorb.specs.Generated.{generated, generated_chunks, words, seeded_specs, infos_of, chunk_of_info, chunks_of, stream_of_seed, chunk_seeds, seeded_chunks, hash_and_size, hash_and_size_of, packed_of_info, IsRandom}
use Rattle.xet_xorb.proofs.Slices.{slice_range-map}

-- ---- lengths

-- each word has eight bytes
length-word_bytes : {S : Type 0} (step : S → ℕ × S) (k : ℕ) (s : S) → length (word_bytes (to_le_bytes w64) step k s).0 ≡ 8 * k
unfolding word_bytes
length-word_bytes step zero s = refl
length-word_bytes step (suc k) s =
    let before = length-word_bytes step k s in
    rw length-append (omega (arith, before))

-- a chunk has its length
pub length-generated : (seed size : ℕ) → length (generated seed size) ≡ size
unfolding generated fill_bytes stream_of
length-generated seed size =
    let all = length-word_bytes plus_plus ((size + 7) / 8) (of_seed (splitmix_seed 32 seed)) in
    length-take-le _ _ (omega (arith, all))

pub length-words : (n : ℕ) (s : Stream) → length (words n s) ≡ n
unfolding words
length-words zero s = refl
length-words (suc n) s = ap suc (length-words n (next_u64 s).1)

-- what a slice from a place to the end holds
pub cut_behind : (all front chunk : List ℕ) (start : ℕ) → all ≡ front ++ chunk → length front ≡ start → take (length all - start) (drop start all) ≡ chunk
cut_behind all front chunk start is there = take_rest all start ∙ ap (drop start) is ∙ drop_at front chunk start there

-- ---- lists of chunks

pub lengths_of_generated : (ss : List (ℕ × ℕ)) → lengths_of (generated_chunks ss) ≡ map (λ s. s.1) ss
lengths_of_generated [] = refl
lengths_of_generated (s ∷ ss) = ap (λ (n : ℕ). n ∷ lengths_of (generated_chunks ss)) (length-generated s.0 s.1) ∙ ap (λ (ns : List ℕ). s.1 ∷ ns) (lengths_of_generated ss)

pub chunks_of_infos : (ss : List (ℕ × ℕ)) → map chunk_of_info (infos_of ss) ≡ generated_chunks ss
chunks_of_infos [] = refl
chunks_of_infos (s ∷ ss) = ap (λ (cs : List (List ℕ)). generated s.0 s.1 ∷ cs) (chunks_of_infos ss)

pub hashes_of_infos : (ss : List (ℕ × ℕ)) → map (λ (i : RandomChunkInfo). i.hash) (infos_of ss) ≡ map chunk_hash (generated_chunks ss)
hashes_of_infos [] = refl
hashes_of_infos (s ∷ ss) = ap (λ (hs : List (List ℕ)). chunk_hash (generated s.0 s.1) ∷ hs) (hashes_of_infos ss)

pub sizes_of_infos : (ss : List (ℕ × ℕ)) → map (λ (i : RandomChunkInfo). i.size) (infos_of ss) ≡ map (λ s. s.1) ss
sizes_of_infos [] = refl
sizes_of_infos (s ∷ ss) = ap (λ (ns : List ℕ). s.1 ∷ ns) (sizes_of_infos ss)

pub seeded : (size : ℕ) (seeds : List ℕ) → generated_chunks (seeded_specs size seeds) ≡ map (λ s. generated s size) seeds
seeded size [] = refl
seeded size (s ∷ ss) = ap (λ (cs : List (List ℕ)). generated s size ∷ cs) (seeded size ss)

seeded_lengths_of : (size : ℕ) (seeds : List ℕ) → map (λ s. s.1) (seeded_specs size seeds) ≡ replicate (length seeds) size
seeded_lengths_of size [] = refl
seeded_lengths_of size (s ∷ ss) = ap (λ (ns : List ℕ). size ∷ ns) (seeded_lengths_of size ss)

pub seeded_lengths : (size n : ℕ) (s : Stream) → map (λ s. s.1) (seeded_specs size (words n s)) ≡ replicate n size
seeded_lengths size n s = seeded_lengths_of size (words n s) ∙ ap (λ k. replicate k size) (length-words n s)

-- the lengths of the chunks of one seed
pub seeded_sizes : (seed n size : ℕ) → lengths_of (seeded_chunks seed n size) ≡ replicate n size
seeded_sizes seed n size =
    let ss = seeded_specs size (chunk_seeds seed n) in
    let chunks : generated_chunks ss ≡ seeded_chunks seed n size = seeded size (chunk_seeds seed n) in
    ap lengths_of (sym chunks) ∙ lengths_of_generated ss ∙ seeded_lengths size n (stream_of_seed seed)

-- the chunks of one seed are those of a xorb exactly where so many of one length are
pub seeded_formed : (seed n size : ℕ) → (IsWellFormed (seeded_chunks seed n size) → AreLengths (replicate n size)) × (AreLengths (replicate n size) → IsWellFormed (seeded_chunks seed n size))
seeded_formed seed n size =
    let is = seeded_sizes seed n size in
    (λ formed. subst AreLengths is formed.lengths, λ are. record { lengths = subst AreLengths (sym is) are })

-- ---- the seeds of one seed

words-step : (n i : ℕ) (s : Stream) → i < n → words (n - i) s ≡ (next_u64 s).0 ∷ words (n - (i + 1)) (next_u64 s).1
unfolding words
words-step n i s h = let e : n - i ≡ suc (n - (i + 1)) = omega (arith, h) in rw e refl

-- no seed is left
pub words-end : (n i : ℕ) (s : Stream) → n ≤ i → words (n - i) s ≡ []
unfolding words
words-end n i s h = let e : n - i ≡ 0 = omega (arith, h) in rw e refl

-- the seeds that are left begin with the next one
pub words_next : (n i w : ℕ) (s t : Stream) → i < n → (w, t) ≡ next_u64 s → words (n - i) s ≡ w ∷ words (n - (i + 1)) t
words_next n i w s t h e =
    let first : (next_u64 s).0 ≡ w = ap (λ p. p.0) (sym e) in
    let rest : (next_u64 s).1 ≡ t = ap (λ p. p.1) (sym e) in
    words-step n i s h ∙ ap (λ (x : ℕ). x ∷ words (n - (i + 1)) (next_u64 s).1) first ∙ ap (λ (u : Stream). w ∷ words (n - (i + 1)) u) rest

-- the chunks of these seeds, all of one length
abbrev pub generated_of : ℕ → List ℕ → List (List ℕ)
generated_of size seeds = map (λ s. generated s size) seeds

-- the chunks so far, each behind its header, and those that are left, after one more
pub text_on : (size n i w : ℕ) (out all : List ℕ) (s t : Stream) → i < n → (w, t) ≡ next_u64 s → out ++ xorb_text (generated_of size (words (n - i) s)) ≡ all → (out ++ chunk_bytes (generated w size)) ++ xorb_text (generated_of size (words (n - (i + 1)) t)) ≡ all
text_on size n i w out all s t h e was =
    append_assoc out (chunk_bytes (generated w size)) (xorb_text (generated_of size (words (n - (i + 1)) t)))
    ∙ ap (λ (ws : List ℕ). out ++ xorb_text (generated_of size ws)) (sym (words_next n i w s t h e))
    ∙ was

-- the hashes so far and those of the chunks that are left, after one more
pub hashes_on : (size n i w : ℕ) (out all : List (List ℕ)) (s t : Stream) → i < n → (w, t) ≡ next_u64 s → out ++ map chunk_hash (generated_of size (words (n - i) s)) ≡ all → (out ++ chunk_hash (generated w size) ∷ []) ++ map chunk_hash (generated_of size (words (n - (i + 1)) t)) ≡ all
hashes_on size n i w out all s t h e was =
    append_assoc out (chunk_hash (generated w size) ∷ []) (map chunk_hash (generated_of size (words (n - (i + 1)) t)))
    ∙ ap (λ (ws : List ℕ). out ++ map chunk_hash (generated_of size ws)) (sym (words_next n i w s t h e))
    ∙ was

-- the seeds so far and those that are left, after one more
pub words_on : (size n i w : ℕ) (out all : List (ℕ × ℕ)) (s t : Stream) → i < n → (w, t) ≡ next_u64 s → out ++ seeded_specs size (words (n - i) s) ≡ all → (out ++ (w, size) ∷ []) ++ seeded_specs size (words (n - (i + 1)) t) ≡ all
words_on size n i w out all s t h e was =
    append_assoc out ((w, size) ∷ []) (seeded_specs size (words (n - (i + 1)) t)) ∙ ap (λ (ws : List ℕ). out ++ seeded_specs size ws) (sym (words_next n i w s t h e)) ∙ was

-- ---- what is at hand of a xorb's chunks

sizes_of_chunks : (infos : List RandomChunkInfo) → map (λ (i : RandomChunkInfo). i.size) infos ≡ lengths_of (map chunk_of_info infos)
sizes_of_chunks [] = refl
sizes_of_chunks (i ∷ is) = ap (λ (n : ℕ). n ∷ map (λ (i : RandomChunkInfo). i.size) is) (sym (length-generated i.seed i.size)) ∙ ap (λ (ns : List ℕ). length (chunk_of_info i) ∷ ns) (sizes_of_chunks is)

pub record AreAtHand (x : Inside) (cs : List (List ℕ)) : Type 0 where
  pub formed : IsWellFormed cs
  pub chunks : map chunk_of_info x.chunks.items ≡ cs
  pub hashes : map (λ (i : RandomChunkInfo). i.hash) x.chunks.items ≡ map chunk_hash cs
  pub sizes : map (λ (i : RandomChunkInfo). i.size) x.chunks.items ≡ lengths_of cs
  pub object : x.object ≡ object_of cs

pub at_hand : (x : Inside) (cs : List (List ℕ)) → IsRandom x → chunks_of x ≡ cs → AreAtHand x cs
at_hand x cs h is = record {
  formed = subst IsWellFormed is h.formed;
  chunks = is;
  hashes = h.hashes ∙ ap (map chunk_hash) is;
  sizes = sizes_of_chunks x.chunks.items ∙ ap lengths_of is;
  object = h.object ∙ ap object_of is;
}

-- the hashes and lengths in pairs
pub pairs_of : (infos : List RandomChunkInfo) (cs : List (List ℕ)) → map (λ (i : RandomChunkInfo). i.hash) infos ≡ map chunk_hash cs → map (λ (i : RandomChunkInfo). i.size) infos ≡ lengths_of cs → map hash_and_size_of infos ≡ map hash_and_size cs
pairs_of [] [] hs ss = refl
pairs_of [] (c ∷ cs) hs ss = absurd (omega (arith, ap length ss))
pairs_of (i ∷ is) [] hs ss = absurd (omega (arith, ap length ss))
pairs_of (i ∷ is) (c ∷ cs) hs ss =
    let hash : i.hash ≡ chunk_hash c = ap (λ (l : List (List ℕ)). get_or l 0 []) hs in
    let size : i.size ≡ length c = ap (λ (l : List ℕ). get_or l 0 0) ss in
    let rest = pairs_of is cs (ap (λ (l : List (List ℕ)). drop 1 l) hs) (ap (λ (l : List ℕ). drop 1 l) ss) in
    ap (λ (h : List ℕ). (h, i.size) ∷ map hash_and_size_of is) hash ∙ ap (λ (n : ℕ). (chunk_hash c, n) ∷ map hash_and_size_of is) size ∙ ap (λ (ps : List (List ℕ × ℕ)). hash_and_size c ∷ ps) rest

-- what is known of chunks that were generated is at hand
pub is_random : (ss : List (ℕ × ℕ)) (chunks : Vec RandomChunkInfo) (object : Xorb) → AreLengths (map (λ s. s.1) ss) → chunks.items ≡ infos_of ss → object.hashes ≡ map (λ (i : RandomChunkInfo). i.hash) chunks.items → object.lengths ≡ map (λ (i : RandomChunkInfo). i.size) chunks.items → IsRandom (record { chunks = chunks; object = object })
is_random ss chunks object are is hashes lengths =
    let cs : map chunk_of_info chunks.items ≡ generated_chunks ss = ap (map chunk_of_info) is ∙ chunks_of_infos ss in
    let hs : map (λ (i : RandomChunkInfo). i.hash) chunks.items ≡ map chunk_hash (map chunk_of_info chunks.items) = ap (map (λ (i : RandomChunkInfo). i.hash)) is ∙ hashes_of_infos ss ∙ ap (map chunk_hash) (sym cs) in
    let ns = sizes_of_chunks chunks.items in
    let sizes : map (λ s. s.1) ss ≡ lengths_of (map chunk_of_info chunks.items) = sym (lengths_of_generated ss) ∙ ap lengths_of (sym cs) in
    record {
      formed = record { lengths = subst AreLengths sizes are };
      hashes = hs;
      object = ap (λ (x : List (List ℕ)). record { hashes = x; lengths = object.lengths }) (hashes ∙ hs) ∙ ap (λ (x : List ℕ). record { hashes = map chunk_hash (map chunk_of_info chunks.items); lengths = x }) (lengths ∙ ns);
    }

-- ---- chunks behind their headers

small_sizes : (infos : List RandomChunkInfo) → AllByRecursion IsChunkLength (lengths_of (map chunk_of_info infos)) → AllByRecursion (λ i. i.size < 2 ^ 24) infos
small_sizes [] h = tt
small_sizes (i ∷ is) h = (omega (arith, h.0.1, length-generated i.seed i.size), small_sizes is h.1)

pub small_part : (infos : List RandomChunkInfo) (a b : ℕ) → All IsChunkLength (lengths_of (map chunk_of_info infos)) → All (λ i. i.size < 2 ^ 24) (slice_range infos a b)
small_part infos a b each =
    let P : RandomChunkInfo → Type 0 = λ i. i.size < 2 ^ 24 in
    All-take P (b - a) (drop a infos) (All-drop P a infos (All-from_recursion P infos (small_sizes infos (recursion_from_All IsChunkLength (lengths_of (map chunk_of_info infos)) each))))

pub packed_text : (infos : List RandomChunkInfo) (cs : List (List ℕ)) (a b : ℕ) → map chunk_of_info infos ≡ cs → flat_map packed_of_info (slice_range infos a b) ≡ xorb_text (slice_range cs a b)
packed_text infos cs a b is =
    sym (flat_map-map chunk_bytes chunk_of_info (slice_range infos a b)) ∙ ap xorb_text (sym (slice_range-map chunk_of_info infos a b) ∙ ap (λ (ds : List (List ℕ)). slice_range ds a b) is)
