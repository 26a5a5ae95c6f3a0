-- How long the parts of a xorb's bytes are, and what a range of them is.
use Rattle.std.proofs.Common.{◌≡◌, ℕ, ◌+◌, ◌-◌, ◌*◌, ◌≤◌, ◌<◌, true, false, List, [], ◌∷◌, ◌++◌, length, map, take, drop, slice_range, sum, nat_le, refl, sym, ap, ◌∙◌, inl, inr, append_assoc, arith}
use Rattle.std.specs.List.{flat_map}
use Rattle.std.proofs.lemmas.Bool.{cases_lt, le-leb, lt-leb}
use Rattle.std.proofs.lemmas.List.{append-nil, length-append, length-map, length-take, length-drop, take-map, take-append-drop, take_all}
use Rattle.std.proofs.lemmas.List.Concat.{flat_map-append, flat_map-cons, length-flat_map}
use Rattle.std.proofs.lemmas.List.Folds.{drop_split}
use Rattle.std.proofs.lemmas.List.Sums.{sum_by-cons, sum-map}
use Rattle.sha2.proofs.Facts256.{length-sha256}
use Rattle.xet_types.specs.Names.{chunk_hash, name_of_hashes}
use Rattle.xet_bytes.specs.Fields.{le32}
use Rattle.xet_xorb.specs.Lengths.{packed_before, serialized_length}
use Rattle.xet_xorb.specs.ChunkLists.{lengths_of, joined, object_of}
use Rattle.xet_xorb.specs.XorbBytes.{header_bytes, chunk_bytes, xorb_text, xorb_bytes, running_sums, footer_mark, footer_bytes, boundary_bytes, unpacked_bytes}
use Rattle.xet_xorb.specs.Footers.{tail_bytes}
use Rattle.xet_xorb.specs.Generated.{met_bytes}
use Rattle.xet_xorb.proofs.ChunkText.{length-header, lengths-length}
use Rattle.xet_xorb.proofs.FooterText.{length-running, xorb_written}
use Rattle.xet_xorb.proofs.Offsets.{before_le}
use Rattle.xet_xorb.proofs.Slices.{inner, take_split}

-- ---- lengths

pub length-joined : (cs : List (List ℕ)) → length (joined cs) ≡ sum (lengths_of cs)
length-joined cs = length-flat_map (λ (c : List ℕ). c) cs ∙ sym (sum-map length cs)

length-chunk : (c : List ℕ) → length (chunk_bytes c) ≡ 8 + length c
length-chunk c = length-append (header_bytes (length c)) c ∙ ap (λ n. n + length c) (length-header (length c))

length-text : (cs : List (List ℕ)) → length (xorb_text cs) ≡ sum (lengths_of cs) + 8 * length cs
length-text [] = refl
length-text (c ∷ cs) =
    let head : length (xorb_text (c ∷ cs)) ≡ length (chunk_bytes c) + length (xorb_text cs) = ap length (flat_map-cons chunk_bytes c cs) ∙ length-append (chunk_bytes c) (xorb_text cs) in
    omega (arith, head, length-chunk c, length-text cs, sum_by-cons (λ (n : ℕ). n) (length c) (lengths_of cs))

-- the first chunks end where the next one begins
pub packed_is : (cs : List (List ℕ)) (k : ℕ) → k ≤ length cs → length (xorb_text (take k cs)) ≡ packed_before (lengths_of cs) k
packed_is cs k l =
    let n : length (take k cs) ≡ k = omega (arith, length-take k cs, l) in
    let s : sum (lengths_of (take k cs)) ≡ sum (take k (lengths_of cs)) = ap sum (sym (take-map length k cs)) in
    omega (arith, length-text (take k cs), n, s)

length-le32s : (ns : List ℕ) → length (flat_map le32 ns) ≡ 4 * length ns
unfolding le32
length-le32s [] = refl
length-le32s (n ∷ ns) = omega (arith, ap length (flat_map-cons le32 n ns), length-append (le32 n) (flat_map le32 ns), length-le32s ns)

length-hashes : (cs : List (List ℕ)) → length (flat_map (λ (h : List ℕ). h) (map chunk_hash cs)) ≡ 32 * length cs
length-hashes [] = refl
length-hashes (c ∷ cs) =
    omega (arith, ap length (flat_map-cons (λ (h : List ℕ). h) (chunk_hash c) (map chunk_hash cs)), length-append (chunk_hash c) (flat_map (λ (h : List ℕ). h) (map chunk_hash cs)), length-sha256 c, length-hashes cs)

length-tail : (cs : List (List ℕ)) → length (tail_bytes true (object_of cs)) ≡ 48 + 40 * length cs
unfolding footer_bytes boundary_bytes unpacked_bytes le32
length-tail cs =
    let ns = lengths_of cs in
    let hs = map chunk_hash cs in
    let bounds = running_sums 0 (map (λ n. 8 + n) ns) in
    let ends = running_sums 0 ns in
    let name = name_of_hashes hs in
    let count = length-map cs length in
    let a = length-le32s bounds in
    let b = length-le32s ends in
    let la = length-running 0 (map (λ n. 8 + n) ns) in
    let lm = length-map ns (λ n. 8 + n) in
    let lb = length-running 0 ns in
    let h = length-hashes cs in
    let s = length-sha256 (flat_map (λ (h : List ℕ). h) hs) in
    let t1 = length-append (flat_map le32 bounds) (flat_map le32 ends) in
    let t2 = length-append (flat_map (λ (h : List ℕ). h) hs) (flat_map le32 bounds ++ flat_map le32 ends) in
    let t3 = length-append (le32 (length ns)) (flat_map (λ (h : List ℕ). h) hs ++ (flat_map le32 bounds ++ flat_map le32 ends)) in
    let t4 = length-append name (le32 (length ns) ++ (flat_map (λ (h : List ℕ). h) hs ++ (flat_map le32 bounds ++ flat_map le32 ends))) in
    let t5 = length-append footer_mark (name ++ (le32 (length ns) ++ (flat_map (λ (h : List ℕ). h) hs ++ (flat_map le32 bounds ++ flat_map le32 ends)))) in
    let t6 = length-append (footer_bytes (object_of cs)) (le32 (44 + 40 * length ns)) in
    omega (arith, count, a, b, la, lm, lb, h, s, t1, t2, t3, t4, t5, t6)

whole : (cs : List (List ℕ)) → xorb_bytes cs ≡ xorb_text cs ++ tail_bytes true (object_of cs)
whole cs = sym (xorb_written cs (object_of cs) refl)

pub length-xorb_bytes : (cs : List (List ℕ)) → length (xorb_bytes cs) ≡ serialized_length (lengths_of cs)
length-xorb_bytes cs =
    omega (arith, ap length (whole cs), length-append (xorb_text cs) (tail_bytes true (object_of cs)), length-text cs, length-tail cs, lengths-length cs)

-- ---- a range

-- behind the first chunks
cut : (cs : List (List ℕ)) (a : ℕ) → xorb_bytes cs ≡ xorb_text (take a cs) ++ (xorb_text (drop a cs) ++ tail_bytes true (object_of cs))
cut cs a =
    whole cs
    ∙ ap (λ (ds : List (List ℕ)). xorb_text ds ++ tail_bytes true (object_of cs)) (sym (take-append-drop a cs))
    ∙ ap (λ (t : List ℕ). t ++ tail_bytes true (object_of cs)) (flat_map-append chunk_bytes (take a cs) (drop a cs))
    ∙ append_assoc (xorb_text (take a cs)) (xorb_text (drop a cs)) (tail_bytes true (object_of cs))

-- the bytes of the chunks that a range meets, and where the range lies in them
pub record IsMet (cs : List (List ℕ)) (first last start end : ℕ) : Type 0 where
  pub fits : end - packed_before (lengths_of cs) first ≤ length (met_bytes cs first last)
  pub bytes : slice_range (met_bytes cs first last) (start - packed_before (lengths_of cs) first) (end - packed_before (lengths_of cs) first) ≡ slice_range (xorb_bytes cs) start end

-- of a text of three parts
of_parts : (cs : List (List ℕ)) (first last start end : ℕ) (pre mid post : List ℕ) → xorb_bytes cs ≡ pre ++ (mid ++ post) → length pre ≡ packed_before (lengths_of cs) first → mid ≡ met_bytes cs first last → packed_before (lengths_of cs) first ≤ start → start ≤ end → end ≤ length pre + length mid → IsMet cs first last start end
of_parts cs first last start end pre mid post is len met low order high =
    let p = packed_before (lengths_of cs) first in
    record {
      fits = omega (arith, ap length met, len, high, low, order);
      bytes = ap (λ (t : List ℕ). slice_range t (start - p) (end - p)) (sym met)
          ∙ ap (λ n. slice_range mid (start - n) (end - n)) (sym len)
          ∙ sym (inner pre mid post start end (omega (arith, len, low)) order high)
          ∙ ap (λ (t : List ℕ). slice_range t start end) (sym is);
    }

-- the range ends in a chunk
met_chunks : (cs : List (List ℕ)) (first last start end : ℕ) → first ≤ length cs → last < length cs → packed_before (lengths_of cs) first ≤ start → start < end → end ≤ packed_before (lengths_of cs) (last + 1) → IsMet cs first last start end
met_chunks cs first last start end fl l low order until =
    let b = last + 1 in
    let pre = xorb_text (take first cs) in
    let tail = tail_bytes true (object_of cs) in
    let mono = before_le (lengths_of cs) b first in
    let ord : first ≤ b = elim (cases_lt b first) as (λ _. first ≤ b) [ inl m ↦ absurd (omega (arith, m, mono (omega (arith, m)), low, order, until)) | inr m ↦ m ] in
    let mid = xorb_text (slice_range cs first b) in
    let rest : xorb_text (drop first cs) ≡ mid ++ xorb_text (drop b cs) = ap xorb_text (drop_split cs first b ord) ∙ flat_map-append chunk_bytes (slice_range cs first b) (drop b cs) in
    let len : length (xorb_text (take b cs)) ≡ length pre + length mid = ap (λ (ds : List (List ℕ)). length (xorb_text ds)) (take_split cs first b ord) ∙ ap length (flat_map-append chunk_bytes (take first cs) (slice_range cs first b)) ∙ length-append pre mid in
    let none : nat_le (length cs) last ≡ false = lt-leb (length cs) last l in
    of_parts cs first last start end pre mid (xorb_text (drop b cs) ++ tail)
    (cut cs first ∙ ap (λ (t : List ℕ). pre ++ (t ++ tail)) rest ∙ ap (λ (t : List ℕ). pre ++ t) (append_assoc mid (xorb_text (drop b cs)) tail))
    (packed_is cs first fl)
    (sym (ap (λ f. mid ++ tail_bytes f (object_of cs)) none ∙ append-nil mid))
    low (omega (arith, order)) (omega (arith, until, len, packed_is cs b (omega (arith, l))))

-- the range ends in the footer
met_behind : (cs : List (List ℕ)) (first last start end : ℕ) → first ≤ length cs → last ≡ length cs → packed_before (lengths_of cs) first ≤ start → start < end → end ≤ length (xorb_bytes cs) → IsMet cs first last start end
met_behind cs first last start end fl e low order high =
    let pre = xorb_text (take first cs) in
    let tail = tail_bytes true (object_of cs) in
    let mid = xorb_text (drop first cs) ++ tail in
    let all : slice_range cs first (last + 1) ≡ drop first cs = take_all (last + 1 - first) (drop first cs) (omega (arith, length-drop first cs, e)) in
    let some : nat_le (length cs) last ≡ true = le-leb (length cs) last (omega (arith, e)) in
    let text : xorb_bytes cs ≡ pre ++ mid = cut cs first in
    of_parts cs first last start end pre mid []
    (text ∙ ap (λ (t : List ℕ). pre ++ t) (sym (append-nil mid)))
    (packed_is cs first fl)
    (sym (ap (λ f. xorb_text (slice_range cs first (last + 1)) ++ tail_bytes f (object_of cs)) some ∙ ap (λ (ds : List (List ℕ)). xorb_text ds ++ tail) all))
    low (omega (arith, order)) (omega (arith, high, ap length text, length-append pre mid))

pub is_met : (cs : List (List ℕ)) (first last start end : ℕ) → first ≤ length cs → last ≤ length cs → packed_before (lengths_of cs) first ≤ start → start < end → end ≤ length (xorb_bytes cs) → (last < length cs → end ≤ packed_before (lengths_of cs) (last + 1)) → IsMet cs first last start end
is_met cs first last start end fl ll low order high upto =
    elim (cases_lt last (length cs)) as (λ _. IsMet cs first last start end) [
      | inl l ↦ met_chunks cs first last start end fl l low order (upto l)
      | inr l ↦ met_behind cs first last start end fl (omega (arith, l, ll)) low order high
    ]

-- all chunks and the footer
pub all_met : (cs : List (List ℕ)) → met_bytes cs 0 (length cs) ≡ xorb_bytes cs
all_met cs =
    let all : slice_range cs 0 (length cs + 1) ≡ cs = take_all (length cs + 1 - 0) cs (omega arith) in
    let some : nat_le (length cs) (length cs) ≡ true = le-leb (length cs) (length cs) (omega arith) in
    ap (λ f. xorb_text (slice_range cs 0 (length cs + 1)) ++ tail_bytes f (object_of cs)) some
    ∙ ap (λ (ds : List (List ℕ)). xorb_text ds ++ tail_bytes true (object_of cs)) all
    ∙ sym (whole cs)

-- the chunks that are met, without the footer and with it
pub met_without : (cs : List (List ℕ)) (first last : ℕ) → last < length cs → xorb_text (slice_range cs first (last + 1)) ≡ met_bytes cs first last
met_without cs first last l =
    let text = xorb_text (slice_range cs first (last + 1)) in
    sym (ap (λ f. text ++ tail_bytes f (object_of cs)) (lt-leb (length cs) last l) ∙ append-nil text)

pub met_with : (cs : List (List ℕ)) (first last : ℕ) → length cs ≤ last → xorb_text (slice_range cs first (last + 1)) ++ tail_bytes true (object_of cs) ≡ met_bytes cs first last
met_with cs first last l = sym (ap (λ f. xorb_text (slice_range cs first (last + 1)) ++ tail_bytes f (object_of cs)) (le-leb (length cs) last l))
