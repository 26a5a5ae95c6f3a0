-- A generated xorb: its text, and where its chunks lie.
use Rattle.std.proofs.Common.{◌≡◌, ◌∙◌, ℕ, ◌+◌, suc, ◌-◌, ◌*◌, ◌^◌, ◌≤◌, ◌<◌, List, [], ◌∷◌, ◌++◌, length, map, take, sum, slice_range, get_or, refl, sym, ap, subst, arith}
use Rattle.std.proofs.lemmas.List.{take_all, take_at, take_more, take-map, length-append, get_or-map}
use Rattle.std.proofs.lemmas.List.Elements.{All-from_recursion}
use Rattle.std.proofs.lemmas.List.Sums.{sum_by-cons}
use Rattle.xet_bytes.specs.Fields.{le32}
use Rattle.xet_types.specs.Names.{chunk_hash}
use Rattle.xet_xorb.specs.Lengths.{packed_before, unpacked_before}
use Rattle.xet_xorb.specs.Values.{Xorb}
use Rattle.xet_xorb.specs.ChunkLists.{IsChunk, IsWellFormed, lengths_of, joined, object_of}
use Rattle.xet_xorb.specs.XorbBytes.{xorb_text, xorb_bytes, footer_bytes, AreWholeChunks}
use Rattle.xet_xorb.proofs.ChunkText.{each_of_formed, lengths-length}
use Rattle.xet_xorb.proofs.Joining.{sum-append}
use Rattle.xet_xorb.proofs.MetRanges.{length-joined, packed_is}
use Rattle.xet_xorb.proofs.Offsets.{before_le}
use Rattle.xet_xorb.proofs.Slices.{slice_range-map, take_split}
use Rattle.xet_xorb.proofs.WholeText.{AreWholeChunks-unique}
use Rattle.xet_shard.specs.declared.listing.ChunkListing.{ChunkListing}
use Rattle.xet_generated.specs.Terms.{Chunks}
use Rattle.xet_generated.specs.Shards.{listed_chunk, listed_chunks}

-- ---- the text

-- the chunks end where the footer begins
pub text_end : (object : Xorb) (cs : Chunks) (n p : ℕ) → object ≡ object_of cs → n ≡ length object.lengths → p ≡ packed_before object.lengths n → p ≡ length (xorb_text cs)
text_end object cs n p is count at =
    let lengths : object.lengths ≡ lengths_of cs = ap (λ (x : Xorb). x.lengths) is in
    let all : n ≡ length cs = count ∙ ap (λ (ns : List ℕ). length ns) lengths ∙ lengths-length cs in
    at ∙ ap (λ (ns : List ℕ). packed_before ns n) lengths ∙ ap (packed_before (lengths_of cs)) all
    ∙ sym (packed_is cs (length cs) (omega arith)) ∙ ap (λ (ds : Chunks). length (xorb_text ds)) (take_all (length cs) cs (omega arith))

pub text_within : (cs : Chunks) (bytes : List ℕ) (p : ℕ) → bytes ≡ xorb_bytes cs → p ≡ length (xorb_text cs) → p ≤ length bytes
unfolding xorb_bytes
text_within cs bytes p is at =
    omega (arith, ap length is, at, length-append (xorb_text cs) (footer_bytes (object_of cs) ++ le32 (44 + 40 * length cs)))

pub text_cut : (cs : Chunks) (bytes : List ℕ) (p : ℕ) → bytes ≡ xorb_bytes cs → p ≡ length (xorb_text cs) → slice_range bytes 0 p ≡ xorb_text cs
unfolding xorb_bytes
text_cut cs bytes p is at =
    sym (take_split bytes 0 p (omega arith)) ∙ ap (take p) is ∙ take_at (xorb_text cs) (footer_bytes (object_of cs) ++ le32 (44 + 40 * length cs)) p (sym at)

whole_chunks : (cs : Chunks) → IsWellFormed cs → AreWholeChunks (xorb_text cs) cs
whole_chunks cs formed = record {
  spelled = record { each = All-from_recursion IsChunk cs (each_of_formed cs formed); text = refl };
  some = omega (arith, formed.lengths.some, lengths-length cs);
}

-- what was read of the text is the chunks
pub read_are : (cs read : Chunks) (text : List ℕ) → IsWellFormed cs → text ≡ xorb_text cs → AreWholeChunks text read → read ≡ cs
read_are cs read text formed is are = AreWholeChunks-unique text read cs are (subst (λ (t : List ℕ). AreWholeChunks t cs) (sym is) (whole_chunks cs formed))

-- ---- lengths

pub cut_order : (cs : Chunks) (a b u v : ℕ) → a ≤ b → u ≡ unpacked_before (lengths_of cs) b → v ≡ unpacked_before (lengths_of cs) a → v ≤ u
cut_order cs a b u v order end start = omega (arith, before_le (lengths_of cs) a b order, end, start)

pub cut_length : (cs : Chunks) (a b u v : ℕ) → a ≤ b → u ≡ unpacked_before (lengths_of cs) b → v ≡ unpacked_before (lengths_of cs) a → u - v ≡ length (joined (slice_range cs a b))
cut_length cs a b u v order end start =
    let whole : sum (take b (lengths_of cs)) ≡ sum (take a (lengths_of cs)) + sum (slice_range (lengths_of cs) a b) = ap sum (take_split (lengths_of cs) a b order) ∙ sum-append (take a (lengths_of cs)) (slice_range (lengths_of cs) a b) in
    let goes : sum (slice_range (lengths_of cs) a b) ≡ length (joined (slice_range cs a b)) = ap sum (slice_range-map length cs a b) ∙ sym (length-joined (slice_range cs a b)) in
    omega (arith, end, start, whole, goes)

pub whole_length : (cs : Chunks) (n u : ℕ) → n ≡ length (lengths_of cs) → u ≡ unpacked_before (lengths_of cs) n → u ≡ length (joined cs)
whole_length cs n u count end = end ∙ ap sum (take_all n (lengths_of cs) (omega (arith, count))) ∙ sym (length-joined cs)

-- ---- listed chunks

listed_push : (from : ℕ) (cs : Chunks) (c : List ℕ) → listed_chunks from (cs ++ c ∷ []) ≡ listed_chunks from cs ++ listed_chunk (from + sum (lengths_of cs)) c ∷ []
listed_push from [] c = ap (λ n. listed_chunk n c ∷ []) (let e : from ≡ from + 0 = omega arith in e)
listed_push from (d ∷ ds) c =
    ap (λ (ls : List ChunkListing). listed_chunk from d ∷ ls) (listed_push (from + length d) ds c)
    ∙ ap (λ n. listed_chunk from d ∷ (listed_chunks (from + length d) ds ++ listed_chunk n c ∷ [])) (let e : from + length d + sum (lengths_of ds) ≡ from + sum (length d ∷ lengths_of ds) = omega (arith, sum_by-cons (λ (n : ℕ). n) (length d) (lengths_of ds)) in e)

-- one chunk more
pub listed_more : (cs : Chunks) (k : ℕ) (out new : List ChunkListing) (hash : List ℕ) (start size : ℕ) → k < length cs
    → out ≡ listed_chunks 0 (take k cs) → hash ≡ chunk_hash (get_or cs k []) → start ≡ unpacked_before (lengths_of cs) k → size ≡ length (get_or cs k [])
    → new ≡ out ++ record { chunk_hash = hash; chunk_byte_range_start = start; unpacked_segment_bytes = size; flags = 0; spare = 0 } ∷ [] → new ≡ listed_chunks 0 (take (k + 1) cs)
listed_more cs k out new hash start size lt was named from long now =
    let c = get_or cs k [] in
    let made : List ℕ → ℕ → ℕ → ChunkListing = λ h s n. record { chunk_hash = h; chunk_byte_range_start = s; unpacked_segment_bytes = n; flags = 0; spare = 0 } in
    let place : start ≡ sum (lengths_of (take k cs)) = from ∙ ap sum (take-map length k cs) in
    let item : made hash start size ≡ listed_chunk (sum (lengths_of (take k cs))) c = ap (λ h. made h start size) named ∙ ap (λ s. made (chunk_hash c) s size) place ∙ ap (made (chunk_hash c) (sum (lengths_of (take k cs)))) long in
    now ∙ ap (λ (ls : List ChunkListing). ls ++ made hash start size ∷ []) was ∙ ap (λ (l : ChunkListing). listed_chunks 0 (take k cs) ++ l ∷ []) item
    ∙ sym (ap (listed_chunks 0) (take_more cs k [] lt) ∙ listed_push 0 (take k cs) c ∙ ap (λ n. listed_chunks 0 (take k cs) ++ listed_chunk n c ∷ []) (let e : 0 + sum (lengths_of (take k cs)) ≡ sum (lengths_of (take k cs)) = omega arith in e))

-- the hash of a chunk among the hashes
pub hash_at : (cs : Chunks) (k : ℕ) (hashes : List (List ℕ)) (hash : List ℕ) → k < length cs → hashes ≡ map chunk_hash cs → hash ≡ get_or hashes k hash → hash ≡ chunk_hash (get_or cs k [])
hash_at cs k hashes hash lt are is = is ∙ ap (λ (hs : List (List ℕ)). get_or hs k hash) are ∙ get_or-map chunk_hash cs k [] hash lt

-- a chunk is as long as its end is behind its start
pub size_at : (cs : Chunks) (k u v : ℕ) → k < length cs → u ≡ unpacked_before (lengths_of cs) (k + 1) → v ≡ unpacked_before (lengths_of cs) k → u - v ≡ length (get_or cs k [])
size_at cs k u v lt end start =
    let ls = lengths_of cs in
    let more : sum (take (k + 1) ls) ≡ sum (take k ls) + sum (get_or ls k 0 ∷ []) = ap sum (take_more ls k 0 (omega (arith, lt, lengths-length cs))) ∙ sum-append (take k ls) (get_or ls k 0 ∷ []) in
    let one : sum (get_or ls k 0 ∷ []) ≡ get_or ls k 0 + 0 = sum_by-cons (λ (n : ℕ). n) (get_or ls k 0) [] in
    let long : get_or ls k 0 ≡ length (get_or cs k []) = get_or-map length cs k [] 0 lt in
    omega (arith, end, start, more, one, long)

pub length-listed_chunks : (from : ℕ) (cs : Chunks) → length (listed_chunks from cs) ≡ length cs
length-listed_chunks from [] = refl
length-listed_chunks from (c ∷ cs) = ap suc (length-listed_chunks (from + length c) cs)

-- so many chunks have numbers of 32 bits
pub few_listed : (cs : Chunks) (listed : List ChunkListing) → IsWellFormed cs → listed ≡ listed_chunks 0 cs → length listed < 2 ^ 32
few_listed cs listed formed is = omega (arith, ap length is, length-listed_chunks 0 cs, lengths-length cs, formed.lengths.short)
