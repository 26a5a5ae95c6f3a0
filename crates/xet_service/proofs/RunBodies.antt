-- The bytes of a run of a xorb's chunks.
use Rattle.std.proofs.Common.{◌≡◌, ◌∙◌, ℕ, zero, suc, ◌+◌, ◌-◌, ◌<◌, ◌≤◌, arith, true, List, [], ◌∷◌, ◌++◌, length, take, drop, slice_range, Ok, refl, sym, ap, subst}
use Rattle.std.specs.Prelude.{nat_lt, nat_le}
use Rattle.std.proofs.lemmas.Bool.{lt-ltb, le-leb}
use Rattle.std.proofs.lemmas.List.{append_assoc, length-append, length-drop, length-take}
use Rattle.std.proofs.lemmas.List.Elements.{All-take, All-drop, All-from_recursion}
use Rattle.xet_types.specs.declared.range.Range.{Range}
use Rattle.xet_types.specs.declared.range._F.{_F}
use Rattle.xet_xorb.specs.Lengths.{packed_before}
use Rattle.xet_xorb.specs.ChunkLists.{lengths_of, IsChunk, IsWellFormed}
use Rattle.xet_xorb.specs.XorbBytes.{header_bytes, chunk_bytes, xorb_text, xorb_bytes, AreWholeChunks}
use Rattle.xet_xorb.proofs.ChunkText.{length-header, each_of_formed}
use Rattle.xet_store.specs.StoreModel.{Chunks}
use Rattle.xet_store.proofs.Chunks.{from_chunk, more_before, tail_of, text_is, kept_within}
use Rattle.xet_service.specs.Bodies.{piece_of}

-- a front that is longer than a list
take_past : (xs ys : List ℕ) (k : ℕ) → take (length xs + k) (xs ++ ys) ≡ xs ++ take k ys
take_past [] ys k = ap (λ n. take n ys) (let e : 0 + k ≡ k = omega arith in e)
take_past (x ∷ xs) ys k = ap (λ n. take n (x ∷ (xs ++ ys))) (let e : suc (length xs) + k ≡ suc (length xs + k) = omega arith in e) ∙ ap (λ (zs : List ℕ). x ∷ zs) (take_past xs ys k)

length_chunk : (c : List ℕ) → length (chunk_bytes c) ≡ 8 + length c
length_chunk c = length-append (header_bytes (length c)) c ∙ ap (λ n. n + length c) (length-header (length c))

-- the first chunks are the front of the text
front : (cs : Chunks) (rest : List ℕ) (k : ℕ) → k ≤ length cs → take (packed_before (lengths_of cs) k) (xorb_text cs ++ rest) ≡ xorb_text (take k cs)
front cs rest zero l = refl
front [] rest (suc k) l = let no : ⊥ = omega (arith, l) in absurd no
front (c ∷ cs) rest (suc k) l =
    let n : packed_before (lengths_of (c ∷ cs)) (suc k) ≡ length (chunk_bytes c) + packed_before (lengths_of cs) k = more_before (length c) (lengths_of cs) k ∙ ap (λ m. m + packed_before (lengths_of cs) k) (sym (length_chunk c)) in
    ap (take (packed_before (lengths_of (c ∷ cs)) (suc k))) (append_assoc (chunk_bytes c) (xorb_text cs) rest)
    ∙ ap (λ m. take m (chunk_bytes c ++ (xorb_text cs ++ rest))) n
    ∙ take_past (chunk_bytes c) (xorb_text cs ++ rest) (packed_before (lengths_of cs) k)
    ∙ ap (λ (t : List ℕ). chunk_bytes c ++ t) (front cs rest k (omega (arith, l)))

-- where a chunk begins behind another
pub part : (cs : Chunks) (a b : ℕ) → a ≤ b → b ≤ length cs → packed_before (lengths_of cs) b ≡ packed_before (lengths_of cs) a + packed_before (lengths_of (drop a cs)) (b - a)
part cs zero b ab bl = let e : b - 0 ≡ b = omega arith in rw e (let s : packed_before (lengths_of cs) b ≡ packed_before (lengths_of cs) 0 + packed_before (lengths_of cs) b = omega arith in s)
part [] (suc a) b ab bl = let no : ⊥ = omega (arith, ab, bl) in absurd no
part (c ∷ cs) (suc a) zero ab bl = let no : ⊥ = omega (arith, ab) in absurd no
part (c ∷ cs) (suc a) (suc b) ab bl =
    let rest = part cs a b (omega (arith, ab)) (omega (arith, bl)) in
    let one = more_before (length c) (lengths_of cs) a in
    let two = more_before (length c) (lengths_of cs) b in
    let e : suc b - suc a ≡ b - a = omega arith in
    rw e (omega (arith, rest, one, two))

slice_text : (cs : Chunks) (rest : List ℕ) (a b : ℕ) → a ≤ b → b ≤ length cs → slice_range (xorb_text cs ++ rest) (packed_before (lengths_of cs) a) (packed_before (lengths_of cs) b) ≡ xorb_text (slice_range cs a b)
slice_text cs rest a b ab bl =
    let n : packed_before (lengths_of cs) b - packed_before (lengths_of cs) a ≡ packed_before (lengths_of (drop a cs)) (b - a) = omega (arith, part cs a b ab bl) in
    let long : b - a ≤ length (drop a cs) = omega (arith, length-drop a cs, ab, bl) in
    ap (take (packed_before (lengths_of cs) b - packed_before (lengths_of cs) a)) (from_chunk cs rest a (omega (arith, ab, bl)))
    ∙ ap (λ m. take m (xorb_text (drop a cs) ++ rest)) n
    ∙ front (drop a cs) rest (b - a) long

-- the range of a run's bytes
abbrev pub run_bytes : Chunks → ℕ → ℕ → Range ℕ _F
run_bytes cs a b = record { start = packed_before (lengths_of cs) a; end = packed_before (lengths_of cs) b; _marker = record {} }

-- some bytes lie between
pub rises : (cs : Chunks) (a b : ℕ) → a < b → b ≤ length cs → packed_before (lengths_of cs) a < packed_before (lengths_of cs) b
rises cs a b ab bl = let p = part cs a b (omega (arith, ab)) bl in omega (arith, p, ab)

pub within : (cs : Chunks) (b : ℕ) → 0 < b → b ≤ length cs → packed_before (lengths_of cs) b ≤ length (xorb_bytes cs)
within cs b some bl =
    let w = kept_within cs (b - 1) [] (omega (arith, some, bl)) in
    let e : (b - 1) + 1 ≡ b = omega (arith, some) in
    subst (λ n. packed_before (lengths_of cs) n ≤ length (xorb_bytes cs)) e w.1

-- the bytes of a run are its chunks, each behind its header
pub run_body : (cs : Chunks) (a b : ℕ) → a < b → b ≤ length cs → piece_of (run_bytes cs a b) cs ≡ Ok (xorb_text (slice_range cs a b))
run_body cs a b ab bl =
    let low : nat_lt (packed_before (lengths_of cs) a) (packed_before (lengths_of cs) b) ≡ true = lt-ltb (packed_before (lengths_of cs) a) (packed_before (lengths_of cs) b) (rises cs a b ab bl) in
    let high : nat_le (packed_before (lengths_of cs) b) (length (xorb_bytes cs)) ≡ true = le-leb (packed_before (lengths_of cs) b) (length (xorb_bytes cs)) (within cs b (omega (arith, ab)) bl) in
    rw (low, high) (ap Ok (ap (λ (t : List ℕ). slice_range t (packed_before (lengths_of cs) a) (packed_before (lengths_of cs) b)) (text_is cs) ∙ slice_text cs (tail_of cs) a b (omega (arith, ab)) bl))

-- these are whole chunks
pub run_whole : (cs : Chunks) (a b : ℕ) → IsWellFormed cs → a < b → b ≤ length cs → AreWholeChunks (xorb_text (slice_range cs a b)) (slice_range cs a b)
run_whole cs a b formed ab bl = record {
  spelled = record { each = All-take IsChunk (b - a) (drop a cs) (All-drop IsChunk a cs (All-from_recursion IsChunk cs (each_of_formed cs formed))); text = refl };
  some = let cut = length-take (b - a) (drop a cs) in let rest = length-drop a cs in omega (arith, cut, rest, ab, bl);
}
