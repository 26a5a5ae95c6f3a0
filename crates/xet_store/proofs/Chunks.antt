-- Chunks as cuts of a xorb's text.
use Rattle.std.proofs.Common.{◌≡◌, ◌∙◌, ℕ, zero, suc, ◌+◌, ◌-◌, ◌*◌, ◌<◌, ◌≤◌, arith, List, [], ◌∷◌, ◌++◌, length, take, drop, sum, get_or, slice_range, min, max, refl, sym, ap, subst, inl, inr}
use Rattle.std.specs.List.{concat}
use Rattle.std.proofs.lemmas.List.{append_assoc, append-nil, length-append, length-map, length-drop, take_at, take_more, drop_at, drop-drop, take_all}
use Rattle.std.proofs.lemmas.Bool.{cases_lt}
use Rattle.xet_bytes.specs.Fields.{le32}
use Rattle.xet_xorb.specs.Lengths.{packed_before}
use Rattle.xet_xorb.specs.Values.{Xorb}
use Rattle.xet_xorb.specs.ChunkLists.{lengths_of, object_of, IsWellFormed}
use Rattle.xet_xorb.specs.XorbBytes.{header_bytes, chunk_bytes, xorb_text, footer_bytes, xorb_bytes}
use Rattle.xet_xorb.proofs.ChunkText.{length-header}
use Rattle.xet_plan.proofs.Lay.{sum-cons}
use Rattle.xet_store.specs.StoreModel.{Chunks}
use Rattle.xet_store.specs.Kept.{chunks_in, IsKeptXorb}

-- ---- a chunk at the front

-- behind the header of the first chunk
past_header : (c : List ℕ) (cs : Chunks) (rest : List ℕ) → drop 8 (xorb_text (c ∷ cs) ++ rest) ≡ c ++ (xorb_text cs ++ rest)
past_header c cs rest =
    ap (drop 8) (append_assoc (header_bytes (length c) ++ c) (xorb_text cs) rest ∙ append_assoc (header_bytes (length c)) c (xorb_text cs ++ rest))
    ∙ drop_at (header_bytes (length c)) (c ++ (xorb_text cs ++ rest)) 8 (length-header (length c))

-- behind the first chunk
past_chunk : (c : List ℕ) (cs : Chunks) (rest : List ℕ) → drop (8 + length c) (xorb_text (c ∷ cs) ++ rest) ≡ xorb_text cs ++ rest
past_chunk c cs rest =
    sym (drop-drop (length c) 8 (xorb_text (c ∷ cs) ++ rest)) ∙ ap (drop (length c)) (past_header c cs rest) ∙ drop_at c (xorb_text cs ++ rest) (length c) refl

-- the chunks of a text are cut out of it
pub chunks_in_text : (cs : Chunks) (rest : List ℕ) → chunks_in (xorb_text cs ++ rest) (lengths_of cs) ≡ cs
chunks_in_text [] rest = refl
chunks_in_text (c ∷ cs) rest =
    ap (λ (d : List ℕ). d ∷ chunks_in (drop (8 + length c) (xorb_text (c ∷ cs) ++ rest)) (lengths_of cs)) (ap (take (length c)) (past_header c cs rest) ∙ take_at c (xorb_text cs ++ rest) (length c) refl)
    ∙ ap (λ (text : List ℕ). c ∷ chunks_in text (lengths_of cs)) (past_chunk c cs rest)
    ∙ ap (λ (ds : Chunks). c ∷ ds) (chunks_in_text cs rest)

-- ---- a chunk at its place

pub more_before : (n : ℕ) (ns : List ℕ) (k : ℕ) → packed_before (n ∷ ns) (suc k) ≡ (8 + n) + packed_before ns k
more_before n ns k = let s : sum (n ∷ take k ns) ≡ n + sum (take k ns) = sum-cons n (take k ns) in omega arith

-- the text from a chunk's header on
pub from_chunk : (cs : Chunks) (rest : List ℕ) (k : ℕ) → k ≤ length cs → drop (packed_before (lengths_of cs) k) (xorb_text cs ++ rest) ≡ xorb_text (drop k cs) ++ rest
from_chunk cs rest zero l = refl
from_chunk [] rest (suc k) l = let no : ⊥ = omega (arith, l) in absurd no
from_chunk (c ∷ cs) rest (suc k) l =
    ap (λ n. drop n (xorb_text (c ∷ cs) ++ rest)) (more_before (length c) (lengths_of cs) k)
    ∙ sym (drop-drop (packed_before (lengths_of cs) k) (8 + length c) (xorb_text (c ∷ cs) ++ rest))
    ∙ ap (drop (packed_before (lengths_of cs) k)) (past_chunk c cs rest)
    ∙ from_chunk cs rest k (omega (arith, l))

read_from : (cs : Chunks) (k : ℕ) (d : List ℕ) → k < length cs → drop k cs ≡ get_or cs k d ∷ drop (k + 1) cs
read_from [] k d l = let no : ⊥ = omega (arith, l) in absurd no
read_from (c ∷ cs) zero d l = refl
read_from (c ∷ cs) (suc k) d l = read_from cs k d (omega (arith, l)) ∙ ap (λ n. get_or cs k d ∷ drop n (c ∷ cs)) (let e : suc (k + 1) ≡ suc k + 1 = omega arith in e)

before_next : (ns : List ℕ) (k d : ℕ) → k < length ns → packed_before ns (k + 1) ≡ packed_before ns k + 8 + get_or ns k d
before_next [] k d l = let no : ⊥ = omega (arith, l) in absurd no
before_next (n ∷ ns) zero d l = let s : sum (n ∷ []) ≡ n + 0 = sum-cons n [] in omega arith
before_next (n ∷ ns) (suc k) d l =
    let rest = before_next ns k d (omega (arith, l)) in
    let one = more_before n ns k in
    let two : packed_before (n ∷ ns) (suc k + 1) ≡ (8 + n) + packed_before ns (k + 1) = ap (λ i. packed_before (n ∷ ns) i) (let e : suc k + 1 ≡ suc (k + 1) = omega arith in e) ∙ more_before n ns (k + 1) in
    omega (arith, rest, one, two)

length_of : (cs : Chunks) (k : ℕ) (d : List ℕ) → k < length cs → get_or (lengths_of cs) k (length d) ≡ length (get_or cs k d)
length_of [] k d l = let no : ⊥ = omega (arith, l) in absurd no
length_of (c ∷ cs) zero d l = refl
length_of (c ∷ cs) (suc k) d l = length_of cs k d (omega (arith, l))

-- a chunk is the text between its header and the next one
pub chunk_at : (cs : Chunks) (rest : List ℕ) (k : ℕ) (d : List ℕ) → k < length cs → slice_range (xorb_text cs ++ rest) (packed_before (lengths_of cs) k + 8) (packed_before (lengths_of cs) (k + 1)) ≡ get_or cs k d
chunk_at cs rest k d l =
    let at = packed_before (lengths_of cs) k in
    let c = get_or cs k d in
    let text = xorb_text cs ++ rest in
    let from : drop (at + 8) text ≡ c ++ (xorb_text (drop (k + 1) cs) ++ rest) =
    sym (drop-drop 8 at text) ∙ ap (drop 8) (from_chunk cs rest k (omega (arith, l)) ∙ ap (λ (ds : Chunks). xorb_text ds ++ rest) (read_from cs k d l)) ∙ past_header c (drop (k + 1) cs) rest in
    let next : packed_before (lengths_of cs) (k + 1) ≡ at + 8 + length c = before_next (lengths_of cs) k (length d) (subst (λ n. k < n) (sym (length-map cs length)) l) ∙ ap (λ n. at + 8 + n) (length_of cs k d l) in
    let n : packed_before (lengths_of cs) (k + 1) - (at + 8) ≡ length c = omega (arith, next) in
    ap (λ (t : List ℕ). take (packed_before (lengths_of cs) (k + 1) - (at + 8)) t) from
    ∙ ap (λ m. take m (c ++ (xorb_text (drop (k + 1) cs) ++ rest))) n
    ∙ take_at c (xorb_text (drop (k + 1) cs) ++ rest) (length c) refl

-- how long a xorb's text is without the footer
length-text : (cs : Chunks) → length (xorb_text cs) ≡ sum (lengths_of cs) + 8 * length cs
length-text [] = refl
length-text (c ∷ cs) =
    let rest = length-text cs in
    let one : length (chunk_bytes c) ≡ 8 + length c = length-append (header_bytes (length c)) c ∙ ap (λ n. n + length c) (length-header (length c)) in
    let both : length (xorb_text (c ∷ cs)) ≡ length (chunk_bytes c) + length (xorb_text cs) = length-append (chunk_bytes c) (xorb_text cs) in
    let s : sum (lengths_of (c ∷ cs)) ≡ length c + sum (lengths_of cs) = sum-cons (length c) (lengths_of cs) in
    omega (arith, rest, one, both, s)

-- the places of a chunk lie in the text
pub chunk_within : (cs : Chunks) (rest : List ℕ) (k : ℕ) (d : List ℕ) → k < length cs → (packed_before (lengths_of cs) k + 8 ≤ packed_before (lengths_of cs) (k + 1)) × (packed_before (lengths_of cs) (k + 1) ≤ length (xorb_text cs ++ rest))
chunk_within cs rest k d l =
    let next : packed_before (lengths_of cs) (k + 1) ≡ packed_before (lengths_of cs) k + 8 + get_or (lengths_of cs) k (length d) = before_next (lengths_of cs) k (length d) (subst (λ n. k < n) (sym (length-map cs length)) l) in
    let whole : length (xorb_text cs ++ rest) ≡ length (xorb_text cs) + length rest = length-append (xorb_text cs) rest in
    let long = length-text cs in
    let part : sum (take (k + 1) (lengths_of cs)) ≤ sum (lengths_of cs) = sum-take (k + 1) (lengths_of cs) in
    (omega (arith, next), omega (arith, whole, long, part, l))
  where
    sum-take : (k : ℕ) (ns : List ℕ) → sum (take k ns) ≤ sum ns
    sum-take zero ns = omega arith
    sum-take (suc k) [] = omega arith
    sum-take (suc k) (n ∷ ns) =
        let rest = sum-take k ns in
        let a : sum (n ∷ take k ns) ≡ n + sum (take k ns) = sum-cons n (take k ns) in
        let b : sum (n ∷ ns) ≡ n + sum ns = sum-cons n ns in
        omega (arith, rest, a, b)

-- ---- a stored xorb

-- what stands behind the chunks
pub tail_of : Chunks → List ℕ
tail_of cs = footer_bytes (object_of cs) ++ le32 (44 + 40 * length cs)

pub text_is : (cs : Chunks) → xorb_bytes cs ≡ xorb_text cs ++ tail_of cs
unfolding xorb_bytes tail_of
text_is cs = refl

-- the text with a list's footer is kept as that list
pub kept_text : (text : List ℕ) (cs : Chunks) (object : Xorb) → IsWellFormed cs → object ≡ object_of cs → text ≡ xorb_bytes cs → (chunks_in text object.lengths ≡ cs) × IsKeptXorb text object
kept_text text cs object formed is whole =
    let cut : chunks_in text object.lengths ≡ cs =
    ap (λ (t : List ℕ). chunks_in t object.lengths) (whole ∙ text_is cs) ∙ ap (λ (x : Xorb). chunks_in (xorb_text cs ++ tail_of cs) x.lengths) is ∙ chunks_in_text cs (tail_of cs) in (
      cut,
      record {
        formed = subst IsWellFormed (sym cut) formed;
        object = is ∙ ap object_of (sym cut);
        text = whole ∙ ap xorb_bytes (sym cut);
      },
    )

-- chunk k of a stored xorb is the text between its places
pub kept_chunk : (cs : Chunks) (k : ℕ) (d : List ℕ) → k < length cs → slice_range (xorb_bytes cs) (packed_before (lengths_of cs) k + 8) (packed_before (lengths_of cs) (k + 1)) ≡ get_or cs k d
kept_chunk cs k d l = ap (λ (t : List ℕ). slice_range t (packed_before (lengths_of cs) k + 8) (packed_before (lengths_of cs) (k + 1))) (text_is cs) ∙ chunk_at cs (tail_of cs) k d l

pub kept_within : (cs : Chunks) (k : ℕ) (d : List ℕ) → k < length cs → (packed_before (lengths_of cs) k + 8 ≤ packed_before (lengths_of cs) (k + 1)) × (packed_before (lengths_of cs) (k + 1) ≤ length (xorb_bytes cs))
kept_within cs k d l = subst (λ (t : List ℕ). (packed_before (lengths_of cs) k + 8 ≤ packed_before (lengths_of cs) (k + 1)) × (packed_before (lengths_of cs) (k + 1) ≤ length t)) (sym (text_is cs)) (chunk_within cs (tail_of cs) k d l)

-- ---- ranges of chunks

get_drop : {X : Type 0} (xs : List X) (s j : ℕ) (d : X) → get_or (drop s xs) j d ≡ get_or xs (s + j) d
get_drop xs zero j d = ap (λ n. get_or xs n d) (let e : j ≡ 0 + j = omega arith in e)
get_drop [] (suc s) j d = refl
get_drop (x ∷ xs) (suc s) j d = get_drop xs s j d ∙ ap (λ n. get_or (x ∷ xs) n d) (let e : suc (s + j) ≡ suc s + j = omega arith in e)

-- one more chunk
pub range_more : (xs : Chunks) (s k : ℕ) (d : List ℕ) → s ≤ k → k < length xs → slice_range xs s (k + 1) ≡ slice_range xs s k ++ get_or xs k d ∷ []
range_more xs s k d from l =
    let rest = drop s xs in
    let inside : k - s < length rest = omega (arith, from, l, length-drop s xs) in
    let n : k + 1 - s ≡ (k - s) + 1 = omega (arith, from) in
    let at : s + (k - s) ≡ k = omega (arith, from) in
    ap (λ m. take m rest) n ∙ take_more rest (k - s) d inside ∙ ap (λ (c : List ℕ). take (k - s) rest ++ c ∷ []) (get_drop xs s (k - s) d ∙ ap (λ m. get_or xs m d) at)

pub concat_push : (xs : Chunks) (x : List ℕ) → concat (xs ++ x ∷ []) ≡ concat xs ++ x
concat_push [] x = append-nil x
concat_push (y ∷ ys) x = ap (λ (t : List ℕ). y ++ t) (concat_push ys x) ∙ sym (append_assoc y (concat ys) x)

-- a range that ends at the last chunk, or past it
pub range_ends : (xs : Chunks) (s e k last : ℕ) → last ≡ min e (length xs) → last ≤ k → k ≤ max s last → slice_range xs s k ≡ slice_range xs s e
range_ends xs s e k last is from upto =
    elim (cases_lt (length xs) e) as (λ _. slice_range xs s k ≡ slice_range xs s e) [
      | inl l ↦
          (let long = length-drop s xs in
          take_all (k - s) (drop s xs) (omega (arith, long, is, from, l)) ∙ sym (take_all (e - s) (drop s xs) (omega (arith, long, l))))
      | inr l ↦ ap (λ n. take n (drop s xs)) (let same : k - s ≡ e - s = omega (arith, is, from, upto, l) in same)
    ]

-- a range of one chunk that is there
pub one_of_range : (xs : Chunks) (s e last : ℕ) (d : List ℕ) → last ≡ min e (length xs) → last - s ≡ 1 → slice_range xs s e ≡ get_or xs s d ∷ []
one_of_range xs s e last d is one =
    sym (range_ends xs s e (s + 1) last is (omega (arith, one)) (omega (arith, one)))
    ∙ range_more xs s s d (omega arith) (omega (arith, one, is))
    ∙ ap (λ n. take n (drop s xs) ++ get_or xs s d ∷ []) (let none : s - s ≡ 0 = omega arith in none)
