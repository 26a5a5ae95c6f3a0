-- The files of a large run, and the sums of its summary.
use Rattle.std.proofs.Common.{◌≡◌, ◌∙◌, ℕ, suc, ◌+◌, ◌-◌, ◌^◌, ◌==◌, true, List, [], ◌++◌, length, map, min, replicate, slice_range, refl, sym, ap, arith, append-nil}
use Rattle.std.proofs.lemmas.Bool.{eq-eqb}
use Rattle.std.proofs.lemmas.List.{map-append, length-append}
use Rattle.std.proofs.lemmas.List.Elements.{All-from_recursion}
use Rattle.xet_types.specs.Names.{file_name}
use Rattle.xet_xorb.specs.Lengths.{IsChunkLength, AreLengths}
use Rattle.xet_xorb.specs.ChunkLists.{IsWellFormed}
use Rattle.xet_xorb.specs.Generated.{seeded_chunks, hash_and_size}
use Rattle.xet_xorb.proofs.Generating.{seeded_formed}
use Rattle.xet_xorb.proofs.Slices.{slice_range-map}
use Rattle.xet_generated.specs.Terms.{greatest_end, xorb_of, file_chunks}
use Rattle.xet_generated.specs.Shards.{generated_name, name_of_chunks}
use Rattle.xet_demo.specs.Summaries.{capped}
use Rattle.xet_demo.specs.Making.{made_terms, made_chunks, made_name, file_steps, made_steps}

-- ---- sums

-- a sum that stands still, after one more number
pub capped_more : (a n : ℕ) → min (capped a + n) (2 ^ 64 - 1) ≡ capped (a + n)
capped_more a n = omega arith

-- ---- the xorb of a file

chunk : IsChunkLength 256
chunk = (omega arith, omega arith)

five : AreLengths (replicate 5 256)
five = record {
  some = omega arith;
  each = All-from_recursion IsChunkLength (replicate 5 256) (chunk, (chunk, (chunk, (chunk, (chunk, tt)))));
  short = omega arith;
}

pub made_formed : (k : ℕ) → IsWellFormed (made_chunks k)
made_formed k = (seeded_formed k 5 256).1 five

greatest : (k : ℕ) → greatest_end (made_terms k) k ≡ 5
greatest k = let e : (k == k) ≡ true = eq-eqb k k refl in rw e refl

xorb_is : (k : ℕ) → xorb_of (made_terms k) 256 k ≡ made_chunks k
unfolding xorb_of
xorb_is k = ap (λ (n : ℕ). seeded_chunks k n 256) (greatest k)

-- ---- its name

pub name_is : (k : ℕ) → file_name (slice_range (map hash_and_size (made_chunks k)) 0 2 ++ slice_range (map hash_and_size (made_chunks k)) 3 5) (replicate 32 0) ≡ made_name k
unfolding made_name generated_name
name_is k =
    let cs : List (List ℕ) = made_chunks k in
    let front : List (List ℕ) = slice_range cs 0 2 in
    let back : List (List ℕ) = slice_range cs 3 5 in
    let parts : file_chunks (made_terms k) 256 ≡ front ++ back = ap (λ (ds : List (List ℕ)). slice_range ds 0 2 ++ (slice_range ds 3 5 ++ [])) (xorb_is k) ∙ ap (λ (ds : List (List ℕ)). front ++ ds) (append-nil back) in
    let pairs : slice_range (map hash_and_size cs) 0 2 ++ slice_range (map hash_and_size cs) 3 5 ≡ map hash_and_size (front ++ back) =
    ap (λ (ps : List (List ℕ × ℕ)). ps ++ slice_range (map hash_and_size cs) 3 5) (slice_range-map hash_and_size cs 0 2) ∙ ap (λ (ps : List (List ℕ × ℕ)). map hash_and_size front ++ ps) (slice_range-map hash_and_size cs 3 5) ∙ sym (map-append hash_and_size front back) in
    ap (λ (ps : List (List ℕ × ℕ)). file_name ps (replicate 32 0)) pairs ∙ ap name_of_chunks (sym parts)

-- ---- steps

-- with the steps of one more file
pub made_more : (k : ℕ) → made_steps (k + 1) ≡ made_steps k ++ file_steps k
made_more k = let e : k + 1 ≡ suc k = omega arith in rw e refl

-- ---- how many bytes pieces have

-- the bytes before those that are left were counted
pub record HasCounted (all left : List ℕ) (count : ℕ) : Type 0 where
  pub before : ℕ
  pub sum : length all ≡ before + length left
  pub is : count ≡ capped before

pub counts_from : (all left : List ℕ) → left ≡ all → HasCounted all left 0
counts_from all left same = record { before = 0; sum = omega (arith, ap length same); is = omega arith }

pub counts_on : (all left piece rest : List ℕ) (count next : ℕ) → HasCounted all left count → left ≡ piece ++ rest → next ≡ min (count + length piece) (2 ^ 64 - 1) → HasCounted all rest next
counts_on all left piece rest count next h is next_is = record {
  before = h.before + length piece;
  sum = omega (arith, h.sum, ap length is, length-append piece rest);
  is = next_is ∙ ap (λ (n : ℕ). min (n + length piece) (2 ^ 64 - 1)) h.is ∙ capped_more h.before (length piece);
}

pub has_counted : (all left : List ℕ) (count : ℕ) → HasCounted all left count → left ≡ [] → count ≡ capped (length all)
has_counted all left count h end =
    let e : h.before ≡ length all = omega (arith, h.sum, ap length end) in h.is ∙ ap capped e
