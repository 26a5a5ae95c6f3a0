-- Chunks joined one after another, with their offsets.
use Rattle.std.proofs.Common.{◌≡◌, ℕ, ◌+◌, ◌^◌, ◌<◌, ◌≤◌, List, [], ◌∷◌, ◌++◌, length, sum, refl, sym, ap, ◌∙◌, arith}
use Rattle.std.specs.Prelude.{Err}
use Rattle.std.specs.List.{AllByRecursion}
use Rattle.std.proofs.lemmas.List.{append-nil, map-append}
use Rattle.std.proofs.lemmas.List.Concat.{flat_map-append, flat_map-cons}
use Rattle.std.proofs.lemmas.List.Sums.{sum_by-cons}
use Rattle.std.proofs.lemmas.List.Elements.{All-from_recursion, recursion_from_All}
use Rattle.xet_bytes.specs.declared.cursor.ReadError.{ReadError}
use Rattle.xet_bytes.specs.declared.cursor.ReadError.TheVariants.{Memory, Malformed}
use Rattle.xet_xorb.specs.ChunkLists.{IsChunk, lengths_of, joined}
use Rattle.xet_xorb.specs.XorbBytes.{xorb_text, running_sums}
use Rattle.xet_xorb.specs.Steps.{HasChunk, TakesChunk}
use Rattle.xet_xorb.specs.JoinedChunks.{AreShortChunksOf, offsets_of, AreJoined, JoinsChunks}
use Rattle.xet_xorb.proofs.ChunkText.{IsReadSoFar, reads_on, others_go_on, stops, is_done}

-- ---- sums

pub sum-append : (xs ys : List ℕ) → sum (xs ++ ys) ≡ sum xs + sum ys
sum-append [] ys = omega arith
sum-append (x ∷ xs) ys = omega (arith, sum_by-cons (λ (n : ℕ). n) x (xs ++ ys), sum_by-cons (λ (n : ℕ). n) x xs, sum-append xs ys)

pub running_sums-push : (from : ℕ) (ns : List ℕ) (n : ℕ) → running_sums from (ns ++ n ∷ []) ≡ running_sums from ns ++ (from + sum ns + n) ∷ []
running_sums-push from [] n = ap (λ (k : ℕ). k ∷ []) (omega arith)
running_sums-push from (m ∷ ns) n =
    let last : from + m + sum ns + n ≡ from + sum (m ∷ ns) + n = omega (arith, sum_by-cons (λ (x : ℕ). x) m ns) in
    ap (λ (t : List ℕ). (from + m) ∷ t) (running_sums-push (from + m) ns n ∙ ap (λ (k : ℕ). running_sums (from + m) ns ++ k ∷ []) last)

joined-push : (chunks : List (List ℕ)) (chunk : List ℕ) → joined (chunks ++ chunk ∷ []) ≡ joined chunks ++ chunk
joined-push chunks chunk = flat_map-append (λ (c : List ℕ). c) chunks (chunk ∷ []) ∙ ap (λ (t : List ℕ). joined chunks ++ t) (flat_map-cons (λ (c : List ℕ). c) chunk [] ∙ append-nil chunk)

lengths-push : (chunks : List (List ℕ)) (chunk : List ℕ) → lengths_of (chunks ++ chunk ∷ []) ≡ lengths_of chunks ++ length chunk ∷ []
lengths-push chunks chunk = map-append length chunks (chunk ∷ [])

-- ---- as far as the bytes have been read

pub record AreJoinedSoFar (bytes all offsets rest : List ℕ) (end : ℕ) : Type 0 where
  pub chunks : List (List ℕ)
  pub so_far : IsReadSoFar bytes chunks rest
  pub text : all ≡ joined chunks
  pub places : offsets ≡ offsets_of (lengths_of chunks)
  pub last : end ≡ sum (lengths_of chunks)
  pub short : end < 2 ^ 32

pub begins : (bytes all offsets : List ℕ) → all ≡ [] → offsets ≡ 0 ∷ [] → AreJoinedSoFar bytes all offsets bytes 0
begins bytes all offsets none zero = record { chunks = []; so_far = record { each = tt; text = refl }; text = none; places = zero; last = refl; short = omega arith }

pub joins_on : (bytes all offsets rest : List ℕ) (end : ℕ) (chunk after : List ℕ) → AreJoinedSoFar bytes all offsets rest end → HasChunk rest chunk after → end + length chunk < 2 ^ 32 → AreJoinedSoFar bytes (all ++ chunk) (offsets ++ (end + length chunk) ∷ []) after (end + length chunk)
joins_on bytes all offsets rest end chunk after h has short =
    let ns = lengths_of h.chunks in
    let next : end + length chunk ≡ 0 + sum ns + length chunk = omega (arith, h.last) in
    record {
      chunks = h.chunks ++ chunk ∷ [];
      so_far = reads_on bytes h.chunks rest chunk after h.so_far has;
      text = ap (λ (t : List ℕ). t ++ chunk) h.text ∙ sym (joined-push h.chunks chunk);
      places = ap (λ (t : List ℕ). t ++ (end + length chunk) ∷ []) h.places ∙ ap (λ (k : ℕ). offsets_of ns ++ k ∷ []) next ∙ ap (λ (t : List ℕ). 0 ∷ t) (sym (running_sums-push 0 ns (length chunk))) ∙ ap offsets_of (sym (lengths-push h.chunks chunk));
      last = omega (arith, h.last, ap sum (lengths-push h.chunks chunk), sum-append ns (length chunk ∷ []), sum_by-cons (λ (x : ℕ). x) (length chunk) []);
      short = short;
    }

each_of : (bytes : List ℕ) (others : List (List ℕ)) → AreShortChunksOf bytes others → AllByRecursion IsChunk others
each_of bytes others are = recursion_from_All IsChunk others are.spelled.each

-- where no chunk is taken, the bytes are no chunks
pub stops_by : {X : Type 0} (chunk after : X → List ℕ) (e : ReadError) (bytes all offsets rest : List ℕ) (end : ℕ) → 0 < length rest → AreJoinedSoFar bytes all offsets rest end → TakesChunk chunk rest (Err e) after → JoinsChunks bytes (Err e)
stops_by chunk after Memory bytes all offsets rest end some h e = tt
stops_by chunk after Malformed bytes all offsets rest end some h e = λ others are. stops bytes h.chunks others rest some h.so_far e (each_of bytes others are) are.spelled.text

-- the lengths so far sum to too much
pub too_long : (bytes all offsets rest : List ℕ) (end : ℕ) (chunk after : List ℕ) (others : List (List ℕ)) → AreJoinedSoFar bytes all offsets rest end → HasChunk rest chunk after → 2 ^ 32 ≤ end + length chunk → AreShortChunksOf bytes others → ⊥
too_long bytes all offsets rest end chunk after others h has long are =
    let chunks = h.chunks ++ chunk ∷ [] in
    let more = others_go_on bytes chunks others after (reads_on bytes h.chunks rest chunk after h.so_far has) (each_of bytes others are) are.spelled.text in
    let whole : sum (lengths_of others) ≡ sum (lengths_of chunks) + sum (lengths_of more.more) = ap (λ (xs : List (List ℕ)). sum (lengths_of xs)) more.is ∙ ap sum (map-append length chunks more.more) ∙ sum-append (lengths_of chunks) (lengths_of more.more) in
    let part : sum (lengths_of chunks) ≡ sum (lengths_of h.chunks) + length chunk = ap sum (lengths-push h.chunks chunk) ∙ sum-append (lengths_of h.chunks) (length chunk ∷ []) ∙ ap (λ (k : ℕ). sum (lengths_of h.chunks) + k) (omega (arith, sum_by-cons (λ (x : ℕ). x) (length chunk) [])) in
    absurd (omega (arith, whole, part, h.last, are.short, long))

-- no bytes are no chunks
pub is_empty : (bytes : List ℕ) (others : List (List ℕ)) → bytes ≡ [] → AreShortChunksOf bytes others → ⊥
is_empty bytes others none are =
    let same : others ≡ [] = is_done bytes [] others [] (record { each = tt; text = none }) refl (each_of bytes others are) are.spelled.text in
    absurd (omega (arith, ap length same, are.some))

some_chunks : (bytes : List ℕ) (chunks : List (List ℕ)) → 0 < length bytes → bytes ≡ xorb_text chunks → 0 < length chunks
some_chunks bytes [] some e = absurd (omega (arith, ap length e, some))
some_chunks bytes (c ∷ cs) some e = omega arith

pub are_joined : (bytes all offsets rest : List ℕ) (end : ℕ) → AreJoinedSoFar bytes all offsets rest end → rest ≡ [] → 0 < length bytes → AreJoined bytes all offsets
are_joined bytes all offsets rest end h none some =
    let text : bytes ≡ xorb_text h.chunks = h.so_far.text ∙ ap (λ (t : List ℕ). xorb_text h.chunks ++ t) none ∙ append-nil (xorb_text h.chunks) in
    record {
      chunks = h.chunks;
      are = record {
        spelled = record { each = All-from_recursion IsChunk h.chunks h.so_far.each; text = text };
        some = some_chunks bytes h.chunks some text;
        short = omega (arith, h.last, h.short);
      };
      text = h.text;
      places = h.places;
    }
