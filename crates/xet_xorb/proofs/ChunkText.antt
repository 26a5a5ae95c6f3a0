-- Chunks one after another: what their text fixes, and how far it has been read.
use Rattle.std.proofs.Common.{◌≡◌, ℕ, ◌+◌, ◌^◌, ◌<◌, ◌≤◌, Bool, true, false, ◌&&◌, ltb, eqb, eq-eqb, List, [], ◌∷◌, ◌++◌, length, take, drop, All, Some, None, refl, sym, ap, subst, ◌∙◌, append_assoc, arith}
use Rattle.std.specs.List.{AllByRecursion}
use Rattle.std.specs.Prelude.{Err}
use Rattle.std.proofs.lemmas.Bool.{eqb-true, ltb-true, lt-ltb}
use Rattle.std.proofs.lemmas.List.{append-nil, length-append, length-map, length-take, take_at, drop_at, take-append-drop}
use Rattle.std.proofs.lemmas.List.Concat.{flat_map-cons}
use Rattle.std.proofs.lemmas.List.Sums.{sum_by-cons}
use Rattle.std.proofs.lemmas.List.Elements.{All-from_recursion, recursion_from_All}
use Rattle.xet_bytes.specs.declared.cursor.ReadError.{ReadError}
use Rattle.xet_bytes.specs.declared.cursor.ReadError.TheVariants.{Memory, Malformed}
use Rattle.xet_bytes.specs.Fields.{le24}
use Rattle.xet_bytes.specs.Reading.{Gives}
use Rattle.xet_bytes.proofs.FieldLaws.{IsBytes, IsField, le24_field, literal_field, pair_field, such_field, view_field, fits_field, some_is}
use Rattle.xet_xorb.specs.Lengths.{IsChunkLength, serialized_length}
use Rattle.xet_xorb.specs.ChunkLists.{IsChunk, IsWellFormed, lengths_of}
use Rattle.xet_xorb.specs.XorbBytes.{header_bytes, chunk_bytes, xorb_text}
use Rattle.xet_xorb.specs.Steps.{same_lengths, stored_of, header_at, HasHeader, ReadsHeader, HasChunk, TakesChunk, at_chunks_end, BeginsWith, ReadsParts}

-- ---- a header

and_true : (a b : Bool) → (a && b) ≡ true → (a ≡ true) × (b ≡ true)
and_true true b e = (refl, e)
and_true false b e = absurd cc

pub header_field : IsField header_at header_bytes IsChunkLength
header_field =
    fits_field header_at header_bytes (λ n. (Unit {0} × ((n < 2 ^ 24) × (Unit {0} × (n < 2 ^ 24)))) × (same_lengths (tt, (n, (tt, n))) ≡ true)) IsChunkLength
    (λ n h. (ltb-true 0 n (and_true (eqb n n) (ltb 0 n) h.1).1, h.0.1.0))
    (λ n h. ((tt, (h.1, (tt, h.1))), rw (eq-eqb n n refl, lt-ltb 0 n h.0) refl))
    (view_field stored_of (λ n. (tt, (n, (tt, n)))) _ _ _
    (λ p h. ap (λ (m : ℕ). (tt, (p.1.0, (tt, m)))) (eqb-true p.1.0 p.1.1.1 (and_true (eqb p.1.0 p.1.1.1) (ltb 0 p.1.0) h.1).0))
    (λ _. refl)
    (such_field same_lengths _ _ _ (pair_field _ _ _ _ _ _ (literal_field (0 ∷ [])) (pair_field _ _ _ _ _ _ le24_field (pair_field _ _ _ _ _ _ (literal_field (0 ∷ [])) le24_field)))))

pub length-header : (n : ℕ) → length (header_bytes n) ≡ 8
unfolding le24
length-header n = refl

pub has_header : (bytes : List ℕ) (n : ℕ) (rest : List ℕ) → IsBytes bytes → header_at bytes ≡ Some (n, rest) → HasHeader bytes n
has_header bytes n rest fits e =
    let taken = header_field.takes bytes (n, rest) fits e in
    let left : drop 8 bytes ≡ rest = ap (drop 8) taken.0.parts ∙ drop_at (header_bytes n) rest 8 (length-header n) in
    record {
      fits = taken.1;
      long = omega (arith, ap length taken.0.parts, length-append (header_bytes n) rest, length-header n);
      text = taken.0.parts ∙ ap (λ (t : List ℕ). header_bytes n ++ t) (sym left);
    }

no_header : (bytes : List ℕ) → header_at bytes ≡ None → (n : ℕ) (rest : List ℕ) → IsChunkLength n → bytes ≡ header_bytes n ++ rest → ⊥
no_header bytes e n rest fits text =
    let again : header_at bytes ≡ Some (n, rest) = ap header_at text ∙ header_field.again n rest fits in
    absurd cc

pub header_ends : (e : ReadError) (bytes left : List ℕ) → Gives {X = ℕ} (λ n. n) (Err e) left (header_at bytes) → ReadsHeader bytes (Err e)
header_ends Memory bytes left h = tt
header_ends Malformed bytes left h = no_header bytes h

-- a text begins with one header at most
pub record SameHeader (n m : ℕ) (a b : List ℕ) : Type 0 where
  pub length : n ≡ m
  pub rest : a ≡ b

same_header : (n m : ℕ) (a b : List ℕ) → IsChunkLength n → IsChunkLength m → header_bytes n ++ a ≡ header_bytes m ++ b → SameHeader n m a b
same_header n m a b fits fits' e =
    let one : header_at (header_bytes m ++ b) ≡ Some (n, a) = ap header_at (sym e) ∙ header_field.again n a fits in
    let same : ◌≡◌ {A = ℕ × List ℕ} (n, a) (m, b) = some_is (n, a) (m, b) (sym one ∙ header_field.again m b fits') in
    record { length = ap (λ (p : ℕ × List ℕ). p.0) same; rest = ap (λ (p : ℕ × List ℕ). p.1) same }

-- ---- a chunk

pub no_chunk : {X : Type 0} (chunk after : X → List ℕ) (e : ReadError) (bytes : List ℕ) → ReadsHeader bytes (Err e) → TakesChunk chunk bytes (Err e) after
no_chunk chunk after Memory bytes h = tt
no_chunk chunk after Malformed bytes h = λ first rest has. h (length first) (first ++ rest) has.fits (has.text ∙ append_assoc (header_bytes (length first)) first rest)

-- the bytes behind the header are fewer than it says
pub too_short : (bytes : List ℕ) (n : ℕ) → HasHeader bytes n → length (drop 8 bytes) < n → (first after : List ℕ) → HasChunk bytes first after → ⊥
too_short bytes n h short first after has =
    let same = same_header n (length first) (drop 8 bytes) (first ++ after) h.fits has.fits (sym h.text ∙ has.text ∙ append_assoc (header_bytes (length first)) first after) in
    absurd (omega (arith, same.length, ap length same.rest, length-append first after))

pub has_chunk : (bytes : List ℕ) (n : ℕ) → HasHeader bytes n → n ≤ length (drop 8 bytes) → HasChunk bytes (take n (drop 8 bytes)) (drop n (drop 8 bytes))
has_chunk bytes n h enough =
    let chunk = take n (drop 8 bytes) in
    let rest = drop n (drop 8 bytes) in
    let len : length chunk ≡ n = omega (arith, length-take n (drop 8 bytes)) in
    record {
      fits = subst IsChunkLength (sym len) h.fits;
      text = h.text ∙ ap (λ (t : List ℕ). header_bytes n ++ t) (sym (take-append-drop n (drop 8 bytes))) ∙ sym (append_assoc (header_bytes n) chunk rest) ∙ ap (λ (k : ℕ). (header_bytes k ++ chunk) ++ rest) (sym len);
    }

-- a text begins with one chunk at most
pub record SameChunk (a b x y : List ℕ) : Type 0 where
  pub chunk : a ≡ b
  pub rest : x ≡ y

pub same_chunk : (a b x y : List ℕ) → IsChunk a → IsChunk b → chunk_bytes a ++ x ≡ chunk_bytes b ++ y → SameChunk a b x y
same_chunk a b x y fits fits' e =
    let same = same_header (length a) (length b) (a ++ x) (b ++ y) fits fits' (sym (append_assoc (header_bytes (length a)) a x) ∙ e ∙ append_assoc (header_bytes (length b)) b y) in
    record {
      chunk = sym (take_at a x (length a) refl) ∙ ap (take (length a)) same.rest ∙ take_at b y (length a) (sym same.length);
      rest = sym (drop_at a x (length a) refl) ∙ ap (drop (length a)) same.rest ∙ drop_at b y (length a) (sym same.length);
    }

-- a chunk takes bytes
pub shorter : (bytes chunk rest : List ℕ) → HasChunk bytes chunk rest → length rest < length bytes
shorter bytes chunk rest h = omega (arith, ap length h.text, length-append (chunk_bytes chunk) rest, length-append (header_bytes (length chunk)) chunk, h.fits.0)

-- ---- a list

pub text-push : (chunks : List (List ℕ)) (chunk : List ℕ) → xorb_text (chunks ++ chunk ∷ []) ≡ xorb_text chunks ++ chunk_bytes chunk
text-push [] chunk = flat_map-cons chunk_bytes chunk [] ∙ append-nil (chunk_bytes chunk)
text-push (c ∷ cs) chunk = flat_map-cons chunk_bytes c (cs ++ chunk ∷ []) ∙ ap (λ (t : List ℕ). chunk_bytes c ++ t) (text-push cs chunk) ∙ sym (append_assoc (chunk_bytes c) (xorb_text cs) (chunk_bytes chunk)) ∙ ap (λ (t : List ℕ). t ++ chunk_bytes chunk) (sym (flat_map-cons chunk_bytes c cs))

each-push : (xs : List (List ℕ)) (x : List ℕ) → AllByRecursion IsChunk xs → IsChunk x → AllByRecursion IsChunk (xs ++ x ∷ [])
each-push [] x h p = (p, tt)
each-push (y ∷ ys) x h p = (h.0, each-push ys x h.1 p)

each_of_lengths : (chunks : List (List ℕ)) → AllByRecursion IsChunkLength (lengths_of chunks) → AllByRecursion IsChunk chunks
each_of_lengths [] h = tt
each_of_lengths (c ∷ cs) h = (h.0, each_of_lengths cs h.1)

pub lengths_of_each : (chunks : List (List ℕ)) → AllByRecursion IsChunk chunks → AllByRecursion IsChunkLength (lengths_of chunks)
lengths_of_each [] h = tt
lengths_of_each (c ∷ cs) h = (h.0, lengths_of_each cs h.1)

pub each_of_formed : (chunks : List (List ℕ)) → IsWellFormed chunks → AllByRecursion IsChunk chunks
each_of_formed chunks h = each_of_lengths chunks (recursion_from_All IsChunkLength (lengths_of chunks) h.lengths.each)

-- other chunks, whose text and a tail is the text of these and a rest, are these and more
pub record GoesOn (chunks others : List (List ℕ)) (tail rest : List ℕ) : Type 0 where
  pub more : List (List ℕ)
  pub is : others ≡ chunks ++ more
  pub each : AllByRecursion IsChunk more
  pub text : rest ≡ xorb_text more ++ tail

-- a chunk does not begin where chunks end
not_ended : (tail c rest : List ℕ) → at_chunks_end tail ≡ true → tail ≡ chunk_bytes c ++ rest → ⊥
not_ended tail c rest ends e = let no : at_chunks_end (chunk_bytes c ++ rest) ≡ true = ap at_chunks_end (sym e) ∙ ends in absurd cc

-- the first chunk's text, before the others' and a tail
first-text : (c : List ℕ) (cs : List (List ℕ)) (tail : List ℕ) → xorb_text (c ∷ cs) ++ tail ≡ chunk_bytes c ++ (xorb_text cs ++ tail)
first-text c cs tail = ap (λ (t : List ℕ). t ++ tail) (flat_map-cons chunk_bytes c cs) ∙ append_assoc (chunk_bytes c) (xorb_text cs) tail

pub goes_on : (chunks others : List (List ℕ)) (tail rest : List ℕ) → AllByRecursion IsChunk chunks → AllByRecursion IsChunk others → at_chunks_end tail ≡ true → xorb_text others ++ tail ≡ xorb_text chunks ++ rest → GoesOn chunks others tail rest
goes_on [] others tail rest h k ends e = record { more = others; is = refl; each = k; text = sym e }
goes_on (c ∷ cs) [] tail rest h k ends e = absurd (not_ended tail c (xorb_text cs ++ rest) ends (e ∙ first-text c cs rest))
goes_on (c ∷ cs) (o ∷ os) tail rest h k ends e =
    let same = same_chunk o c (xorb_text os ++ tail) (xorb_text cs ++ rest) k.0 h.0 (sym (first-text o os tail) ∙ e ∙ first-text c cs rest) in
    let more = goes_on cs os tail rest h.1 k.1 ends same.rest in
    record {
      more = more.more;
      is = ap (λ (x : List ℕ). x ∷ os) same.chunk ∙ ap (λ (xs : List (List ℕ)). c ∷ xs) more.is;
      each = more.each;
      text = more.text;
    }

pub no_more : (chunks : List (List ℕ)) (tail rest : List ℕ) → at_chunks_end rest ≡ true → rest ≡ xorb_text chunks ++ tail → chunks ≡ []
no_more [] tail rest ends e = refl
no_more (c ∷ cs) tail rest ends e = absurd (not_ended rest c (xorb_text cs ++ tail) ends (e ∙ first-text c cs tail))

-- a text without a tail
bare : (bytes : List ℕ) (chunks : List (List ℕ)) → bytes ≡ xorb_text chunks → bytes ≡ xorb_text chunks ++ []
bare bytes chunks e = e ∙ sym (append-nil (xorb_text chunks))

-- Chunks and what stands behind them are fixed by their text.
pub record SameParts (xs ys : List (List ℕ)) (a b : List ℕ) : Type 0 where
  pub chunks : xs ≡ ys
  pub rest : a ≡ b

pub same_parts : (xs ys : List (List ℕ)) (a b : List ℕ) → AllByRecursion IsChunk xs → AllByRecursion IsChunk ys → at_chunks_end a ≡ true → at_chunks_end b ≡ true → xorb_text xs ++ a ≡ xorb_text ys ++ b → SameParts xs ys a b
same_parts xs ys a b h k ends ends' e =
    let more = goes_on ys xs a b k h ends e in
    let none : more.more ≡ [] = no_more more.more a b ends' more.text in
    record {
      chunks = more.is ∙ ap (λ (zs : List (List ℕ)). ys ++ zs) none ∙ append-nil ys;
      rest = sym (more.text ∙ ap (λ (zs : List (List ℕ)). xorb_text zs ++ a) none);
    }

pub xorb_text-injective : (xs ys : List (List ℕ)) → All IsChunk xs → All IsChunk ys → xorb_text xs ≡ xorb_text ys → xs ≡ ys
xorb_text-injective xs ys h k e =
    (same_parts xs ys [] [] (recursion_from_All IsChunk xs h) (recursion_from_All IsChunk ys k) refl refl (ap (λ (t : List ℕ). t ++ []) e)).chunks

pub lengths-length : (chunks : List (List ℕ)) → length (lengths_of chunks) ≡ length chunks
lengths-length chunks = length-map chunks length

-- ---- reading to the end

pub some_left : {X : Type 0} (xs : List X) → eqb (length xs) 0 ≡ false → 0 < length xs
some_left [] e = absurd cc
some_left (x ∷ xs) e = omega arith

pub none_left : {X : Type 0} (xs : List X) → eqb (length xs) 0 ≡ true → xs ≡ []
none_left [] e = refl
none_left (x ∷ xs) e = absurd (omega (arith, eqb-true (length (x ∷ xs)) 0 e))

-- the chunks so far, and the bytes that are left
pub record IsReadSoFar (bytes : List ℕ) (chunks : List (List ℕ)) (rest : List ℕ) : Type 0 where
  pub each : AllByRecursion IsChunk chunks
  pub text : bytes ≡ xorb_text chunks ++ rest

pub reads_on : (bytes : List ℕ) (chunks : List (List ℕ)) (rest chunk after : List ℕ) → IsReadSoFar bytes chunks rest → HasChunk rest chunk after → IsReadSoFar bytes (chunks ++ chunk ∷ []) after
reads_on bytes chunks rest chunk after h has = record {
  each = each-push chunks chunk h.each has.fits;
  text = h.text ∙ ap (λ (t : List ℕ). xorb_text chunks ++ t) has.text ∙ sym (append_assoc (xorb_text chunks) (chunk_bytes chunk) after) ∙ ap (λ (t : List ℕ). t ++ after) (sym (text-push chunks chunk));
}

others_go_on_behind : (bytes : List ℕ) (chunks others : List (List ℕ)) (tail rest : List ℕ) → IsReadSoFar bytes chunks rest → AllByRecursion IsChunk others → at_chunks_end tail ≡ true → bytes ≡ xorb_text others ++ tail → GoesOn chunks others tail rest
others_go_on_behind bytes chunks others tail rest h k ends e = goes_on chunks others tail rest h.each k ends (sym e ∙ h.text)

pub others_go_on : (bytes : List ℕ) (chunks others : List (List ℕ)) (rest : List ℕ) → IsReadSoFar bytes chunks rest → AllByRecursion IsChunk others → bytes ≡ xorb_text others → GoesOn chunks others [] rest
others_go_on bytes chunks others rest h k e = others_go_on_behind bytes chunks others [] rest h k refl (bare bytes others e)

-- what does not begin with a chunk, and is not the tail, is no list before the tail
none_begins : (tail rest : List ℕ) (more : List (List ℕ)) → (rest ≡ tail → ⊥) → ((first after : List ℕ) → HasChunk rest first after → ⊥) → AllByRecursion IsChunk more → rest ≡ xorb_text more ++ tail → ⊥
none_begins tail rest [] other none k e = other e
none_begins tail rest (c ∷ cs) other none k e = none c (xorb_text cs ++ tail) (record { fits = k.0; text = e ∙ first-text c cs tail })

stops_behind : (bytes : List ℕ) (chunks others : List (List ℕ)) (tail rest : List ℕ) → (rest ≡ tail → ⊥) → IsReadSoFar bytes chunks rest → ((first after : List ℕ) → HasChunk rest first after → ⊥) → AllByRecursion IsChunk others → at_chunks_end tail ≡ true → bytes ≡ xorb_text others ++ tail → ⊥
stops_behind bytes chunks others tail rest other h none k ends e =
    let more = others_go_on_behind bytes chunks others tail rest h k ends e in
    none_begins tail rest more.more other none more.each more.text

pub stops : (bytes : List ℕ) (chunks others : List (List ℕ)) (rest : List ℕ) → 0 < length rest → IsReadSoFar bytes chunks rest → ((first after : List ℕ) → HasChunk rest first after → ⊥) → AllByRecursion IsChunk others → bytes ≡ xorb_text others → ⊥
stops bytes chunks others rest some h none k e = stops_behind bytes chunks others [] rest (λ end. absurd (omega (arith, ap length end, some))) h none k refl (bare bytes others e)

-- where no chunk is taken, and chunks don't end, no list has this text
pub stops_by : {X : Type 0} (chunk after : X → List ℕ) (e : ReadError) (bytes : List ℕ) (chunks : List (List ℕ)) (rest : List ℕ) → at_chunks_end rest ≡ false → IsReadSoFar bytes chunks rest → TakesChunk chunk rest (Err e) after → ReadsParts bytes (Err e)
stops_by chunk after Memory bytes chunks rest on h e = tt
stops_by chunk after Malformed bytes chunks rest on h e = λ others tail are.
    stops_behind bytes chunks others tail rest (λ same. let no : at_chunks_end rest ≡ true = ap at_chunks_end same ∙ are.ends in absurd cc) h e (each_of_formed others are.formed) are.ends are.text

-- at the end the chunks are the only ones
pub is_done : (bytes : List ℕ) (chunks others : List (List ℕ)) (rest : List ℕ) → IsReadSoFar bytes chunks rest → rest ≡ [] → AllByRecursion IsChunk others → bytes ≡ xorb_text others → others ≡ chunks
is_done bytes chunks others rest h end k e =
    (same_parts others chunks [] rest k h.each refl (ap at_chunks_end end) (sym (bare bytes others e) ∙ h.text)).chunks

-- ---- lengths

serialized-cons : (n : ℕ) (ns : List ℕ) → serialized_length (n ∷ ns) ≡ 48 + n + serialized_length ns
serialized-cons n ns = omega (arith, sum_by-cons (λ (x : ℕ). x) n ns)

pub serialized-append : (xs ys : List (List ℕ)) → serialized_length (lengths_of (xs ++ ys)) + 48 ≡ serialized_length (lengths_of xs) + serialized_length (lengths_of ys)
serialized-append [] ys = omega arith
serialized-append (x ∷ xs) ys = omega (arith, serialized-cons (length x) (lengths_of (xs ++ ys)), serialized-cons (length x) (lengths_of xs), serialized-append xs ys)

pub serialized-push : (chunks : List (List ℕ)) (chunk : List ℕ) → serialized_length (lengths_of (chunks ++ chunk ∷ [])) ≡ serialized_length (lengths_of chunks) + (48 + length chunk)
serialized-push chunks chunk = omega (arith, serialized-append chunks (chunk ∷ []), serialized-cons (length chunk) [])

-- with so many bytes already no list is short enough
pub too_long : (bytes : List ℕ) (chunks others : List (List ℕ)) (tail rest : List ℕ) → IsReadSoFar bytes chunks rest → 2 ^ 32 ≤ serialized_length (lengths_of chunks) → BeginsWith bytes others tail → ⊥
too_long bytes chunks others tail rest h long are =
    let more = others_go_on_behind bytes chunks others tail rest h (each_of_formed others are.formed) are.ends are.text in
    let len : serialized_length (lengths_of others) ≡ serialized_length (lengths_of (chunks ++ more.more)) = ap (λ (xs : List (List ℕ)). serialized_length (lengths_of xs)) more.is in
    let short : serialized_length (lengths_of others) < 2 ^ 32 = are.formed.lengths.short in
    let sums = serialized-append chunks more.more in
    absurd (omega (arith, len, short, sums, long))

pub begins_with : (bytes : List ℕ) (chunks : List (List ℕ)) (rest : List ℕ) → IsReadSoFar bytes chunks rest → at_chunks_end rest ≡ true → 0 < length chunks → serialized_length (lengths_of chunks) < 2 ^ 32 → BeginsWith bytes chunks rest
begins_with bytes chunks rest h ends some short = record {
  formed = record {
    lengths = record {
      some = omega (arith, lengths-length chunks);
      each = All-from_recursion IsChunkLength (lengths_of chunks) (lengths_of_each chunks h.each);
      short = short;
    };
  };
  text = h.text;
  ends = ends;
}

-- no chunks are no xorb
pub is_empty : (bytes : List ℕ) (chunks others : List (List ℕ)) (tail rest : List ℕ) → IsReadSoFar bytes chunks rest → at_chunks_end rest ≡ true → length chunks ≡ 0 → BeginsWith bytes others tail → ⊥
is_empty bytes chunks others tail rest h ends none are =
    let same = same_parts others chunks tail rest (each_of_formed others are.formed) h.each are.ends ends (sym are.text ∙ h.text) in
    let some : 0 < length (lengths_of others) = are.formed.lengths.some in
    absurd (omega (arith, ap length same.chunks, none, some, lengths-length others))

-- Bytes begin with the chunks of one list.
pub BeginsWith-unique : (bytes : List ℕ) (xs ys : List (List ℕ)) (a b : List ℕ) → BeginsWith bytes xs a → BeginsWith bytes ys b → SameParts xs ys a b
BeginsWith-unique bytes xs ys a b h k = same_parts xs ys a b (each_of_formed xs h.formed) (each_of_formed ys k.formed) h.ends k.ends (sym h.text ∙ k.text)
