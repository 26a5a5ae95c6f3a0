-- A file that is put together of the xorbs of its seeds is the file of its terms.
use Rattle.std.proofs.Common.{◌≡◌, ◌∙◌, ℕ, suc, ◌+◌, ◌≤◌, ◌<◌, ◌^◌, ◌==◌, max, cond, Bool, true, false, List, [], ◌∷◌, ◌++◌, length, map, replicate, slice_range, Option, Some, None, refl, sym, ap, subst, arith}
use Rattle.std.specs.Prelude.{All, IfSome}
use Rattle.std.specs.List.{AllByRecursion, flat_map}
use Rattle.std.specs.Option.{unwrap_or}
use Rattle.std.specs.Ordering.{nat_cmp}
use Rattle.std.specs.Map.{lookup, values_of}
use Rattle.std.specs.BTreeMap.{is_at}
use Rattle.std.specs.FinMap.{entries, len, contains_key, from_entries, len-entries, len-empty, len-insert}
use Rattle.std.proofs.lemmas.Cmp.{nat_cmp_total}
use Rattle.std.proofs.lemmas.Bool.{eqb-true, eq-eqb}
use Rattle.std.proofs.lemmas.List.{length-map}
use Rattle.std.proofs.lemmas.List.Concat.{flat_map-append, flat_map-cons}
use Rattle.std.proofs.lemmas.List.Elements.{All-from_recursion, recursion_from_All}
use Rattle.std.proofs.lemmas.Map.Views.{IfSome-lookup_from_All}
use Rattle.xet_types.specs.Names.{chunk_hash, xorb_name}
use Rattle.xet_xorb.specs.Lengths.{AreLengths}
use Rattle.xet_xorb.specs.ChunkLists.{IsWellFormed, joined}
use Rattle.xet_xorb.specs.Generated.{generated, seeded_chunks, chunk_seeds, stream_of_seed}
use Rattle.xet_xorb.proofs.Generating.{length-words, seeded_formed}
use Rattle.xet_shard.specs.declared.listing.Segment.{Segment}
use Rattle.xet_generated.specs.Terms.{Chunks, Term, HasChunk, greatest_end, ends_of, xorb_of, xorbs_of, term_chunks, file_chunks, CanGenerate}
use Rattle.xet_generated.specs.Shards.{name_of_chunks, generated_name, generated_listing, term_segment}
use Rattle.xet_generated.specs.Contents.{TermModel, term_of, lazy_contents}
use Rattle.xet_generated.specs.Making.{IsCut, MadeFile, chunks_at, cut_of, segment_of, reference_of, seeded_under, file_among, made_file}
use Rattle.xet_generated.proofs.Ends.{at_is, names, named, end_found, entries_by}
use Rattle.xet_generated.proofs.Seeding.{few_chunks}

-- ---- lists

each_of : {X : Type 0} (P Q : X → Type 0) (xs : List X) → ((x : X) → P x → Q x) → AllByRecursion P xs → AllByRecursion Q xs
each_of P Q [] f all = tt
each_of P Q (x ∷ xs) f all = (f x all.0, each_of P Q xs f all.1)

both_of : {X : Type 0} (P Q R : X → Type 0) (xs : List X) → ((x : X) → P x → Q x → R x) → AllByRecursion P xs → AllByRecursion Q xs → AllByRecursion R xs
both_of P Q R [] f p q = tt
both_of P Q R (x ∷ xs) f p q = (f x p.0 q.0, both_of P Q R xs f p.1 q.1)

map_same : {X Y : Type 0} (f g : X → Y) (xs : List X) → AllByRecursion (λ x. f x ≡ g x) xs → map f xs ≡ map g xs
map_same f g [] same = refl
map_same {X} {Y} f g (x ∷ xs) same = ap (λ (y : Y). y ∷ map f xs) same.0 ∙ ap (λ (ys : List Y). g x ∷ ys) (map_same f g xs same.1)

flat_same : {X Y : Type 0} (f g : X → List Y) (xs : List X) → AllByRecursion (λ x. f x ≡ g x) xs → flat_map f xs ≡ flat_map g xs
flat_same f g [] same = refl
flat_same {X} {Y} f g (x ∷ xs) same =
    flat_map-cons f x xs ∙ ap (λ (ys : List Y). ys ++ flat_map f xs) same.0 ∙ ap (λ (ys : List Y). g x ++ ys) (flat_same f g xs same.1) ∙ sym (flat_map-cons g x xs)

-- pieces joined are the joined pieces
joined_flat : {X : Type 0} (f : X → Chunks) (xs : List X) → flat_map (λ x. joined (f x)) xs ≡ joined (flat_map f xs)
joined_flat f [] = refl
joined_flat {X} f (x ∷ xs) =
    let piece : X → List ℕ = λ y. joined (f y) in
    flat_map-cons piece x xs ∙ ap (λ (bs : List ℕ). joined (f x) ++ bs) (joined_flat f xs)
    ∙ sym (ap joined (flat_map-cons f x xs) ∙ flat_map-append (λ (c : List ℕ). c) (f x) (flat_map f xs))

-- ---- the xorb of a seed

seeded_at : (size q : ℕ) → Option ℕ → Option Chunks
seeded_at size q None = None
seeded_at size q (Some n) = Some (seeded_chunks q n size)

seeded_found : (size q : ℕ) (es : List (ℕ × ℕ)) → lookup (is_at (nat_cmp q)) (map (seeded_under size) es) ≡ seeded_at size q (lookup (is_at (nat_cmp q)) es)
unfolding seeded_at
seeded_found size q [] = refl
seeded_found size q (e ∷ es) =
    let rest = lookup (is_at (nat_cmp q)) (map (seeded_under size) es) in
    elim (is_at (nat_cmp q) e.0) as (λ b. (b ≡ true → e.0 ≡ q) → cond b (Some (seeded_chunks e.0 e.1 size)) rest ≡ seeded_at size q (cond b (Some e.1) (lookup (is_at (nat_cmp q)) es))) [
      | true ↦ λ same. ap (λ (s : ℕ). Some (seeded_chunks s e.1 size)) (same refl)
      | false ↦ λ same. seeded_found size q es
    ] (λ t. eqb-true e.0 q (sym (at_is q e.0) ∙ t))

chunks_are : (terms : List Term) (size : ℕ) (es : List (ℕ × Chunks)) (q : ℕ) → es ≡ map (seeded_under size) (ends_of terms) → names terms q ≡ true → chunks_at es q ≡ xorb_of terms size q
unfolding seeded_at xorb_of
chunks_are terms size es q is there =
    ap (λ (fs : List (ℕ × Chunks)). chunks_at fs q) is
    ∙ ap (λ (o : Option Chunks). unwrap_or o []) (seeded_found size q (ends_of terms) ∙ ap (seeded_at size q) (end_found terms q there))

abbrev AreSame : List Term → ℕ → List (ℕ × Chunks) → Type 0
AreSame terms size es = AllByRecursion (λ t. chunks_at es t.0 ≡ xorb_of terms size t.0) terms

all_same : (terms : List Term) (size : ℕ) (es : List (ℕ × Chunks)) → es ≡ map (seeded_under size) (ends_of terms) → AreSame terms size es
all_same terms size es is =
    each_of (λ t. names terms t.0 ≡ true) (λ t. chunks_at es t.0 ≡ xorb_of terms size t.0) terms (λ t there. chunks_are terms size es t.0 is there) (named terms)

-- ---- each term is there

reach : List Term → List Term → Type 0
reach all ts = (q : ℕ) → greatest_end ts q ≤ greatest_end all q

head_reaches : (t : Term) (ts : List Term) → t.1.1 ≤ greatest_end (t ∷ ts) t.0
head_reaches t ts =
    elim (t.0 == t.0) as (λ b. b ≡ true → t.1.1 ≤ cond b (max t.1.1 (greatest_end ts t.0)) (greatest_end ts t.0)) [
      | true ↦ λ same. omega arith
      | false ↦ λ same. let no : ⊥ = cc in absurd no
    ] (eq-eqb t.0 t.0 refl)

tail_reaches : (t : Term) (ts : List Term) (q : ℕ) → greatest_end ts q ≤ greatest_end (t ∷ ts) q
tail_reaches t ts q =
    elim (t.0 == q) as (λ b. greatest_end ts q ≤ cond b (max t.1.1 (greatest_end ts q)) (greatest_end ts q)) [
      | true ↦ omega arith
      | false ↦ omega arith
    ]

all_reach : (all ts : List Term) → ((q : ℕ) → greatest_end ts q ≤ greatest_end all q) → AllByRecursion (λ t. t.1.1 ≤ greatest_end all t.0) ts
all_reach all [] within = tt
all_reach all (t ∷ ts) within =
    (omega (arith, head_reaches t ts, within t.0), all_reach all ts (λ q. omega (arith, tail_reaches t ts q, within q)))

length-seeded : (seed n size : ℕ) → length (seeded_chunks seed n size) ≡ n
length-seeded seed n size = length-map (chunk_seeds seed n) (λ (s : ℕ). generated s size) ∙ length-words n (stream_of_seed seed)

abbrev CanEnd : ℕ → ℕ → Type 0
CanEnd size end = AreLengths (replicate end size)

some_of : {X : Type 0} (P : X → Type 0) (o : Option X) (x : X) → o ≡ Some x → IfSome o P → P x
some_of P o x e h = subst (λ (p : Option _). IfSome p P) e h

-- the ends of the terms' seeds can be
can_end : (terms : List Term) (size q : ℕ) → All (CanEnd size) (values_of (ends_of terms)) → names terms q ≡ true → AreLengths (replicate (greatest_end terms q) size)
can_end terms size q can there =
    some_of (CanEnd size) (lookup (is_at (nat_cmp q)) (ends_of terms)) (greatest_end terms q) (end_found terms q there) (IfSome-lookup_from_All (CanEnd size) (is_at (nat_cmp q)) (ends_of terms) can)

pub are_cuts : (terms : List Term) (size : ℕ) (es : List (ℕ × Chunks)) → es ≡ map (seeded_under size) (ends_of terms) → All HasChunk terms → All (λ end. AreLengths (replicate end size)) (values_of (ends_of terms)) → All (IsCut es) terms
unfolding xorb_of
are_cuts terms size es is some can =
    let reaches : AllByRecursion (λ t. t.1.1 ≤ greatest_end terms t.0) terms = all_reach terms terms (λ q. omega arith) in
    let cuts : AllByRecursion (λ t. (names terms t.0 ≡ true) × (t.1.1 ≤ greatest_end terms t.0)) terms = both_of (λ t. names terms t.0 ≡ true) (λ t. t.1.1 ≤ greatest_end terms t.0) (λ t. (names terms t.0 ≡ true) × (t.1.1 ≤ greatest_end terms t.0)) terms (λ t p q. (p, q)) (named terms) reaches in
    All-from_recursion (IsCut es) terms (both_of HasChunk (λ t. (names terms t.0 ≡ true) × (t.1.1 ≤ greatest_end terms t.0)) (IsCut es) terms (λ t h p. record {
      some = h;
      within = omega (arith, p.1, ap (λ (cs : Chunks). length cs) (chunks_are terms size es t.0 is p.0), length-seeded t.0 (greatest_end terms t.0) size);
      small = omega (arith, p.1, few_chunks (greatest_end terms t.0) size (can_end terms size t.0 can p.0));
    }) (recursion_from_All HasChunk terms some) cuts)

-- ---- the file

segment_with : Term → Chunks → Segment
segment_with t cs = record { xorb_hash = xorb_name cs; xorb_flags = 0; chunk_index_start = t.1.0; chunk_index_end = t.1.1; unpacked_segment_bytes = length (joined (slice_range cs t.1.0 t.1.1)) }

term_with : Term → Chunks → TermModel
term_with t cs = record { xorb_hash = xorb_name cs; chunk_start = t.1.0; chunk_end = t.1.1; content = joined (slice_range cs t.1.0 t.1.1); chunk_hashes = map chunk_hash (slice_range cs t.1.0 t.1.1) }

values_seeded : (size : ℕ) (ends : List (ℕ × ℕ)) → map (λ (e : ℕ × Chunks). e.1) (map (seeded_under size) ends) ≡ map (λ (e : ℕ × ℕ). seeded_chunks e.0 e.1 size) ends
values_seeded size [] = refl
values_seeded size (e ∷ es) = ap (λ (cs : List Chunks). seeded_chunks e.0 e.1 size ∷ cs) (values_seeded size es)

pub is_made : (terms : List Term) (size : ℕ) (es : List (ℕ × Chunks)) → es ≡ map (seeded_under size) (ends_of terms) → file_among es terms ≡ made_file terms size
unfolding made_file xorbs_of generated_listing generated_name lazy_contents segment_with term_with
is_made terms size es is =
    let same : AreSame terms size es = all_same terms size es is in
    let file : List Chunks → List ℕ → List Segment → List ℕ → List TermModel → MadeFile = λ xs n ss c ts. record { xorbs = xs; listing = record { file_hash = n; segments = ss }; contents = record { file_hash = n; content = c; xorbs = []; terms = ts } } in
    let cuts : AllByRecursion (λ t. cut_of es t ≡ term_chunks terms size t) terms =
    each_of (λ t. chunks_at es t.0 ≡ xorb_of terms size t.0) (λ t. cut_of es t ≡ term_chunks terms size t) terms (λ t e. ap (λ (cs : Chunks). slice_range cs t.1.0 t.1.1) e) same in
    let chunks : flat_map (cut_of es) terms ≡ file_chunks terms size = flat_same (cut_of es) (term_chunks terms size) terms cuts in
    let segments : map (segment_of es) terms ≡ map (term_segment terms size) terms =
    map_same (segment_of es) (term_segment terms size) terms (each_of (λ t. chunks_at es t.0 ≡ xorb_of terms size t.0) (λ t. segment_of es t ≡ term_segment terms size t) terms (λ t e. ap (segment_with t) e) same) in
    let references : map (reference_of es) terms ≡ map (term_of terms size) terms =
    map_same (reference_of es) (term_of terms size) terms (each_of (λ t. chunks_at es t.0 ≡ xorb_of terms size t.0) (λ t. reference_of es t ≡ term_of terms size t) terms (λ t e. ap (term_with t) e) same) in
    let content : flat_map (λ (t : Term). joined (cut_of es t)) terms ≡ joined (file_chunks terms size) = joined_flat (cut_of es) terms ∙ ap joined chunks in
    let xorbs : map (λ (e : ℕ × Chunks). e.1) es ≡ xorbs_of terms size = ap (map (λ (e : ℕ × Chunks). e.1)) is ∙ values_seeded size (ends_of terms) in
    let name = name_of_chunks (flat_map (cut_of es) terms) in
    ap (λ xs. file xs name (map (segment_of es) terms) (flat_map (λ (t : Term). joined (cut_of es t)) terms) (map (reference_of es) terms)) xorbs
    ∙ ap (λ n. file (xorbs_of terms size) n (map (segment_of es) terms) (flat_map (λ (t : Term). joined (cut_of es t)) terms) (map (reference_of es) terms)) (ap name_of_chunks chunks)
    ∙ ap (λ ss. file (xorbs_of terms size) (generated_name terms size) ss (flat_map (λ (t : Term). joined (cut_of es t)) terms) (map (reference_of es) terms)) segments
    ∙ ap (λ b. file (xorbs_of terms size) (generated_name terms size) (map (term_segment terms size) terms) b (map (reference_of es) terms)) content
    ∙ ap (file (xorbs_of terms size) (generated_name terms size) (map (term_segment terms size) terms) (joined (file_chunks terms size))) references

-- ---- what can be generated

all_formed : (size : ℕ) (es : List (ℕ × ℕ)) → AllByRecursion (CanEnd size) (values_of es) → AllByRecursion IsWellFormed (map (λ e. seeded_chunks e.0 e.1 size) es)
all_formed size [] can = tt
all_formed size (e ∷ es) can = ((seeded_formed e.0 e.1 size).1 can.0, all_formed size es can.1)

all_can : (size : ℕ) (es : List (ℕ × ℕ)) → AllByRecursion IsWellFormed (map (λ e. seeded_chunks e.0 e.1 size) es) → AllByRecursion (CanEnd size) (values_of es)
all_can size [] formed = tt
all_can size (e ∷ es) formed = ((seeded_formed e.0 e.1 size).0 formed.0, all_can size es formed.1)

pub can_generate : (terms : List Term) (size : ℕ) → length terms < 2 ^ 32 → All HasChunk terms → All (λ end. AreLengths (replicate end size)) (values_of (ends_of terms)) → CanGenerate terms size
unfolding xorbs_of
can_generate terms size few some can = record { few = few; some = some; xorbs = all_formed size (ends_of terms) (recursion_from_All (CanEnd size) (values_of (ends_of terms)) can) }

pub ends_can : (terms : List Term) (size : ℕ) → CanGenerate terms size → All (λ end. AreLengths (replicate end size)) (values_of (ends_of terms))
unfolding xorbs_of
ends_can terms size can = All-from_recursion (CanEnd size) (values_of (ends_of terms)) (all_can size (ends_of terms) can.xorbs)

-- ---- not more seeds than terms

one_more_at_most : (b : Bool) (n k : ℕ) → n ≤ k → cond b n (n + 1) ≤ suc k
one_more_at_most true n k h = omega arith
one_more_at_most false n k h = omega arith

length_from : (es : List (ℕ × ℕ)) → len (from_entries {R = nat_cmp} es) ≤ length es
length_from [] = omega (arith, len-empty nat_cmp ℕ)
length_from (e ∷ es) =
    let m = from_entries {R = nat_cmp} es in
    rw (len-insert nat_cmp_total m e.0 e.1) (one_more_at_most (contains_key m e.0) (len m) (length es) (length_from es))

pub few_xorbs : (terms : List Term) (size : ℕ) (es : List (ℕ × Chunks)) → es ≡ map (seeded_under size) (ends_of terms) → length terms < 2 ^ 32 → length es < 2 ^ 32
unfolding ends_of
few_xorbs terms size es is few =
    let m = from_entries {R = nat_cmp} (entries_by (greatest_end terms) terms) in
    let entry : Term → ℕ × ℕ = λ t. (t.0, greatest_end terms t.0) in
    omega (arith, few, ap (λ (fs : List (ℕ × Chunks)). length fs) is, length-map (entries m) (seeded_under size), len-entries m, length_from (entries_by (greatest_end terms) terms), length-map terms entry)
