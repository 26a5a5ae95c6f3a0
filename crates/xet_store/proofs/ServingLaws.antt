-- Where all files are readable, ranges are planned and their chunks are there.
use Rattle.std.proofs.Common.{◌≡◌, ◌∙◌, ℕ, ◌+◌, ◌-◌, ◌<◌, ◌≤◌, ◌⊎◌, inl, inr, cond, true, false, Bool, List, [], ◌∷◌, ◌++◌, map, length, take, drop, min, Option, Some, None, Result, Ok, Err, refl, sym, ap, subst, arith}
use Rattle.std.specs.Prelude.{filter}
use Rattle.std.specs.Option.{is_some, option_map}
use Rattle.std.specs.List.{flat_map}
use Rattle.std.specs.FinMap.{FinMap, get}
use Rattle.std.proofs.lemmas.List.{length-take, length-drop, length-map}
use Rattle.xet_types.specs.Names.{hash_cmp}
use Rattle.xet_types.specs.declared.range.Range.{Range}
use Rattle.xet_types.specs.declared.range._F.{_F}
use Rattle.xet_types.specs.declared.error.Refusal.{Refusal}
use Rattle.xet_types.specs.declared.error.Refusal.TheVariants.{FormatError, InvalidRange, InvalidArguments, FileNotFound, XORBNotFound, PresignedUrlExpirationError, IOError, Other, InvalidKey, CacheError, HttpStatus}
use Rattle.xet_types.specs.declared.error.FormatFault.TheVariants as faults
use Rattle.xet_bytes.proofs.Maps.{some_is}
use Rattle.xet_xorb.specs.Values.{Xorb}
use Rattle.xet_xorb.specs.ChunkLists.{object_of}
use Rattle.xet_shard.specs.declared.listing.Segment.{Segment}
use Rattle.xet_shard.specs.Values.{size_of}
use Rattle.xet_shard.specs.Listings.{ShardModel}
use Rattle.xet_plan.specs.Places.{Interval, interval, Known, Placed, reach, met_segments, first_fault}
use Rattle.xet_plan.specs.declared.place.Reach.{Reach}
use Rattle.xet_plan.specs.declared.place.Reach.TheVariants.{Past, Reversed, Within}
use Rattle.xet_plan.specs.MetChunks.{Chunk, Has, lay, is_met, lengths_at, chunks_of, kept}
use Rattle.xet_plan.specs.Runs.{InGroups}
use Rattle.xet_plan.specs.Plans.{PlanModel}
use Rattle.xet_plan.specs.Answers.{groups_of}
use Rattle.xet_plan.proofs.Kept.{has_lay}
use Rattle.xet_store.specs.StoreModel.{StoreModel, Chunks, Hashes, stored, listing, known_of}
use Rattle.xet_store.specs.Plans.{PlansWithin, PlansReached, PlansListed, PlansFile}
use Rattle.xet_store.specs.Checks.{readable, checked, HaveSameSets, IsPlanned, HasChunk, IsServing}
use Rattle.xet_store.specs.Checking.{parts}
use Rattle.xet_store.proofs.ReadableLaws.{readable_faultless}

-- ---- the same sets

abbrev of_parts : FinMap hash_cmp Chunks → List ShardModel → Hashes → Bool
of_parts xorbs shards hidden = readable (parts xorbs shards hidden)

pub same_readable : (m n : StoreModel) → HaveSameSets m n → readable n ≡ readable m
same_readable m n same =
    ap (λ (x : FinMap hash_cmp Chunks). of_parts x n.shards n.hidden) same.xorbs
    ∙ ap (λ (ss : List ShardModel). of_parts m.xorbs ss n.hidden) same.shards
    ∙ ap (λ (hs : Hashes). of_parts m.xorbs m.shards hs) same.hidden

-- ---- plans

abbrev plan_none : Result (Option PlanModel) Refusal
plan_none = Ok None

abbrev plan_err : Refusal → Result (Option PlanModel) Refusal
plan_err why = Err why

abbrev plan_some : PlanModel → Result (Option PlanModel) Refusal
plan_some plan = Ok (Some plan)

no_first : (o : Option Refusal) (why : Refusal) → o ≡ None → o ≡ Some why → ⊥
no_first None why e g = let no : ⊥ = cc in no
no_first (Some w) why e g = let no : ⊥ = cc in no

planned_within : (known : Known) (segments : List Segment) (range : Option (Range ℕ _F)) (clip : Interval) (answer : Result (Option PlanModel) Refusal) → first_fault known clip segments ≡ None → PlansWithin known segments range clip answer → IsPlanned answer
planned_within known segments range clip (Ok (Some plan)) none h = tt
planned_within known segments range clip (Ok None) none h = h
planned_within known segments range clip (Err (XORBNotFound x)) none h = no_first (first_fault known clip segments) (XORBNotFound x) none h
planned_within known segments range clip (Err (FormatError faults.Segment)) none h = no_first (first_fault known clip segments) (FormatError faults.Segment) none h
planned_within known segments range clip (Err (FormatError faults.Xorb)) none h = h
planned_within known segments range clip (Err (FormatError faults.Shard)) none h = h
planned_within known segments range clip (Err (FormatError faults.Table)) none h = h
planned_within known segments range clip (Err (FormatError faults.Body)) none h = h
planned_within known segments range clip (Err InvalidRange) none h = h
planned_within known segments range clip (Err InvalidArguments) none h = h
planned_within known segments range clip (Err (FileNotFound x)) none h = h
planned_within known segments range clip (Err PresignedUrlExpirationError) none h = h
planned_within known segments range clip (Err IOError) none h = h
planned_within known segments range clip (Err Other) none h = h
planned_within known segments range clip (Err InvalidKey) none h = h
planned_within known segments range clip (Err CacheError) none h = h
planned_within known segments range clip (Err (HttpStatus x)) none h = h

is_planned : (n : StoreModel) (file : List ℕ) (range : Option (Range ℕ _F)) (segments : List Segment) (start end : ℕ) (answer : Result (Option PlanModel) Refusal) → readable n ≡ true → listing n file ≡ Some segments
    → reach (size_of segments) range ≡ Within start end → PlansFile n file range answer → IsPlanned answer
is_planned n file range segments start end answer holds live within plans =
    let listed : PlansListed (known_of n) range (Some segments) answer = subst (λ (o : Option (List Segment)). PlansListed (known_of n) range o answer) live plans in
    let reached : PlansReached (known_of n) segments range (Within start end) answer = subst (λ (w : Reach). PlansReached (known_of n) segments range w answer) within listed in
    planned_within (known_of n) segments range (interval start end) answer (readable_faultless n file segments (interval start end) holds live) reached

-- ---- the chunks of plans

has_either : (xs ys : List Chunk) (h : List ℕ) (k : ℕ) → Has (xs ++ ys) h k → Has xs h k ⊎ Has ys h k
has_either [] ys h k p = inr p
has_either (x ∷ xs) ys h k (inl p) = inl (inl p)
has_either (x ∷ xs) ys h k (inr p) = elim (has_either xs ys h k p) as (λ _. Has (x ∷ xs) h k ⊎ Has ys h k) [ inl q ↦ inl (inr q) | inr q ↦ inr q ]

has_filter : (f : Chunk → Bool) (xs : List Chunk) (h : List ℕ) (k : ℕ) → Has (filter f xs) h k → Has xs h k
has_filter f [] h k p = p
has_filter f (x ∷ xs) h k p = by (has_filter f xs h k) (f x) p
  where
    by : (Has (filter f xs) h k → Has xs h k) → (b : Bool) → Has (cond b (x ∷ filter f xs) (filter f xs)) h k → Has (x ∷ xs) h k
    by rest true (inl q) = inl q
    by rest true (inr q) = inr (rest q)
    by rest false q = inr (rest q)

-- chunk k of a xorb that is known
record KnownChunk (known : Known) (h : List ℕ) (k : ℕ) : Type 0 where
  xorb : Xorb
  is : known h ≡ Some xorb
  inside : k < length xorb.lengths

inside_cut : (s e k : ℕ) (ns : List ℕ) → s ≤ k → k < s + length (take (e - s) (drop s ns)) → k < length ns
inside_cut s e k ns low high = omega (arith, low, high, length-take (e - s) (drop s ns), length-drop s ns)

chunk_known : (known : Known) (p : Placed) (h : List ℕ) (k : ℕ) (o : Option Xorb) → known p.segment.xorb_hash ≡ o → Has (lay p.segment.xorb_hash p.segment.chunk_index_start p.at (lengths_at p.segment o)) h k → KnownChunk known h k
chunk_known known p h k None is has = absurd has
chunk_known known p h k (Some x) is has =
    let at = has_lay p.segment.xorb_hash p.segment.chunk_index_start p.at (lengths_at p.segment (Some x)) h k has in
    record { xorb = x; is = ap known (sym at.0) ∙ is; inside = inside_cut p.segment.chunk_index_start p.segment.chunk_index_end k x.lengths at.1 at.2 }

met_known : (known : Known) (clip : Interval) (ps : List Placed) (h : List ℕ) (k : ℕ) → Has (flat_map (kept known clip) ps) h k → KnownChunk known h k
met_known known clip [] h k has = absurd has
met_known known clip (p ∷ ps) h k has =
    elim (has_either (kept known clip p) (flat_map (kept known clip) ps) h k has) as (λ _. KnownChunk known h k) [
      | inl q ↦ chunk_known known p h k (known p.segment.xorb_hash) refl (has_filter (is_met clip) (chunks_of known p) h k q)
      | inr q ↦ met_known known clip ps h k q
    ]

there_of : (n : StoreModel) (h : List ℕ) (k : ℕ) (o : Option Chunks) → stored n h ≡ o → (x : Xorb) → option_map object_of o ≡ Some x → k < length x.lengths → HasChunk n h k
there_of n h k None is x e inside = let no : ⊥ = cc in absurd no
there_of n h k (Some chunks) is x e inside =
    let same : object_of chunks ≡ x = some_is (object_of chunks) x e in
    record { chunks = chunks; there = is; inside = subst (λ (c : ℕ). k < c) (ap (λ (y : Xorb). length y.lengths) (sym same) ∙ length-map _ length) inside }

known_there : (n : StoreModel) (h : List ℕ) (k : ℕ) → KnownChunk (known_of n) h k → HasChunk n h k
known_there n h k c = there_of n h k (stored n h) refl c.xorb c.is c.inside

plan_has : (n : StoreModel) (file : List ℕ) (range : Option (Range ℕ _F)) (plan : PlanModel) (h : List ℕ) (k : ℕ) → PlansFile n file range (Ok (Some plan)) → InGroups (groups_of plan) h k → HasChunk n h k
plan_has n file range plan h k plans has = listed (listing n file) plans
  where
    reached : (segments : List Segment) (w : Reach) → PlansReached (known_of n) segments range w (Ok (Some plan)) → HasChunk n h k
    reached segments Past a = let e : plan_some plan ≡ plan_none = a in let no : ⊥ = cc in absurd no
    reached segments Reversed a = let e : plan_some plan ≡ plan_err InvalidRange = a in let no : ⊥ = cc in absurd no
    reached segments (Within start end) a = known_there n h k (met_known (known_of n) (interval start end) (met_segments (interval start end) segments) h k ((a.planned.merged.covers h k).0 has))

    listed : (o : Option (List Segment)) → PlansListed (known_of n) range o (Ok (Some plan)) → HasChunk n h k
    listed None a = let e : plan_some plan ≡ plan_none = a in let no : ⊥ = cc in absurd no
    listed (Some segments) a = reached segments (reach (size_of segments) range) a

-- and it is there as long as the sets are the same
later_has : (m n later : StoreModel) (h : List ℕ) (k : ℕ) → HaveSameSets m n → HaveSameSets m later → HasChunk n h k → HasChunk later h k
later_has m n later h k same still c = record { chunks = c.chunks; there = ap (λ (x : FinMap hash_cmp Chunks). get x h) (still.xorbs ∙ sym same.xorbs) ∙ c.there; inside = c.inside }

pub serving : (m : StoreModel) → readable m ≡ true → IsServing m
serving m holds = record {
  planned = λ n file range segments start end answer same live within plans. is_planned n file range segments start end answer (same_readable m n same ∙ holds) live within plans;
  served = λ n later file range plan same still plans h k has. later_has m n later h k same still (plan_has n file range plan h k plans has);
}

pub check_holds : (b : Bool) → ◌≡◌ {A = Result (Unit {0}) Refusal} (Ok tt) (checked b) → b ≡ true
check_holds true e = refl
check_holds false e = let no : ⊥ = cc in absurd no
