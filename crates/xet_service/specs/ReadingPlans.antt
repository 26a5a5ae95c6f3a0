-- The open read that a plan of version 2 gives, and which plans give none.
use Rattle.std.specs.Prelude.{◌≡◌, ℕ, suc, Bool, true, false, ◌&&◌, ◌==◌, nat_le, List, [], ◌∷◌, ◌++◌, map, max, is_some, Option, Some, None, Result, Ok, Err, if◌then◌else◌}
use Rattle.std.specs.List.{flat_map, filter, sum_by}
use Rattle.xet_types.specs.Names.{same_hash}
use Rattle.xet_types.specs.Records.{SecondPlan, RangesFetch}
use Rattle.xet_types.specs.declared.range.Range.{Range}
use Rattle.xet_types.specs.declared.range._F.{_F}
use Rattle.xet_types.specs.declared.record.XorbRangeDescriptor.{XorbRangeDescriptor}
use Rattle.xet_types.specs.declared.record.XorbReconstructionTerm.{XorbReconstructionTerm}
use Rattle.xet_types.specs.declared.error.ClientError.{ClientError}
use Rattle.xet_types.specs.declared.error.ClientError.TheVariants.{InvalidArguments, OutOfMemory}
use Rattle.xet_store.specs.Plans.{length_asked}
use Rattle.xet_service.specs.declared.reader.held.LinkRange.{LinkRange}
use Rattle.xet_service.specs.declared.reader.held.HeldTerm.{HeldTerm}
use Rattle.xet_service.specs.declared.reader.link.ReadLink.{ReadLink}
use Rattle.xet_service.specs.Reading.{Reading}

-- ---- the links

abbrev pub fresh_link : List ℕ → RangesFetch → ReadLink
fresh_link hash fetch = record { hash = hash; ranges = fetch.ranges; held = []; got = None }

abbrev pub xorb_links : (List ℕ × List RangesFetch) → List ReadLink
xorb_links e = map (fresh_link e.0) e.1

-- the plan's links in its order, all left, without the terms that they hold
abbrev pub fresh_links : List (List ℕ × List RangesFetch) → List ReadLink
fresh_links es = flat_map xorb_links es

-- each range begins where all before it have ended, or later
abbrev pub are_apart : ℕ → List XorbRangeDescriptor → Bool
are_apart from [] = true
are_apart from (r ∷ rs) = nat_le from r.chunks.start && are_apart (max r.chunks.start r.chunks.end) rs

abbrev pub all_apart : List ReadLink → Bool
all_apart [] = true
all_apart (l ∷ ls) = are_apart 0 l.ranges && all_apart ls

-- ---- the chunk ranges

abbrev pub link_range : List ℕ → ℕ → ℕ → XorbRangeDescriptor → LinkRange
link_range hash link number r = record { hash = hash; chunks = r.chunks; link = link; number = number }

-- a link's chunk ranges, numbered from a number on
abbrev pub ranges_of : List ℕ → ℕ → ℕ → List XorbRangeDescriptor → List LinkRange
ranges_of hash link number [] = []
ranges_of hash link number (r ∷ rs) = link_range hash link number r ∷ ranges_of hash link (suc number) rs

-- those of all links, the links numbered from a number on
abbrev pub all_ranges : ℕ → List ReadLink → List LinkRange
all_ranges n [] = []
all_ranges n (l ∷ ls) = ranges_of l.hash n 0 l.ranges ++ all_ranges (suc n) ls

-- ---- the terms

-- the range's chunks are the xorb's, and the term's are among them
abbrev pub range_holds : XorbReconstructionTerm → LinkRange → Bool
range_holds t r = same_hash r.hash t.hash && (nat_le r.chunks.start t.range.start && (nat_le t.range.start t.range.end && nat_le t.range.end r.chunks.end))

-- the first range that holds the term
abbrev pub range_of : List LinkRange → XorbReconstructionTerm → Option LinkRange
range_of [] t = None
range_of (r ∷ rs) t = if range_holds t r then Some r else range_of rs t

abbrev pub all_held : List LinkRange → List XorbReconstructionTerm → Bool
all_held rs [] = true
all_held rs (t ∷ ts) = is_some (range_of rs t) && all_held rs ts

abbrev pub held_term : XorbReconstructionTerm → LinkRange → HeldTerm
held_term t r = record { term = t; range = r }

abbrev pub held_by : XorbReconstructionTerm → Option LinkRange → List HeldTerm
held_by t None = []
held_by t (Some r) = held_term t r ∷ []

-- each term with the first range that holds it
abbrev pub held_terms : List LinkRange → List XorbReconstructionTerm → List HeldTerm
held_terms rs ts = flat_map (λ t. held_by t (range_of rs t)) ts

-- the range that holds the term is one of the link of this number
abbrev pub is_of_link : ℕ → HeldTerm → Bool
is_of_link n h = h.range.link == n

-- each link with the terms that its ranges hold, behind those that it has, the links numbered from a number on
abbrev pub with_terms : ℕ → List ReadLink → List HeldTerm → List ReadLink
with_terms n [] hs = []
with_terms n (l ∷ ls) hs = record l { held = l.held ++ filter (is_of_link n) hs } ∷ with_terms (suc n) ls hs

-- ---- the read

-- how many bytes the terms have together
abbrev pub total_of : List XorbReconstructionTerm → ℕ
total_of ts = sum_by (λ (t : XorbReconstructionTerm). t.unpacked_length) ts

-- each link's ranges are apart, each term lies in a range, and the offset doesn't pass the terms
abbrev pub can_open_links : List ReadLink → List XorbReconstructionTerm → ℕ → Bool
can_open_links links terms offset = all_apart links && (nat_le offset (total_of terms) && all_held (all_ranges 0 links) terms)

-- the read of these links, each with the terms that its ranges hold
abbrev pub reading_of_links : List ReadLink → List XorbReconstructionTerm → ℕ → Option (Range ℕ _F) → Reading
reading_of_links links terms offset range = record {
  terms = held_terms (all_ranges 0 links) terms;
  offset = offset;
  length = length_asked range;
  links = with_terms 0 links (held_terms (all_ranges 0 links) terms);
}

-- Links, terms and an offset give an open read exactly where they can, unless memory runs out.
abbrev pub OpensLinks : List ReadLink → List XorbReconstructionTerm → ℕ → Option (Range ℕ _F) → Result Reading ClientError → Type 0
OpensLinks links terms offset range (Ok reading) = (can_open_links links terms offset ≡ true) × (reading ≡ reading_of_links links terms offset range)
OpensLinks links terms offset range (Err OutOfMemory) = Unit {0}
OpensLinks links terms offset range (Err InvalidArguments) = can_open_links links terms offset ≡ false
OpensLinks links terms offset range (Err e) = ⊥

-- ---- the read of a plan, all of whose links are left

abbrev pub plan_ranges : SecondPlan → List LinkRange
plan_ranges plan = all_ranges 0 (fresh_links plan.xorbs)

abbrev pub plan_terms : SecondPlan → List HeldTerm
plan_terms plan = held_terms (plan_ranges plan) plan.terms

abbrev pub can_open : SecondPlan → Bool
can_open plan = can_open_links (fresh_links plan.xorbs) plan.terms plan.offset_into_first_range

abbrev pub reading_of : SecondPlan → Option (Range ℕ _F) → Reading
reading_of plan range = reading_of_links (fresh_links plan.xorbs) plan.terms plan.offset_into_first_range range

-- A plan gives an open read exactly where it can, unless memory runs out.
abbrev pub Opens : SecondPlan → Option (Range ℕ _F) → Result Reading ClientError → Type 0
Opens plan range result = OpensLinks (fresh_links plan.xorbs) plan.terms plan.offset_into_first_range range result
