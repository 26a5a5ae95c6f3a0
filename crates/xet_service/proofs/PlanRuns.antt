-- The runs of a plan, and the links that its answer has for them.
use Rattle.std.proofs.Common.{◌≡◌, ◌∙◌, ℕ, ◌<◌, ◌⊎◌, None, List, [], ◌∷◌, ◌++◌, length, map, refl, sym, ap, arith}
use Rattle.std.specs.List.{flat_map, AllByRecursion}
use Rattle.std.specs.Ordering.{nat_cmp}
use Rattle.std.specs.Cmp.Lexicographic.{slice_cmp}
use Rattle.std.specs.declared.cmp.Ordering.TheVariants.{Less}
use Rattle.std.proofs.lemmas.List.{map-append, append_assoc}
use Rattle.xet_types.specs.Records.{RangesFetch, fetch_of, xorb_fetches}
use Rattle.xet_plan.specs.declared.runs.MergedRange.{MergedRange}
use Rattle.xet_plan.specs.Groups.{in_groups}
use Rattle.xet_plan.specs.Plans.{PlanModel}
use Rattle.xet_plan.proofs.GroupLaws.{all_of, groups_all, groups_some}
use Rattle.xet_wire.specs.Links.{link_text}
use Rattle.xet_store.specs.Responses.{fetch_info_of, fetches_at, descriptor_of, ranges_link, ranges_fetch, ranges_fetches}
use Rattle.xet_service.specs.declared.step.PlanVersion.{PlanVersion}
use Rattle.xet_service.specs.declared.step.PlanVersion.TheVariants.{V1, V2}
use Rattle.xet_service.specs.declared.reader.link.ReadLink.{ReadLink}
use Rattle.xet_service.specs.Links.{LinkModel, planned_link, xorb_links, planned_links, answer_of}
use Rattle.xet_service.specs.ReadingPlans.{fresh_link, fresh_links, xorb_links as read_links}

-- a run of a xorb's chunks
pub record Run : Type 0 where
  pub hash : List ℕ
  pub range : MergedRange

abbrev pub run : List ℕ → MergedRange → Run
run hash range = record { hash = hash; range = range }

abbrev pub group_runs : (List ℕ × List MergedRange) → List Run
group_runs g = map (run g.0) g.1

-- the runs of a plan in order of hash, then chunk start
abbrev pub runs_of : PlanModel → List Run
runs_of plan = flat_map group_runs plan.merged

-- ---- links

-- what a link brings, under its text
pub record Linked : Type 0 where
  pub hash : List ℕ
  pub url : List ℕ
  pub runs : List MergedRange

abbrev pub linked : List ℕ → List ℕ → List MergedRange → Linked
linked hash url runs = record { hash = hash; url = url; runs = runs }

abbrev pub link_runs : Linked → List Run
link_runs l = map (run l.hash) l.runs

-- the runs of all links
abbrev pub all_runs : List Linked → List Run
all_runs ls = flat_map link_runs ls

abbrev pub link_of : Linked → LinkModel
link_of l = record { hash = l.hash; url = l.url; ranges = map descriptor_of l.runs }

-- the link of such runs, which is left
abbrev pub fresh_of : Linked → ReadLink
fresh_of l = record { hash = l.hash; ranges = map descriptor_of l.runs; held = []; got = None }

abbrev pub single : ℕ → List ℕ → MergedRange → Linked
single at hash r = linked hash (link_text hash r.byte_range.start r.byte_range.end at) (r ∷ [])

abbrev pub several : ℕ → List ℕ → List MergedRange → Linked
several at hash rs = linked hash (ranges_link at hash (map descriptor_of rs)) rs

-- the links of a xorb's runs: one for each, or one for each group
abbrev pub links_for : PlanVersion → ℕ → ℕ → (List ℕ × List MergedRange) → List Linked
links_for V1 max at g = map (single at g.0) g.1
links_for V2 max at g = map (several at g.0) (in_groups max g.1)

abbrev pub links_in : PlanVersion → ℕ → ℕ → PlanModel → List Linked
links_in version max at plan = flat_map (links_for version max at) plan.merged

-- ---- they are those of the answer

-- a xorb's links in the answer
abbrev answer_for : PlanVersion → ℕ → ℕ → (List ℕ × List MergedRange) → (List ℕ × List RangesFetch)
answer_for V1 max at g = xorb_fetches (fetches_at at g)
answer_for V2 max at g = ranges_fetches max at g

module _ (at : ℕ) (h : List ℕ) where
  single_planned : (rs : List MergedRange) → map (planned_link h) (map fetch_of (map (fetch_info_of at h) rs)) ≡ map link_of (map (single at h) rs)
  single_planned [] = refl
  single_planned (r ∷ rs) = ap (λ (ls : List LinkModel). link_of (single at h r) ∷ ls) (single_planned rs)

  several_planned : (gs : List (List MergedRange)) → map (planned_link h) (map (ranges_fetch at h) gs) ≡ map link_of (map (several at h) gs)
  several_planned [] = refl
  several_planned (g ∷ gs) = ap (λ (ls : List LinkModel). link_of (several at h g) ∷ ls) (several_planned gs)

  single_fresh : (rs : List MergedRange) → map (fresh_link h) (map fetch_of (map (fetch_info_of at h) rs)) ≡ map fresh_of (map (single at h) rs)
  single_fresh [] = refl
  single_fresh (r ∷ rs) = ap (λ (ls : List ReadLink). fresh_of (single at h r) ∷ ls) (single_fresh rs)

  several_fresh : (gs : List (List MergedRange)) → map (fresh_link h) (map (ranges_fetch at h) gs) ≡ map fresh_of (map (several at h) gs)
  several_fresh [] = refl
  several_fresh (g ∷ gs) = ap (λ (ls : List ReadLink). fresh_of (several at h g) ∷ ls) (several_fresh gs)

  single_runs : (rs : List MergedRange) → all_runs (map (single at h) rs) ≡ map (run h) rs
  single_runs [] = refl
  single_runs (r ∷ rs) = ap (λ (qs : List Run). run h r ∷ qs) (single_runs rs)

  several_runs : (gs : List (List MergedRange)) → all_runs (map (several at h) gs) ≡ map (run h) (all_of gs)
  several_runs [] = refl
  several_runs (g ∷ gs) = ap (λ (qs : List Run). map (run h) g ++ qs) (several_runs gs) ∙ sym (map-append (run h) g (all_of gs))

group_planned : (version : PlanVersion) (max at : ℕ) (g : List ℕ × List MergedRange) → xorb_links (answer_for version max at g) ≡ map link_of (links_for version max at g)
group_planned V1 max at g = single_planned at g.0 g.1
group_planned V2 max at g = several_planned at g.0 (in_groups max g.1)

group_fresh : (version : PlanVersion) (max at : ℕ) (g : List ℕ × List MergedRange) → read_links (answer_for version max at g) ≡ map fresh_of (links_for version max at g)
group_fresh V1 max at g = single_fresh at g.0 g.1
group_fresh V2 max at g = several_fresh at g.0 (in_groups max g.1)

group_same : (version : PlanVersion) (max at : ℕ) (g : List ℕ × List MergedRange) → all_runs (links_for version max at g) ≡ group_runs g
group_same V1 max at g = single_runs at g.0 g.1
group_same V2 max at g = several_runs at g.0 (in_groups max g.1) ∙ ap (map (run g.0)) (groups_all max g.1)

-- lists in parts
parts_mapped : {X Y Z W : Type 0} (f : X → Y) (k : X → List Z) (e : Y → List W) (u : Z → W) → ((x : X) → e (f x) ≡ map u (k x)) → (xs : List X) → flat_map e (map f xs) ≡ map u (flat_map k xs)
parts_mapped f k e u same [] = refl
parts_mapped {W = W} f k e u same (x ∷ xs) =
    ap (λ (ws : List W). ws ++ flat_map e (map f xs)) (same x)
    ∙ ap (λ (ws : List W). map u (k x) ++ ws) (parts_mapped f k e u same xs)
    ∙ sym (map-append u (k x) (flat_map k xs))

runs_append : (ls ks : List Linked) → all_runs (ls ++ ks) ≡ all_runs ls ++ all_runs ks
runs_append [] ks = refl
runs_append (l ∷ ls) ks = ap (λ (rs : List Run). link_runs l ++ rs) (runs_append ls ks) ∙ sym (append_assoc (link_runs l) (all_runs ls) (all_runs ks))

groups_same : (version : PlanVersion) (max at : ℕ) (gs : List (List ℕ × List MergedRange)) → all_runs (flat_map (links_for version max at) gs) ≡ flat_map group_runs gs
groups_same version max at [] = refl
groups_same version max at (g ∷ gs) =
    runs_append (links_for version max at g) (flat_map (links_for version max at) gs)
    ∙ ap (λ (rs : List Run). rs ++ all_runs (flat_map (links_for version max at) gs)) (group_same version max at g)
    ∙ ap (λ (rs : List Run). group_runs g ++ rs) (groups_same version max at gs)

mapped_twice : {X Y Z : Type 0} (f : X → Y) (e : Y → Z) (k : X → Z) → ((x : X) → e (f x) ≡ k x) → (xs : List X) → map e (map f xs) ≡ map k xs
mapped_twice f e k same [] = refl
mapped_twice {Z = Z} f e k same (x ∷ xs) = ap (λ (z : Z). z ∷ map e (map f xs)) (same x) ∙ ap (λ (zs : List Z). k x ∷ zs) (mapped_twice f e k same xs)

answer_xorbs : (version : PlanVersion) (max at : ℕ) (plan : PlanModel) → (answer_of version max at plan).xorbs ≡ map (answer_for version max at) plan.merged
answer_xorbs V1 max at plan = mapped_twice (fetches_at at) xorb_fetches (answer_for V1 max at) (λ g. refl) plan.merged
answer_xorbs V2 max at plan = refl

-- the links of the answer are these
pub links_same : (version : PlanVersion) (max at : ℕ) (plan : PlanModel) → planned_links (answer_of version max at plan) ≡ map link_of (links_in version max at plan)
links_same version max at plan = ap (flat_map xorb_links) (answer_xorbs version max at plan) ∙ parts_mapped (answer_for version max at) (links_for version max at) xorb_links link_of (group_planned version max at) plan.merged

pub plan_fresh : (version : PlanVersion) (max at : ℕ) (plan : PlanModel) → fresh_links (answer_of version max at plan).xorbs ≡ map fresh_of (links_in version max at plan)
plan_fresh version max at plan = ap fresh_links (answer_xorbs version max at plan) ∙ parts_mapped (answer_for version max at) (links_for version max at) read_links fresh_of (group_fresh version max at) plan.merged

-- each brings a run
abbrev pub HasRuns : Linked → Type 0
HasRuns l = 0 < length l.runs

single_some : (at : ℕ) (h : List ℕ) (rs : List MergedRange) → AllByRecursion HasRuns (map (single at h) rs)
single_some at h [] = tt
single_some at h (r ∷ rs) = (omega arith, single_some at h rs)

several_some : (at : ℕ) (h : List ℕ) (gs : List (List MergedRange)) → AllByRecursion (λ (g : List MergedRange). 0 < length g) gs → AllByRecursion HasRuns (map (several at h) gs)
several_some at h [] a = tt
several_some at h (g ∷ gs) a = (a.0, several_some at h gs a.1)

group_some : (version : PlanVersion) (max at : ℕ) (g : List ℕ × List MergedRange) → AllByRecursion HasRuns (links_for version max at g)
group_some V1 max at g = single_some at g.0 g.1
group_some V2 max at g = several_some at g.0 (in_groups max g.1) (groups_some max g.1)

all_both : {X : Type 0} (P : X → Type 0) (xs ys : List X) → AllByRecursion P xs → AllByRecursion P ys → AllByRecursion P (xs ++ ys)
all_both P [] ys a b = b
all_both P (x ∷ xs) ys a b = (a.0, all_both P xs ys a.1 b)

some_all : (version : PlanVersion) (max at : ℕ) (gs : List (List ℕ × List MergedRange)) → AllByRecursion HasRuns (flat_map (links_for version max at) gs)
some_all version max at [] = tt
some_all version max at (g ∷ gs) = all_both HasRuns (links_for version max at g) (flat_map (links_for version max at) gs) (group_some version max at g) (some_all version max at gs)

pub links_some : (version : PlanVersion) (max at : ℕ) (plan : PlanModel) → AllByRecursion HasRuns (links_in version max at plan)
links_some version max at plan = some_all version max at plan.merged

-- they bring the plan's runs
pub runs_same : (version : PlanVersion) (max at : ℕ) (plan : PlanModel) → all_runs (links_in version max at plan) ≡ runs_of plan
runs_same version max at plan = groups_same version max at plan.merged

pub same_terms : (version : PlanVersion) (max at : ℕ) (plan : PlanModel) → (answer_of version max at plan).terms ≡ plan.terms
same_terms V1 max at plan = refl
same_terms V2 max at plan = refl

pub same_offset : (version : PlanVersion) (max at : ℕ) (plan : PlanModel) → (answer_of version max at plan).offset_into_first_range ≡ plan.offset_into_first_range
same_offset V1 max at plan = refl
same_offset V2 max at plan = refl

-- ---- the order of the runs

-- a's chunks end before b's begin, in order of hash
abbrev pub Before : Run → Run → Type 0
Before a b = (slice_cmp nat_cmp a.hash b.hash ≡ Less) ⊎ ((a.hash ≡ b.hash) × (a.range.chunk_range.end < b.range.chunk_range.start))

abbrev pub InOrder : List Run → Type 0
InOrder [] = Unit {0}
InOrder (r ∷ rs) = AllByRecursion (Before r) rs × InOrder rs

pub all_left : {X : Type 0} (P : X → Type 0) (xs ys : List X) → AllByRecursion P (xs ++ ys) → AllByRecursion P xs
all_left P [] ys a = tt
all_left P (x ∷ xs) ys a = (a.0, all_left P xs ys a.1)

pub all_right : {X : Type 0} (P : X → Type 0) (xs ys : List X) → AllByRecursion P (xs ++ ys) → AllByRecursion P ys
all_right P [] ys a = a
all_right P (x ∷ xs) ys a = all_right P xs ys a.1

pub order_left : (xs ys : List Run) → InOrder (xs ++ ys) → InOrder xs
order_left [] ys o = tt
order_left (x ∷ xs) ys o = (all_left (Before x) xs ys o.0, order_left xs ys o.1)

pub order_right : (xs ys : List Run) → InOrder (xs ++ ys) → InOrder ys
order_right [] ys o = o
order_right (x ∷ xs) ys o = order_right xs ys o.1
