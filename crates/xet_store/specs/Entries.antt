-- How the store in memory keeps the entries for deduplication.
use Rattle.std.specs.Prelude.{ℕ, Bool, false, List, [], ◌∷◌, Option, Some, None, if◌then◌else◌}
use Rattle.std.specs.List.{fold, flat_map, AllByRecursion}
use Rattle.std.specs.Option.{IsSome}
use Rattle.std.specs.FinMap.{FinMap, get, entries, from_entries, insert, remove}
use Rattle.xet_types.specs.Names.{hash_cmp}
use Rattle.xet_store.specs.Commands.{is_entry}

-- places for entries, which may be empty
abbrev pub Reserved : Type 0
Reserved = FinMap hash_cmp (Option (List ℕ))

abbrev pub filled_at : List ℕ → Option (List ℕ) → List (List ℕ × List ℕ)
filled_at chunk None = []
filled_at chunk (Some name) = (chunk, name) ∷ []

-- the entries of the places that aren't empty
abbrev pub filled : Reserved → FinMap hash_cmp (List ℕ)
filled m = from_entries {R = hash_cmp} (flat_map (λ e. filled_at e.0 e.1) (entries m))

-- each chunk's place has the name
abbrev pub filled_with : Reserved → List (List ℕ) → List ℕ → Reserved
filled_with m chunks name = fold (λ n chunk. insert n chunk (Some name)) m chunks

-- each chunk has a place
abbrev pub HavePlaces : Reserved → List (List ℕ) → Type 0
HavePlaces m chunks = AllByRecursion (λ chunk. IsSome (get m chunk)) chunks

abbrev pub has_name : List ℕ → Option (Option (List ℕ)) → Bool
has_name name None = false
has_name name (Some o) = is_entry name o

-- the chunk's place goes, where it has the name
abbrev pub without_place : List ℕ → Reserved → List ℕ → Reserved
without_place name m chunk = if has_name name (get m chunk) then remove m chunk else m

-- those of the chunks' places go that have the name
abbrev pub without_places : Reserved → List (List ℕ) → List ℕ → Reserved
without_places m chunks name = fold (without_place name) m chunks
