-- Bytes that are gathered of texts which come one behind the other.
use Rattle.std.specs.Prelude.{◌≡◌, ℕ, ◌-◌, List, [], ◌++◌, length, take, drop, min, Option, Some, None}
use Rattle.xet_store.specs.Plans.{cut_to}

-- what was gathered; of what comes, how many bytes are passed over, and how many are taken then, all of them where none is told
pub record Gathered : Type 0 where
  pub bytes : List ℕ
  pub skip : ℕ
  pub left : Option ℕ

abbrev pub nothing : ℕ → Option ℕ → Gathered
nothing skip left = record { bytes = []; skip = skip; left = left }

abbrev pub less : Option ℕ → ℕ → Option ℕ
less None n = None
less (Some left) n = Some (left - n)

-- how many of the bytes that are left are taken, where a length is given; else all
abbrev pub taken : ℕ → Option ℕ → ℕ
taken rest None = rest
taken rest (Some left) = min left rest

-- For a text of so many bytes: how many are passed over, and how many are taken then.
abbrev pub IsWindow : ℕ → ℕ → Option ℕ → ℕ × ℕ → Type 0
IsWindow total skip left window = (text : List ℕ) → length text ≡ total → take window.1 (drop window.0 text) ≡ cut_to left (drop skip text)

-- after a text has come
abbrev pub after_text : Gathered → List ℕ → Gathered
after_text g text = record { bytes = g.bytes ++ cut_to g.left (drop g.skip text); skip = g.skip - length text; left = less g.left (length text - g.skip) }
