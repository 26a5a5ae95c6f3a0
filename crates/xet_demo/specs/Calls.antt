-- What the words of the command line ask.
use Rattle.std.specs.Prelude.{◌≡◌, ℕ, ◌&&◌, nat_lt, nat_le, List, [], ◌∷◌, Option, Some, None, if◌then◌else◌, codes}
use Rattle.xet_demo.specs.declared.words.Call.{Call}
use Rattle.xet_demo.specs.declared.words.Call.TheVariants.{Script, Make}
use Rattle.xet_demo.specs.Words.{is_word, number_of}

-- the words are this one alone
abbrev pub IsWord : List ℕ → List (List ℕ) → Type 0
IsWord only words = words ≡ only ∷ []

-- the words are the one word `--help` or `--version`
abbrev pub IsHelp : List (List ℕ) → Type 0
IsHelp words = IsWord (codes "--help") words

abbrev pub IsVersion : List (List ℕ) → Type 0
IsVersion words = IsWord (codes "--version") words

-- so many files, from 1 to 2000
abbrev pub counted : Option ℕ → Option Call
counted (Some n) = if nat_lt 0 n && nat_le n 2000 then Some (Make n) else None
counted None = None

-- `memory`
abbrev pub script_of : List ℕ → Option Call
script_of store = if is_word store (codes "memory") then Some Script else None

-- `memory make N`
abbrev pub made_of : List ℕ → List ℕ → List ℕ → Option Call
made_of store make count = if is_word store (codes "memory") && is_word make (codes "make") then counted (number_of count) else None

-- a script, or a large run
abbrev pub call_of : List (List ℕ) → Option Call
call_of (store ∷ []) = script_of store
call_of (store ∷ make ∷ count ∷ []) = made_of store make count
call_of words = None
