-- What a script means, line by line.
use denote.Ref.{Bor}
use Rattle.std.specs.Prelude.{◌≡◌, ◌≢◌, ℕ, ◌+◌, ◌≤◌, List, ◌∷◌, ◌++◌, length, Result, Ok, Err}
use Rattle.std.specs.List.{flat_map, AllByRecursion}
use Rattle.std.specs.Str.Lines.{lines}
use Rattle.std.specs.Global.{Vec}
use Rattle.xet_service.specs.declared.step.Step.{Step}
use Rattle.xet_demo.specs.declared.script.ScriptError.{ScriptError}
use Rattle.xet_demo.specs.declared.script.ScriptError.TheVariants.{BadLine, OutOfMemory}
use Rattle.xet_demo.specs.Lines.{Bad, line_of, steps_in}

-- Lines end with LF, and one CR before it is dropped; the last LF may be missing, and then a CR stays.
abbrev pub lines_of : List ℕ → List (List ℕ)
lines_of script = lines script

-- the line is empty, a comment or a command
abbrev pub IsInside : List ℕ → Type 0
IsInside text = line_of text ≢ Bad

-- the steps of a line: one, or none
abbrev pub steps_of : List ℕ → List Step
steps_of text = steps_in (line_of text)

-- Each line is inside the grammar, and the steps are those of the lines in their order.
pub record AreStepsOf (texts : List (List ℕ)) (steps : List Step) : Type 0 where
  pub inside : AllByRecursion IsInside texts
  pub steps_are : steps ≡ flat_map steps_of texts

-- Line n, from 1, is the first outside the grammar.
pub record IsFirstBad (texts : List (List ℕ)) (n : ℕ) : Type 0 where
  pub before : List (List ℕ)
  pub bad : List ℕ
  pub after : List (List ℕ)
  pub lines_are : texts ≡ before ++ bad ∷ after
  pub inside : AllByRecursion IsInside before
  pub outside : line_of bad ≡ Bad
  pub number : n ≡ length before + 1

-- A script is parsed into the steps of its lines; a line is called bad exactly where it is the first outside.
abbrev pub Parses : List ℕ → Result (Vec Step) ScriptError → Type 0
Parses script (Ok v) = AreStepsOf (lines_of script) v.items
Parses script (Err (BadLine n)) = IsFirstBad (lines_of script) n
Parses script (Err OutOfMemory) = Unit {0}

-- The steps of the line are added, or the line with this number is outside the grammar.
abbrev pub AddsStepsOf : List ℕ → ℕ → List Step → List Step → Result (Unit {0}) ScriptError → Type 0
AddsStepsOf text number old new (Ok done) = IsInside text × (new ≡ old ++ steps_of text)
AddsStepsOf text number old new (Err (BadLine n)) = (line_of text ≡ Bad) × (n ≡ number)
AddsStepsOf text number old new (Err OutOfMemory) = Unit {0}

-- Whatever follows the text: its lines begin with lines inside the grammar, whose steps these are; the line behind them has this number, and of
-- that and what follows, the text has this rest.
pub record IsParsedTo (text rest : List ℕ) (number : ℕ) (steps : List Step) : Type 0 where
  pub done : List (List ℕ)
  pub lines_are : (more : List ℕ) → lines_of (text ++ more) ≡ done ++ lines_of (rest ++ more)
  pub are : AreStepsOf done steps
  pub number_is : number ≡ length done + 1
  pub few : number + length rest ≤ length text + 1

-- what a parser has: the line without an end, its number, and the steps before it
pub record Parsed : Type 0 where
  pub line : List ℕ
  pub number : ℕ
  pub steps : List Step

-- it has these of the text so far
abbrev pub HasParsed : List ℕ → Parsed → Type 0
HasParsed text parsed = IsParsedTo text parsed.line parsed.number parsed.steps

-- Line n is the first outside the grammar, whatever follows the text.
abbrev pub Refuses : List ℕ → ScriptError → Type 0
Refuses text (BadLine n) = (more : List ℕ) → IsFirstBad (lines_of (text ++ more)) n
Refuses text OutOfMemory = Unit {0}

-- The text is parsed so far, or refused.
abbrev pub ParsesOn : List ℕ → Parsed → Result (Unit {0}) ScriptError → Type 0
ParsesOn text parsed (Ok done) = HasParsed text parsed
ParsesOn text parsed (Err e) = Refuses text e

-- The text is parsed to this rest, or refused.
abbrev pub AddsLines : List ℕ → ℕ → List Step → Result (Bor (List ℕ)) ScriptError → Type 0
AddsLines text number steps (Ok rest) = IsParsedTo text rest.now number steps
AddsLines text number steps (Err e) = Refuses text e
