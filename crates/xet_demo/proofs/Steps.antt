-- Lines one after another.
use Rattle.std.proofs.Math.Dec.{eqb-suc-zero}
use Rattle.std.proofs.lemmas.Bool.{eqb-true, cases_lt}
use Rattle.std.proofs.Common.{Bool, true, false, eqb, cond, inl, inr, ◌≡◌, ℕ, ◌+◌, ◌-◌, ◌<◌, ◌≤◌, List, [], ◌∷◌, ◌++◌, length, take, drop, Some, None, refl, sym, ap, ◌∙◌, append_assoc, arith}
use Rattle.std.specs.List.{flat_map, AllByRecursion}
use Rattle.std.specs.Str.Lines.{lines_of_parts, strip_carriage_return}
use Rattle.std.proofs.lemmas.List.{append-nil, length-append, get_or_append_left, get_or-append-add, take-append-le, drop-append-le}
use Rattle.std.proofs.Math.Seq.{get_or-append_right, take-append-add, drop-append-add}
use Rattle.std.proofs.lemmas.Grind.{flat_map-append}
use Rattle.memchr.specs.Find.{IsFirstByte, Nowhere, Passes, is_byte}
use Rattle.xet_service.specs.declared.step.Step.{Step}
use Rattle.xet_demo.specs.Words.{parts_of}
use Rattle.xet_demo.specs.Lines.{Bad, line_of}
use Rattle.std.specs.Prelude.{Err}
use Rattle.xet_demo.specs.declared.script.ScriptError.{ScriptError}
use Rattle.xet_demo.specs.declared.script.ScriptError.TheVariants.{BadLine, OutOfMemory}
use Rattle.xet_demo.specs.Script.{lines_of, IsInside, steps_of, AreStepsOf, IsFirstBad, IsParsedTo, Refuses, Parses, AddsStepsOf}
use Rattle.xet_demo.proofs.Cuts.{parts_found, parts_none, some_part, to_the_end}

one_inside : (P : List ℕ → Type 0) (xs : List (List ℕ)) (x : List ℕ) → AllByRecursion P xs → P x → AllByRecursion P (xs ++ x ∷ [])
one_inside P [] x h p = (p, tt)
one_inside P (y ∷ ys) x h p = (h.0, one_inside P ys x h.1 p)

-- a line and its steps are added
pub one_more : (texts : List (List ℕ)) (text : List ℕ) (steps new : List Step) → AreStepsOf texts steps → IsInside text → new ≡ steps ++ steps_of text → AreStepsOf (texts ++ text ∷ []) new
one_more texts text steps new are inside is = record {
  inside = one_inside IsInside texts text are.inside inside;
  steps_are = is ∙ ap (λ (ss : List Step). ss ++ steps_of text) are.steps_are ∙ ap (λ (ms : List Step). flat_map steps_of texts ++ ms) (sym (append-nil (steps_of text))) ∙ sym (flat_map-append steps_of texts (text ∷ []));
}

line_before : (part : List ℕ) (parts : List (List ℕ)) → 0 < length parts → lines_of_parts (part ∷ parts) ≡ strip_carriage_return part ∷ lines_of_parts parts
line_before part [] some = absurd (omega arith)
line_before part (next ∷ parts) some = refl

-- the first line ends at the first LF
pub first_line : (text : List ℕ) (at : ℕ) → IsFirstByte (is_byte 10) text (Some at) → lines_of text ≡ strip_carriage_return (take at text) ∷ lines_of (drop (at + 1) text)
first_line text at found = ap lines_of_parts (parts_found 10 text at found) ∙ line_before (take at text) (parts_of 10 (drop (at + 1) text)) (some_part 10 (drop (at + 1) text))

one_line : (text : List ℕ) → 0 < length text → lines_of_parts (text ∷ []) ≡ text ∷ []
one_line [] some = absurd (omega arith)
one_line (byte ∷ rest) some = ap (λ (b : Bool). cond b [] ((byte ∷ rest) ∷ [])) (eqb-suc-zero (length rest))

no_line : (text : List ℕ) → length text ≡ 0 → lines_of_parts (text ∷ []) ≡ []
no_line [] none = refl
no_line (byte ∷ rest) none = absurd (omega arith)

-- without an LF there is one line, or none
pub last_line : (text : List ℕ) → IsFirstByte (is_byte 10) text None → 0 < length text → lines_of text ≡ text ∷ []
last_line text none some = ap lines_of_parts (parts_none 10 text none) ∙ one_line text some

pub no_more : (text : List ℕ) → IsFirstByte (is_byte 10) text None → length text ≡ 0 → lines_of text ≡ []
no_more text none empty = ap lines_of_parts (parts_none 10 text none) ∙ no_line text empty

pub at_the_start : IsParsedTo [] [] 1 []
at_the_start = record { done = []; lines_are = λ more. refl; are = record { inside = tt; steps_are = refl }; number_is = refl; few = omega arith }

-- past one line
pub past_a_line : (text rest line back : List ℕ) (number : ℕ) (steps new : List Step) → IsParsedTo text rest number steps → ((more : List ℕ) → lines_of (rest ++ more) ≡ line ∷ lines_of (back ++ more)) → length back < length rest → IsInside line → new ≡ steps ++ steps_of line → IsParsedTo text back (number + 1) new
past_a_line text rest line back number steps new so cut shorter inside is = record {
  done = so.done ++ line ∷ [];
  lines_are = λ more. so.lines_are more ∙ ap (λ (ls : List (List ℕ)). so.done ++ ls) (cut more) ∙ sym (append_assoc so.done (line ∷ []) (lines_of (back ++ more)));
  are = one_more so.done line steps new so.are inside is;
  number_is = omega (arith, so.number_is, length-append so.done (line ∷ []));
  few = omega (arith, so.few, shorter);
}

-- a piece more of both
pub with_a_piece : (text rest piece : List ℕ) (number : ℕ) (steps : List Step) → IsParsedTo text rest number steps → IsParsedTo (text ++ piece) (rest ++ piece) number steps
with_a_piece text rest piece number steps so = record {
  done = so.done;
  lines_are = λ more. ap lines_of (append_assoc text piece more) ∙ so.lines_are (piece ++ more) ∙ ap (λ (ls : List ℕ). so.done ++ lines_of ls) (sym (append_assoc rest piece more));
  are = so.are;
  number_is = so.number_is;
  few = omega (arith, so.few, length-append text piece, length-append rest piece);
}

-- the lines of a text that ends here
at_the_end : (text rest : List ℕ) (number : ℕ) (steps : List Step) → (so : IsParsedTo text rest number steps) → lines_of text ≡ so.done ++ lines_of rest
at_the_end text rest number steps so =
    ap lines_of (sym (append-nil text)) ∙ so.lines_are [] ∙ ap (λ (ls : List ℕ). so.done ++ lines_of ls) (append-nil rest)

-- to the end
pub to_the_last : (text rest : List ℕ) (number : ℕ) (steps : List Step) → IsParsedTo text rest number steps → lines_of rest ≡ [] → AreStepsOf (lines_of text) steps
to_the_last text rest number steps so none =
    let whole : lines_of text ≡ so.done = at_the_end text rest number steps so ∙ ap (λ (ls : List (List ℕ)). so.done ++ ls) none ∙ append-nil so.done in
    rw whole so.are

pub with_the_last : (text rest : List ℕ) (number : ℕ) (steps new : List Step) → IsParsedTo text rest number steps → lines_of rest ≡ rest ∷ [] → IsInside rest → new ≡ steps ++ steps_of rest → AreStepsOf (lines_of text) new
with_the_last text rest number steps new so one inside is =
    let whole : lines_of text ≡ so.done ++ rest ∷ [] = at_the_end text rest number steps so ∙ ap (λ (ls : List (List ℕ)). so.done ++ ls) one in
    rw whole (one_more so.done rest steps new so.are inside is)

-- the next line is the first outside, whatever follows
first_bad : (text rest line back more : List ℕ) (number n : ℕ) (steps : List Step) → IsParsedTo text rest number steps → lines_of (rest ++ more) ≡ line ∷ lines_of (back ++ more) → line_of line ≡ Bad → n ≡ number → IsFirstBad (lines_of (text ++ more)) n
first_bad text rest line back more number n steps so cut bad is = record {
  before = so.done;
  bad = line;
  after = lines_of (back ++ more);
  lines_are = so.lines_are more ∙ ap (λ (ls : List (List ℕ)). so.done ++ ls) cut;
  inside = so.are.inside;
  outside = bad;
  number = is ∙ so.number_is;
}

-- a byte that was found in a text is found in what begins with the text
found_in_longer : (text more : List ℕ) (at : ℕ) → IsFirstByte (is_byte 10) text (Some at) → IsFirstByte (is_byte 10) (text ++ more) (Some at)
found_in_longer text more at found = (
  record {
    low = found.0.low;
    high = omega (arith, found.0.high, length-append text more);
    before = λ k low high p. found.0.before k low high (rw (sym (get_or_append_left text more 0 k (omega (arith, high, found.0.high)))) p);
  },
  rw (get_or_append_left text more 0 at found.0.high) found.1,
)

-- no place is in a text, or in the front of one that is behind it
nowhere_in_both : (front text : List ℕ) (end : ℕ) → IsFirstByte (is_byte 10) front None → Nowhere (Passes (is_byte 10) text) 0 end → Nowhere (Passes (is_byte 10) (front ++ text)) 0 (length front + end)
nowhere_in_both front text end none before k low high p =
    elim (cases_lt k (length front)) as (λ _. ⊥) [
      | inl l ↦ none k low l (rw (sym (get_or_append_left front text 0 k l)) p)
      | inr l ↦ before (k - length front) (omega arith) (omega (arith, high, l)) (rw (sym (get_or-append_right front text k 0 l)) p)
    ]

-- and so far behind a text without it
found_behind : (front text : List ℕ) (at : ℕ) → IsFirstByte (is_byte 10) front None → IsFirstByte (is_byte 10) text (Some at) → IsFirstByte (is_byte 10) (front ++ text) (Some (length front + at))
found_behind front text at none found = (
  record {
    low = omega arith;
    high = omega (arith, found.0.high, length-append front text);
    before = nowhere_in_both front text at none found.0.before;
  },
  rw (get_or-append-add front text at 0) found.1,
)

pub none_in_both : (front text : List ℕ) → IsFirstByte (is_byte 10) front None → IsFirstByte (is_byte 10) text None → IsFirstByte (is_byte 10) (front ++ text) None
none_in_both front text none no_more = rw (length-append front text) (nowhere_in_both front text (length text) none no_more)

-- the first line, and the slice behind its LF
pub next_line : (text line : List ℕ) (at : ℕ) → IsFirstByte (is_byte 10) text (Some at) → line ≡ strip_carriage_return (take at text) → (more : List ℕ) → lines_of (text ++ more) ≡ line ∷ lines_of (take (length text - (at + 1)) (drop (at + 1) text) ++ more)
next_line text line at found is more =
    let inside : at + 1 ≤ length text = omega (arith, found.0.high) in
    first_line (text ++ more) at (found_in_longer text more at found)
    ∙ ap (λ (front : List ℕ). strip_carriage_return front ∷ lines_of (drop (at + 1) (text ++ more))) (take-append-le at text more (omega arith))
    ∙ ap (λ (first : List ℕ). first ∷ lines_of (drop (at + 1) (text ++ more))) (sym is)
    ∙ ap (λ (back : List ℕ). line ∷ lines_of back) (drop-append-le (at + 1) text more inside ∙ ap (λ (back : List ℕ). back ++ more) (sym (to_the_end text (at + 1))))

-- the line that a piece ends
pub line_with : (front text line : List ℕ) (at : ℕ) → IsFirstByte (is_byte 10) front None → IsFirstByte (is_byte 10) text (Some at) → line ≡ strip_carriage_return (front ++ take at text) → (more : List ℕ) → lines_of ((front ++ text) ++ more) ≡ line ∷ lines_of (take (length text - (at + 1)) (drop (at + 1) text) ++ more)
line_with front text line at none found is more =
    let behind : length front + at + 1 ≡ length front + (at + 1) = omega arith in
    let inside : at + 1 ≤ length text = omega (arith, found.0.high) in
    let whole : at < length text = found.0.high in
    first_line ((front ++ text) ++ more) (length front + at) (found_in_longer (front ++ text) more (length front + at) (found_behind front text at none found))
    ∙ ap (λ (l : List ℕ). strip_carriage_return l ∷ lines_of (drop (length front + at + 1) ((front ++ text) ++ more))) (take-append-le (length front + at) (front ++ text) more (omega (arith, whole, length-append front text)) ∙ take-append-add front text at)
    ∙ ap (λ (first : List ℕ). first ∷ lines_of (drop (length front + at + 1) ((front ++ text) ++ more))) (sym is)
    ∙ ap (λ (back : List ℕ). line ∷ lines_of back) (drop-append-le (length front + at + 1) (front ++ text) more (omega (arith, inside, length-append front text)) ∙ ap (λ (back : List ℕ). back ++ more) (ap (λ (n : ℕ). drop n (front ++ text)) behind ∙ drop-append-add front text (at + 1) ∙ sym (to_the_end text (at + 1))))

-- a refused line is the first outside
pub refused_line : (text rest line back : List ℕ) (number : ℕ) (steps new : List Step) (e : ScriptError) → IsParsedTo text rest number steps → ((more : List ℕ) → lines_of (rest ++ more) ≡ line ∷ lines_of (back ++ more)) → AddsStepsOf line number steps new (Err e) → Refuses text e
refused_line text rest line back number steps new (BadLine n) so cut bad = λ more. first_bad text rest line back more number n steps so (cut more) bad.0 bad.1
refused_line text rest line back number steps new OutOfMemory so cut bad = tt

-- a refused last line is the first outside
pub refused_end : (text rest : List ℕ) (number : ℕ) (steps new : List Step) (e : ScriptError) → IsParsedTo text rest number steps → lines_of rest ≡ rest ∷ [] → AddsStepsOf rest number steps new (Err e) → Parses text (Err e)
refused_end text rest number steps new (BadLine n) so one bad = record {
  before = so.done;
  bad = rest;
  after = [];
  lines_are = at_the_end text rest number steps so ∙ ap (λ (ls : List (List ℕ)). so.done ++ ls) one;
  inside = so.are.inside;
  outside = bad.0;
  number = bad.1 ∙ so.number_is;
}
refused_end text rest number steps new OutOfMemory so one bad = tt

pub some_bytes : (text : List ℕ) → false ≡ eqb (length text) 0 → 0 < length text
some_bytes [] e = absurd cc
some_bytes (byte ∷ rest) e = omega arith

pub no_bytes : (text : List ℕ) → true ≡ eqb (length text) 0 → length text ≡ 0
no_bytes text e = eqb-true (length text) 0 (sym e)
