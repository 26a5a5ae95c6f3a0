use Rattle.std.proofs.Common.{List, ℕ, subst, ◌+◌, ◌++◌, ◌≡◌, take, drop, length}
use Rattle.std.specs.Prelude.{Some, None}
use Rattle.memchr.specs.Find.{FindsNeedle}
use Rattle.xet_types.specs.declared.range.Range.{Range}
use Rattle.xet_types.specs.declared.range._H.{_H}
use Rattle.std.specs.Str.{IsUtf8}
use Rattle.xet_wire.specs.Multipart.{crlf, TellsRange, lines_of}
use Rattle.xet_wire.proofs.Words.{cut_found, stands_nowhere}
use Rattle.xet_wire.proofs.MultipartReads.{refused_part, no_headers, no_range_told, spells_part}
use Rattle.xet_wire.proofs.multipart.read.read_part.Goals as goal

pub returns-in_default : goal.returns-in_default
returns-in_default c =
    let none : FindsNeedle c.args.text (crlf ++ crlf) 0 None = subst (λ (t : List ℕ). FindsNeedle t (crlf ++ crlf) 0 None) c.as_slice.ensures c.in_default.ensures in
    refused_part c.args.text c.malformed.result c.malformed.ensures (no_headers c.args.text (stands_nowhere c.args.text (crlf ++ crlf) none))

pub returns-in_default-range_of : goal.returns-in_default-range_of
returns-in_default-range_of c =
    let found : FindsNeedle c.args.text (crlf ++ crlf) 0 (Some c.in-Some.end) = subst (λ (t : List ℕ). FindsNeedle t (crlf ++ crlf) 0 (Some c.in-Some.end)) c.as_slice.ensures c.in-Some.ensures in
    let none = subst (λ (t : List ℕ). IsUtf8 (take c.in-Some.end t) → (range : Range ℕ _H) → ¬ TellsRange (lines_of (take c.in-Some.end t)) range) c.as_slice-2.ensures c.in_default-range_of.ensures in
    refused_part c.args.text c.malformed-in_default-range_of.result c.malformed-in_default-range_of.ensures (no_range_told c.args.text (take c.in-Some.end c.args.text) (drop (c.in-Some.end + length (crlf ++ crlf)) c.args.text) (cut_found c.args.text (crlf ++ crlf) c.in-Some.end found) none)

pub returns : goal.returns
returns c =
    let found : FindsNeedle c.args.text (crlf ++ crlf) 0 (Some c.in-Some.end) = subst (λ (t : List ℕ). FindsNeedle t (crlf ++ crlf) 0 (Some c.in-Some.end)) c.as_slice.ensures c.in-Some.ensures in
    let told = subst (λ (t : List ℕ). IsUtf8 (take c.in-Some.end t) × TellsRange (lines_of (take c.in-Some.end t)) c.in-Some-range_of.range) c.as_slice-2.ensures c.in-Some-range_of.ensures in
    let content : c.advance.new.self ≡ drop (c.in-Some.end + length (crlf ++ crlf)) c.args.text = c.advance.ensures in
    spells_part c.args.text (take c.in-Some.end c.args.text) (drop (c.in-Some.end + length (crlf ++ crlf)) c.args.text) c.advance.new.self c.in-Some-range_of.range content (cut_found c.args.text (crlf ++ crlf) c.in-Some.end found) told.0 told.1
