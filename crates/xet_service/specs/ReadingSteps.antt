-- What the code that opens a read owes.
use Rattle.std.specs.Prelude.{ℕ, List, [], ◌∷◌, ◌++◌, slice_get, slice_set, Option, Some, None}
use Rattle.xet_service.specs.declared.reader.held.HeldTerm.{HeldTerm}
use Rattle.xet_service.specs.declared.reader.link.ReadLink.{ReadLink}

-- the link of this number with one term more
abbrev pub with_term : List ReadLink → ℕ → Option ReadLink → HeldTerm → List ReadLink
with_term links n None h = links
with_term links n (Some link) h = slice_set links n (record link { held = link.held ++ h ∷ [] })

-- the link of the term's range holds the term
abbrev pub give_term : List ReadLink → HeldTerm → List ReadLink
give_term links h = with_term links h.range.link (slice_get links h.range.link) h
