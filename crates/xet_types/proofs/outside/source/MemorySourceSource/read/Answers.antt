use Rattle.std.proofs.Common.{◌≡◌, ℕ, ◌+◌, ◌-◌, ◌<◌, ◌≤◌, List, [], ◌++◌, take, drop, length, min, sym, ap, ◌∙◌, arith}
use Rattle.std.proofs.lemmas.List.{take_at, drop-drop, take-append-drop, length-take, length-drop, length-append, take-take, nil_from_length}
use Rattle.xet_types.proofs.outside.source.MemorySourceSource.read.Goals as goal

-- what a copy of n bytes to the front of a buffer takes from the content
moved : (content into copied : List ℕ) (pos n : ℕ) → n ≤ length into → copied ≡ take n (drop pos content) → length copied ≡ n
    → drop pos content ≡ take n (copied ++ drop n into) ++ drop (pos + n) content
moved content into copied pos n le e len =
    sym (rw (take_at copied (drop n into) n len, e, ← drop-drop n pos content) (take-append-drop n (drop pos content)))

at_end : (content into copied : List ℕ) (pos n : ℕ) → n ≡ min (length content - pos) (length into) → length copied ≡ n
    → n ≡ 0 → 0 < length (copied ++ drop n into) → drop (pos + n) content ≡ []
at_end content into copied pos n is len none some =
    nil_from_length (drop (pos + n) content) (omega (arith, length-drop (pos + n) content, length-append copied (drop n into), length-drop n into))

pub returns-clause-bytes : goal.returns-clause-bytes
returns-clause-bytes c =
    let h = c.copy_from_slice in
    let pos = c.args.self.now.position in
    let xs = c.args.self.now.content.items in
    let is : c.deref.result.now ≡ xs = c.deref.ensures.value in
    let small : c.min-count.result ≡ min (length xs - pos) (length c.args.into.now) = omega (arith, length-take (length c.deref.result.now - pos) (drop pos c.deref.result.now), length-drop pos c.deref.result.now, ap length is) in
    let len : length h.new.self ≡ c.min-count.result = omega (arith, h.ensures.len, length-take c.min-count.result c.args.into.now) in
    let short : c.min-count.result ≤ length c.deref.result.now - pos = omega (arith, ap length is) in
    let copied : h.new.self ≡ take c.min-count.result (drop pos xs) = h.ensures.after ∙ take-take c.min-count.result (length c.deref.result.now - pos) (drop pos c.deref.result.now) short ∙ ap (λ (ys : List ℕ). take c.min-count.result (drop pos ys)) is in
    (moved xs c.args.into.now h.new.self pos c.min-count.result (omega arith) copied len, at_end xs c.args.into.now h.new.self pos c.min-count.result small len)
