use Rattle.std.proofs.Common.{List, ℕ, subst, sym, ap, ◌∙◌, ◌≡◌, ◌-◌, ◌+◌, take, drop, length}
use Rattle.std.specs.Prelude.{Some, None}
use Rattle.std.proofs.lemmas.List.{take_rest}
use Rattle.memchr.specs.Find.{FindsNeedle}
use Rattle.xet_wire.specs.Multipart.{delimiter, ReadsParts, IsCutAround}
use Rattle.xet_wire.proofs.Words.{cut_found, stands_nowhere}
use Rattle.xet_wire.proofs.MultipartReads.{no_delimiter, body_parts}
use Rattle.xet_wire.proofs.multipart.read.parts_in.Goals as goal

pub returns-in_default-find : goal.returns-in_default-find
returns-in_default-find c =
    let word : take (length c.as_slice.result.now - 2) (drop 2 c.as_slice.result.now) ≡ delimiter c.in-Some.boundary.now = take_rest c.as_slice.result.now 2 ∙ ap (λ (t : List ℕ). drop 2 t) (c.as_slice.ensures.value ∙ c.in_ok-word.ensures) in
    let none : FindsNeedle c.args.body (delimiter c.in-Some.boundary.now) 0 None = subst (λ (w : List ℕ). FindsNeedle c.args.body w 0 None) word (subst (λ (t : List ℕ). FindsNeedle t (take (length c.as_slice.result.now - 2) (drop 2 c.as_slice.result.now)) 0 None) c.as_slice-2.ensures c.in_default-find.ensures) in
    no_delimiter c.args.content_type.now c.args.body c.in-Some.boundary.now c.malformed-in_default-find.result c.malformed-in_default-find.ensures c.in-Some.ensures (stands_nowhere c.args.body (delimiter c.in-Some.boundary.now) none)

pub returns : goal.returns
returns c =
    let word : take (length c.as_slice.result.now - 2) (drop 2 c.as_slice.result.now) ≡ delimiter c.in-Some.boundary.now = take_rest c.as_slice.result.now 2 ∙ ap (λ (t : List ℕ). drop 2 t) (c.as_slice.ensures.value ∙ c.in_ok-word.ensures) in
    let found : FindsNeedle c.args.body (delimiter c.in-Some.boundary.now) 0 (Some c.in-Some-find.first) = subst (λ (w : List ℕ). FindsNeedle c.args.body w 0 (Some c.in-Some-find.first)) word (subst (λ (t : List ℕ). FindsNeedle t (take (length c.as_slice.result.now - 2) (drop 2 c.as_slice.result.now)) 0 (Some c.in-Some-find.first)) c.as_slice-2.ensures c.in-Some-find.ensures) in
    let after : c.advance.new.self ≡ drop (c.in-Some-find.first + length (delimiter c.in-Some.boundary.now)) c.args.body = c.advance.ensures ∙ ap (λ (w : List ℕ). drop (c.in-Some-find.first + length w) c.args.body) word in
    let cut : IsCutAround (delimiter c.in-Some.boundary.now) c.args.body (take c.in-Some-find.first c.args.body) c.advance.new.self = subst (λ (t : List ℕ). IsCutAround (delimiter c.in-Some.boundary.now) c.args.body (take c.in-Some-find.first c.args.body) t) (sym after) (cut_found c.args.body (delimiter c.in-Some.boundary.now) c.in-Some-find.first found) in
    let read = subst (λ (w : List ℕ). ReadsParts w c.advance.new.self c.read_parts.result) (c.as_slice-3.ensures.value ∙ c.in_ok-word.ensures) c.read_parts.ensures in
    body_parts c.args.content_type.now c.args.body c.in-Some.boundary.now (take c.in-Some-find.first c.args.body) c.advance.new.self c.read_parts.result c.in-Some.ensures cut read
