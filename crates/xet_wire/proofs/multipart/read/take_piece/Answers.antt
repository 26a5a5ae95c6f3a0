use Rattle.std.proofs.Common.{inl, inr, List, ℕ, subst, take, drop, ◌≡◌, ◌+◌, ◌∙◌, ap, length, [], arith}
use Rattle.std.proofs.lemmas.List.{drop-drop, take_all, drop_all}
use Rattle.memchr.specs.Find.{FindsNeedle}
use Rattle.std.specs.Prelude.{Some, None}
use Rattle.xet_wire.proofs.Words.{cut_found, stands_nowhere}
use Rattle.xet_wire.proofs.multipart.read.take_piece.Goals as goal

pub returns-in_ok-piece-in-Some : goal.returns-in_ok-piece-in-Some
returns-in_ok-piece-in-Some c =
    let found : FindsNeedle c.args.rest.now c.args.word.now 0 (Some c.in-Some.at) = subst (λ (t : List ℕ). FindsNeedle t c.args.word.now 0 (Some c.in-Some.at)) c.as_slice.ensures c.in-Some.ensures in
    let piece : c.in_ok-piece-in-Some.piece ≡ take c.in-Some.at c.args.rest.now = c.in_ok-piece-in-Some.ensures.front in
    let after : c.advance.new.self ≡ drop (c.in-Some.at + length c.args.word.now) c.args.rest.now = c.advance.ensures ∙ ap (λ (t : List ℕ). drop (length c.args.word.now) t) c.in_ok-piece-in-Some.ensures.rest ∙ drop-drop (length c.args.word.now) c.in-Some.at c.args.rest.now in
    inl (rw (piece, after) (cut_found c.args.rest.now c.args.word.now c.in-Some.at found))

pub returns-in_ok-piece-in-None : goal.returns-in_ok-piece-in-None
returns-in_ok-piece-in-None c =
    let none : FindsNeedle c.args.rest.now c.args.word.now 0 None = subst (λ (t : List ℕ). FindsNeedle t c.args.word.now 0 None) c.as_slice.ensures c.in-None.ensures in
    let all : c.len.result ≡ length c.args.rest.now = c.len.ensures.value in
    let piece : c.in_ok-piece-in-None.piece ≡ c.args.rest.now = c.in_ok-piece-in-None.ensures.front ∙ take_all c.len.result c.args.rest.now (omega (arith, all)) in
    let after : c.split_to-in-None.new.self ≡ [] = c.in_ok-piece-in-None.ensures.rest ∙ drop_all c.len.result c.args.rest.now (omega (arith, all)) in
    inr (stands_nowhere c.args.rest.now c.args.word.now none, piece, after)
