use Rattle.std.proofs.Common.{◌≡◌, ℕ, ◌+◌, List, ◌++◌, ◌∷◌, [], ◌∙◌, sym, ap, subst, take}
use Rattle.std.proofs.lemmas.List.{take_more}
use Rattle.std.proofs.lemmas.Result.{err_from_is_err_and}
use Rattle.xet_store.specs.StoreModel.{Chunks}
use Rattle.xet_service.specs.Reading.{AreAllWhole}
use Rattle.xet_service.proofs.PartsLaws.{part_refused, whole_more}
use Rattle.xet_service.proofs.reader.parts.read_parts.Goals as goal

pub returns-in_err-chunks : goal.returns-in_err-chunks
returns-in_err-chunks c =
    let p = err_from_is_err_and c.from_residual-in_err-chunks.result c.from_residual-in_err-chunks.ensures.1 in
    rw (p.1, p.2) (part_refused c.args.parts.now c.loop-part.part-index c.part-item.result c.in_err-chunks.field-0.0 c.loop-part-test.true c.part-item.is c.in_err-chunks.ensures)

pub loop-part-preserved : goal.loop-part-preserved
loop-part-preserved c =
    let parts = c.args.parts.now in
    let i = c.loop-part.part-index in
    let p = c.part-item.result in
    let more : take (i + 1) parts ≡ take i parts ++ p ∷ [] = take_more parts i p c.loop-part-test.true ∙ ap (λ (q : List ℕ). take i parts ++ q ∷ []) (sym c.part-item.is) in
    let items = c.in_ok-push.ensures.items ∙ ap (λ (x : Chunks). c.loop-part.got.items ++ x ∷ []) c.from_vec.ensures in
    subst (λ (ps : List (List ℕ)). AreAllWhole ps c.push.new.self.items) (sym more)
    (subst (λ (got : List Chunks). AreAllWhole (take i parts ++ p ∷ []) got) (sym items) (whole_more (take i parts) c.loop-part.got.items p c.in_ok-chunks.chunks.items c.loop-part.invariant c.in_ok-chunks.ensures))
