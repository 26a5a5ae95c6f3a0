use Rattle.std.proofs.Common.{rules, ◌≡◌, ◌∙◌, ◌+◌, ◌++◌, ◌∷◌, [], List, ℕ, None, take, sym, ap, subst}
use Rattle.std.specs.FinMap.{get, insert}
use Rattle.std.proofs.lemmas.List.{take_more}
use Rattle.xet_store.specs.Entries.{Reserved, filled, HavePlaces}
use Rattle.xet_store.proofs.Entries.{filled_empty, place_there, places_stay, places_push, none_of, some_of}
use Rattle.xet_store.proofs.memory.entries.reserve.Goals.{then-not-contains+in_ok-_none, else-not-contains}
use Rattle.xet_store.proofs.memory.entries.reserve.Goals as goal

pub loop-chunk-preserved : goal.loop-chunk-preserved
loop-chunk-preserved c =
    let x = c.chunk-item.result in
    let chunks = c.args.chunks.now in
    let i = c.loop-chunk.chunk-index in
    let was = c.loop-chunk.entries in
    let more : take (i + 1) chunks ≡ take i chunks ++ x ∷ [] = take_more chunks i x c.loop-chunk-test.true ∙ ap (λ (h : List ℕ). take i chunks ++ h ∷ []) (sym c.chunk-item.is) in
    elim c.if-not-contains.branch [
      | then-not-contains+in_ok-_none w ↦
          (let absent : get was x ≡ None = none_of (get was x) c.contains.result c.contains.ensures w.if-not-contains.true in
          let put : c.if-not-contains.entries ≡ insert was x None = search rules in
          record {
            same = ap filled put ∙ filled_empty was x absent ∙ c.loop-chunk.invariant.same;
            places = subst (λ (m : Reserved). HavePlaces m (take (i + 1) chunks)) (sym put) (subst (HavePlaces (insert was x None)) (sym more)
                (places_push (insert was x None) (take i chunks) x (places_stay was (take i chunks) x None c.loop-chunk.invariant.places) (place_there was x None)));
          })
      | else-not-contains w ↦
          (let kept : c.if-not-contains.entries ≡ was = search rules in
          record {
            same = ap filled kept ∙ c.loop-chunk.invariant.same;
            places = subst (λ (m : Reserved). HavePlaces m (take (i + 1) chunks)) (sym kept) (subst (HavePlaces was) (sym more)
                (places_push was (take i chunks) x c.loop-chunk.invariant.places (some_of (get was x) c.contains.result c.contains.ensures w.if-not-contains.false)));
          })
    ]
