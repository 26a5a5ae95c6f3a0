-- A fetch of a good link whose xorb is stored is not refused by its reader.
use Rattle.std.proofs.Common.{◌≡◌, ◌∙◌, ℕ, ◌-◌, true, false, List, [], ◌∷◌, length, drop, map, Some, Ok, Err, Result, refl, sym, subst, arith}
use Rattle.std.specs.Prelude.{◌==◌}
use Rattle.std.specs.List.{AllByRecursion}
use Rattle.std.proofs.lemmas.Bool.{eq-eqb}
use Rattle.std.proofs.lemmas.List.{length-take, length-drop}
use Rattle.xet_types.specs.declared.error.Refusal.{Refusal}
use Rattle.xet_types.specs.declared.error.Refusal.TheVariants.{FormatError, InvalidRange, Other}
use Rattle.xet_types.specs.declared.error.FormatFault.TheVariants as faults
use Rattle.xet_types.specs.declared.record.XorbRangeDescriptor.{XorbRangeDescriptor}
use Rattle.xet_plan.specs.FileBytes.{Content}
use Rattle.xet_store.specs.StoreModel.{StoreModel, Chunks, stored}
use Rattle.xet_service.specs.declared.reader.link.ReadLink.{ReadLink}
use Rattle.xet_service.specs.Bodies.{Body, type_text, bytes_at, Sends, SendsOf, SendsStored}
use Rattle.xet_service.specs.Reading.{have_counts, fits, AreAllWhole, HasParts, Brings}
use Rattle.xet_service.specs.Steps.{asked_bytes}
use Rattle.xet_service.specs.Validity.{AgreesWith}
use Rattle.xet_service.proofs.Parted.{parts_once, written_parts}
use Rattle.xet_service.proofs.ReaderAnswers.{unlike}
use Rattle.xet_service.proofs.Goods.{cut_chunks, all_chunks, GoodRange, GoodLink}
use Rattle.xet_service.proofs.Taken.{some_is, good_pieces, AreGoodPieces}

counts : (all : Chunks) (rs : List XorbRangeDescriptor) → AllByRecursion (GoodRange all) rs → have_counts rs (all_chunks all rs) ≡ true
counts all [] g = refl
counts all (r ∷ rs) g =
    let cut = length-take (r.chunks.end - r.chunks.start) (drop r.chunks.start all) in
    let rest = length-drop r.chunks.start all in
    let many : (length (cut_chunks all r) == r.chunks.end - r.chunks.start) ≡ true = eq-eqb (length (cut_chunks all r)) (r.chunks.end - r.chunks.start) (omega (arith, cut, rest, g.0.some, g.0.inside)) in
    rw (many, counts all rs g.1) refl

module _ (m : Content) (store : StoreModel) (l : ReadLink) (g : GoodLink m l) (chunks : Chunks) (agree : AgreesWith m store) (there : stored store l.hash ≡ Some chunks) where
  list : chunks ≡ g.all
  list = some_is chunks g.all (sym (agree l.hash chunks there) ∙ g.is)

  pieces : AreGoodPieces g.all l.ranges
  pieces = good_pieces g.all l.ranges g.formed g.each

  -- what is sent is a body of them
  sent_good : (r : Result Body Refusal) → SendsStored store l.hash (asked_bytes l.ranges) r → Sends g.all (asked_bytes l.ranges) r
  sent_good r h = subst (λ (cs : Chunks). Sends cs (asked_bytes l.ranges) r) list (subst (λ (o : _). SendsOf l.hash (asked_bytes l.ranges) o r) there h)

  -- the store has the link's bytes
  pub never_past : (why : Refusal) → SendsStored store l.hash (asked_bytes l.ranges) (Err why) → ⊥
  never_past InvalidRange h = let f : true ≡ false = sym pieces.inside ∙ sent_good (Err InvalidRange) h in cc
  never_past why h = sent_good (Err why) h

  fit : fits l.ranges l.held (all_chunks g.all l.ranges) ≡ true
  fit = rw (counts g.all l.ranges g.each, g.fit) refl

  module _ (body : Body) (sent : SendsStored store l.hash (asked_bytes l.ranges) (Ok body)) where
    has : HasParts l.ranges (type_text body.content_type) body.bytes (map (bytes_at g.all) (asked_bytes l.ranges))
    has = written_parts g.all l.ranges g.rises pieces.below pieces.inside body (sent_good (Ok body) sent).1

    same_parts : (p : List (List ℕ)) → HasParts l.ranges (type_text body.content_type) body.bytes p → p ≡ map (bytes_at g.all) (asked_bytes l.ranges)
    same_parts p h = parts_once l.ranges (type_text body.content_type) body.bytes p (map (bytes_at g.all) (asked_bytes l.ranges)) h has

    -- which its reader takes
    pub never_refused : (why : Refusal) → Brings l (type_text body.content_type) body.bytes (Err why) → ⊥
    never_refused Other h = h (map (bytes_at g.all) (asked_bytes l.ranges)) has
    never_refused (FormatError faults.Xorb) h = h.none (all_chunks g.all l.ranges) (subst (λ (p : List (List ℕ)). AreAllWhole p (all_chunks g.all l.ranges)) (sym (same_parts h.parts h.has)) pieces.whole)
    never_refused (FormatError faults.Body) h =
        unlike l.ranges l.held (map (bytes_at g.all) (asked_bytes l.ranges)) (all_chunks g.all l.ranges) h.got pieces.whole (subst (λ (p : List (List ℕ)). AreAllWhole p h.got) (same_parts h.parts h.has) h.whole) fit h.misfit
    never_refused why h = h
