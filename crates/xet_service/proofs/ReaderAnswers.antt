-- A body for a link gives one answer: its chunks are fixed, and it isn't refused too.
use Rattle.std.proofs.Common.{◌≡◌, ℕ, true, false, List, [], ◌∷◌, Option, Some, None, Result, Ok, Err, refl, sym, ap, ◌∙◌, subst}
use Rattle.xet_types.specs.declared.record.XorbRangeDescriptor.{XorbRangeDescriptor}
use Rattle.xet_types.specs.declared.error.Refusal.{Refusal}
use Rattle.xet_types.specs.declared.error.Refusal.TheVariants.{FormatError, Other}
use Rattle.xet_types.specs.declared.error.FormatFault.TheVariants as faults
use Rattle.xet_xorb.proofs.WholeText.{AreWholeChunks-unique}
use Rattle.xet_store.specs.StoreModel.{Chunks}
use Rattle.xet_service.specs.declared.reader.held.HeldTerm.{HeldTerm}
use Rattle.xet_service.specs.declared.reader.link.ReadLink.{ReadLink}
use Rattle.xet_service.specs.Reading.{fits, AreAllWhole, HasParts, Brings, BringsTo}
use Rattle.xet_service.proofs.Parted.{parts_once}

-- parts are one list of chunks each
pub all_whole_once : (parts : List (List ℕ)) (x y : List Chunks) → AreAllWhole parts x → AreAllWhole parts y → x ≡ y
all_whole_once [] [] [] h g = refl
all_whole_once [] [] (d ∷ y) h g = absurd g
all_whole_once [] (c ∷ x) y h g = absurd h
all_whole_once (p ∷ parts) [] y h g = absurd h
all_whole_once (p ∷ parts) (c ∷ x) [] h g = absurd g
all_whole_once (p ∷ parts) (c ∷ x) (d ∷ y) h g = ap (λ (e : Chunks). e ∷ x) (AreWholeChunks-unique p c d h.0 g.0) ∙ ap (λ (es : List Chunks). d ∷ es) (all_whole_once parts x y h.1 g.1)

pub unlike : (ranges : List XorbRangeDescriptor) (held : List HeldTerm) (parts : List (List ℕ)) (x y : List Chunks) → AreAllWhole parts x → AreAllWhole parts y → fits ranges held x ≡ true → fits ranges held y ≡ false → ⊥
unlike ranges held parts x y h g fit misfit = let f : true ≡ false = sym fit ∙ ap (fits ranges held) (all_whole_once parts x y h g) ∙ misfit in absurd cc

module _ (l : ReadLink) (content_type body : List ℕ) where
  -- of two answers on a body, the parts are the same
  same_parts : (p q : List (List ℕ)) (got : List Chunks) → HasParts l.ranges content_type body p → HasParts l.ranges content_type body q → AreAllWhole q got → AreAllWhole p got
  same_parts p q got h g whole = subst (λ (x : List (List ℕ)). AreAllWhole x got) (parts_once l.ranges content_type body q p g h) whole

  pub brings_same : (a b : Result (List Chunks) Refusal) → Brings l content_type body a → Brings l content_type body b → a ≡ b
  brings_same (Ok x) (Ok y) h g = ap Ok (all_whole_once h.parts x y h.whole (same_parts h.parts g.parts y h.has g.has g.whole))
  brings_same (Ok x) (Err Other) h g = absurd (g h.parts h.has)
  brings_same (Ok x) (Err (FormatError faults.Xorb)) h g = absurd (g.none x (same_parts g.parts h.parts x g.has h.has h.whole))
  brings_same (Ok x) (Err (FormatError faults.Body)) h g = absurd (unlike l.ranges l.held h.parts x g.got h.whole (same_parts h.parts g.parts g.got h.has g.has g.whole) h.fit g.misfit)
  brings_same (Ok x) (Err why) h g = absurd g
  brings_same (Err Other) (Ok y) h g = absurd (h g.parts g.has)
  brings_same (Err Other) (Err Other) h g = refl
  brings_same (Err Other) (Err (FormatError faults.Xorb)) h g = absurd (h g.parts g.has)
  brings_same (Err Other) (Err (FormatError faults.Body)) h g = absurd (h g.parts g.has)
  brings_same (Err Other) (Err why) h g = absurd g
  brings_same (Err (FormatError faults.Xorb)) (Ok y) h g = absurd (h.none y (same_parts h.parts g.parts y h.has g.has g.whole))
  brings_same (Err (FormatError faults.Xorb)) (Err Other) h g = absurd (g h.parts h.has)
  brings_same (Err (FormatError faults.Xorb)) (Err (FormatError faults.Xorb)) h g = refl
  brings_same (Err (FormatError faults.Xorb)) (Err (FormatError faults.Body)) h g = absurd (h.none g.got (same_parts h.parts g.parts g.got h.has g.has g.whole))
  brings_same (Err (FormatError faults.Xorb)) (Err why) h g = absurd g
  brings_same (Err (FormatError faults.Body)) (Ok y) h g = absurd (unlike l.ranges l.held g.parts y h.got g.whole (same_parts g.parts h.parts h.got g.has h.has h.whole) g.fit h.misfit)
  brings_same (Err (FormatError faults.Body)) (Err Other) h g = absurd (g h.parts h.has)
  brings_same (Err (FormatError faults.Body)) (Err (FormatError faults.Xorb)) h g = absurd (g.none h.got (same_parts g.parts h.parts h.got g.has h.has h.whole))
  brings_same (Err (FormatError faults.Body)) (Err (FormatError faults.Body)) h g = refl
  brings_same (Err (FormatError faults.Body)) (Err why) h g = absurd g
  brings_same (Err why) b h g = absurd h

pub gives_same : (o : Option ReadLink) (content_type body : List ℕ) (a b : Result (List Chunks) Refusal) → BringsTo o content_type body a → BringsTo o content_type body b → a ≡ b
gives_same None content_type body a b h g = h ∙ sym g
gives_same (Some l) content_type body a b h g = brings_same l content_type body a b h g
