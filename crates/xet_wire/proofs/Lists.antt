-- Lists of ranges in a text: what is read so far, and what is left.
use Rattle.std.proofs.Common.{◌≡◌, ◌≢◌, ℕ, Bool, true, false, eqb, List, [], ◌∷◌, ◌++◌, get_or, refl, sym, ap, ◌∙◌, subst, append_assoc}
use Rattle.std.specs.List.{Contains}
use Rattle.std.proofs.lemmas.List.{append-nil}
use Rattle.std.proofs.lemmas.List.Splits.{slice_split_none, slice_split_at}
use Rattle.std.proofs.lemmas.Bool.{eqb-true}
use Rattle.std.proofs.lemmas.List.{get_or_default}
use Rattle.xet_types.specs.declared.range.Range.{Range}
use Rattle.std.specs.Prelude.{Err}
use Rattle.xet_types.specs.declared.error.ClientError.{ClientError}
use Rattle.xet_types.specs.declared.error.ClientError.TheVariants.{InvalidArguments, OutOfMemory}
use Rattle.xet_wire.specs.Texts.{IsCutAtFirst, IsRangeOf, pieces_of, AreRanges, Gains, IsNoRange, AddsPiece, ReadsRanges}

not_true : (b : Bool) → (b ≡ true → ⊥) → b ≡ false
not_true true h = absurd (h refl)
not_true false h = refl

pub other : (x c : ℕ) → x ≢ c → eqb x c ≡ false
other x c h = not_true (eqb x c) (λ t. h (eqb-true x c t))

-- the first comma ends the first piece
pub pieces_cut : (text b a : List ℕ) → IsCutAtFirst 44 text b a → pieces_of text ≡ b ∷ pieces_of a
pieces_cut text b a cut = rw cut.parts (slice_split_at (λ x. eqb x 44) b 44 a (λ k d lt. other (get_or b k d) 44 (cut.first k d lt)) refl)

-- and without one the text is the one piece
pub pieces_none : (text : List ℕ) → ¬ Contains text 44 → pieces_of text ≡ text ∷ []
pieces_none text none = slice_split_none (λ x. eqb x 44) text (λ k d lt. other (get_or text k d) 44 (λ e. none (k, lt, get_or_default text k 44 d lt ∙ e)))

-- these ranges were read, and these pieces are left
pub record GoesOn {K : Type 0} (all : List (List ℕ)) (done : List (Range ℕ K)) (left : List (List ℕ)) : Type 0 where
  pub ahead : (more : List (Range ℕ K)) → AreRanges left more → AreRanges all (done ++ more)
  pub back : (rs : List (Range ℕ K)) → AreRanges all rs → (more : List (Range ℕ K)) × (rs ≡ done ++ more) × AreRanges left more

pub goes_none : {K : Type 0} (all : List (List ℕ)) → GoesOn {K = K} all [] all
goes_none all = record { ahead = λ more are. are; back = λ rs are. (rs, refl, are) }

-- one range for a piece
pub range_once : {K : Type 0} (piece : List ℕ) (a b : Range ℕ K) → IsRangeOf piece a → IsRangeOf piece b → a ≡ b
range_once piece a b p q = p.3 ∙ sym q.3

-- a piece that isn't empty begins a list of ranges by its own
piece_first : {K : Type 0} (b : ℕ) (piece : List ℕ) (left : List (List ℕ)) (r : Range ℕ K) (more : List (Range ℕ K)) → IsRangeOf (b ∷ piece) r → AreRanges ((b ∷ piece) ∷ left) more → (rest : List (Range ℕ K)) × (more ≡ r ∷ rest) × AreRanges left rest
piece_first b piece left r [] is are = absurd are
piece_first b piece left r (x ∷ more) is are = (more, ap (λ y. y ∷ more) (range_once (b ∷ piece) x r are.0 is), are.1)

pub goes_more : {K : Type 0} (all : List (List ℕ)) (done new : List (Range ℕ K)) (piece : List ℕ) (left : List (List ℕ)) → GoesOn all done (piece ∷ left) → Gains piece done new → GoesOn all new left
goes_more all done new [] left on gains = rw gains (record { ahead = on.ahead; back = on.back })
goes_more {K} all done new (b ∷ piece) left on gains =
    let r : Range ℕ K = gains.0 in
    rw gains.2 (record {
      ahead = λ more are. rw append_assoc (on.ahead (r ∷ more) (gains.1, are));
      back = λ rs are.
          let rest = on.back rs are in
          let next = piece_first b piece left r rest.0 gains.1 rest.2 in
          (next.0, rest.1 ∙ ap (λ (t : List (Range ℕ K)). done ++ t) next.1 ∙ sym (append_assoc done (r ∷ []) next.0), next.2);
    })

pub goes_all : {K : Type 0} (all : List (List ℕ)) (done : List (Range ℕ K)) → GoesOn all done [] → AreRanges all done
goes_all {K} all done on = subst (λ (t : List (Range ℕ K)). AreRanges all t) (append-nil done) (on.ahead [] tt)

none_begins : {K : Type 0} (piece : List ℕ) (left : List (List ℕ)) (more : List (Range ℕ K)) → IsNoRange K piece → AreRanges (piece ∷ left) more → ⊥
none_begins [] left more wrong are = wrong
none_begins (b ∷ piece) left [] wrong are = are
none_begins (b ∷ piece) left (x ∷ more) wrong are = wrong x are.0

pub goes_wrong : {K : Type 0} (all : List (List ℕ)) (done : List (Range ℕ K)) (piece : List ℕ) (left : List (List ℕ)) → GoesOn all done (piece ∷ left) → IsNoRange K piece → (rs : List (Range ℕ K)) → ¬ AreRanges all rs
goes_wrong all done piece left on wrong rs are =
    let rest = on.back rs are in
    none_begins piece left rest.0 wrong rest.2

-- what a list with such a piece is read as
pub refused : {K : Type 0} (text : List ℕ) (done new : List (Range ℕ K)) (piece : List ℕ) (left : List (List ℕ)) (e : ClientError) → GoesOn (pieces_of text) done (piece ∷ left) → AddsPiece piece done new (Err e) → ReadsRanges {K = K} text (Err e)
refused text done new piece left InvalidArguments on adds = goes_wrong (pieces_of text) done piece left on adds
refused text done new piece left OutOfMemory on adds = tt
refused text done new piece left _ on adds = adds
