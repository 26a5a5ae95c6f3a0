-- A body of ranges of a xorb is sent in one way.
use Rattle.std.proofs.Common.{◌≡◌, ◌∙◌, ℕ, true, false, List, [], ◌∷◌, map, Option, Some, None, Result, Ok, Err, refl, sym, ap, subst, arith, inl, inr}
use Rattle.std.proofs.lemmas.Bool.{cases_lt}
use Rattle.xet_types.specs.declared.error.Refusal.{Refusal}
use Rattle.xet_types.specs.declared.error.Refusal.TheVariants.{InvalidRange}
use Rattle.xet_types.specs.declared.range.Range.{Range}
use Rattle.xet_types.specs.declared.range._F.{_F}
use Rattle.xet_xorb.specs.Lengths.{serialized_length}
use Rattle.xet_xorb.specs.ChunkLists.{lengths_of}
use Rattle.xet_wire.specs.Multipart.{Part, IsBoundaryOf, IsLeastNumbered, IsAbsent, numbered_boundary, content_of, content_type_text, multipart_text, WritesMultipart}
use Rattle.xet_store.specs.StoreModel.{StoreModel, Chunks, stored}
use Rattle.xet_service.specs.Bodies.{Body, part_at, IsInParts, IsBodyOf, Sends, SendsOf, SendsStored}

-- the least number is one
least_once : (parts : List (List ℕ)) (a b : List ℕ) → IsLeastNumbered parts a → IsLeastNumbered parts b → a ≡ b
least_once parts a b h g = elim (cases_lt h.number g.number) as (λ _. a ≡ b) [
  | inl lt ↦ absurd (g.least h.number lt (subst (λ (t : List ℕ). IsAbsent t parts) h.text h.absent))
  | inr le ↦
      (elim (cases_lt g.number h.number) as (λ _. a ≡ b) [
        | inl lt ↦ absurd (h.least g.number lt (subst (λ (t : List ℕ). IsAbsent t parts) g.text g.absent))
        | inr ge ↦ (let same : h.number ≡ g.number = omega (arith, le, ge) in h.text ∙ ap numbered_boundary same ∙ sym g.text)
      ])
]

boundary_once : (parts : List (List ℕ)) (a b : List ℕ) → IsBoundaryOf parts a → IsBoundaryOf parts b → a ≡ b
boundary_once parts a b (inl h) (inl g) = h.0 ∙ sym g.0
boundary_once parts a b (inl h) (inr g) = absurd (g.0 h.1)
boundary_once parts a b (inr h) (inl g) = absurd (h.0 g.1)
boundary_once parts a b (inr h) (inr g) = least_once parts a b h.1 g.1

writes_once : (parts : List Part) (total : ℕ) (t b u c : List ℕ) → WritesMultipart parts total t b → WritesMultipart parts total u c → (t ≡ u) × (b ≡ c)
writes_once parts total t b u c h g =
    let same = boundary_once (map content_of parts) h.boundary g.boundary h.chosen g.chosen in
    (h.type ∙ ap content_type_text same ∙ sym g.type, h.text ∙ ap (λ (x : List ℕ). multipart_text x total parts) same ∙ sym g.text)

parts_same : (chunks : Chunks) (rs : List (Range ℕ _F)) (x y : Body) → IsInParts chunks rs x → IsInParts chunks rs y → x ≡ y
parts_same chunks rs x y h g =
    let one = writes_once (map (part_at chunks) rs) (serialized_length (lengths_of chunks)) h.content_type x.bytes g.content_type y.bytes h.written g.written in
    let typed : x.content_type ≡ y.content_type = h.typed ∙ ap (λ (t : List ℕ). Some t) one.0 ∙ sym g.typed in
    rw (typed, one.1) refl

body_once : (chunks : Chunks) (rs : List (Range ℕ _F)) (x y : Body) → IsBodyOf chunks rs x → IsBodyOf chunks rs y → x ≡ y
body_once chunks [] x y h g = parts_same chunks [] x y h g
body_once chunks (r ∷ []) x y h g = h ∙ sym g
body_once chunks (r ∷ (q ∷ rs)) x y h g = parts_same chunks (r ∷ (q ∷ rs)) x y h g

sent_once : (chunks : Chunks) (rs : List (Range ℕ _F)) (a b : Result Body Refusal) → Sends chunks rs a → Sends chunks rs b → a ≡ b
sent_once chunks rs (Ok x) (Ok y) h g = ap (λ (z : Body). Ok z) (body_once chunks rs x y h.1 g.1)
sent_once chunks rs (Ok x) (Err InvalidRange) h g = absurd (let f : true ≡ false = sym h.0 ∙ g in cc)
sent_once chunks rs (Ok x) (Err why) h g = absurd g
sent_once chunks rs (Err InvalidRange) (Ok y) h g = absurd (let f : true ≡ false = sym g.0 ∙ h in cc)
sent_once chunks rs (Err InvalidRange) (Err InvalidRange) h g = refl
sent_once chunks rs (Err InvalidRange) (Err why) h g = absurd g
sent_once chunks rs (Err why) b h g = absurd h

of_once : (hash : List ℕ) (rs : List (Range ℕ _F)) (o : Option Chunks) (a b : Result Body Refusal) → SendsOf hash rs o a → SendsOf hash rs o b → a ≡ b
of_once hash rs None a b h g = h ∙ sym g
of_once hash rs (Some chunks) a b h g = sent_once chunks rs a b h g

pub stored_sent_once : (m : StoreModel) (hash : List ℕ) (rs : List (Range ℕ _F)) (a b : Result Body Refusal) → SendsStored m hash rs a → SendsStored m hash rs b → a ≡ b
stored_sent_once m hash rs a b h g = of_once hash rs (stored m hash) a b h g
