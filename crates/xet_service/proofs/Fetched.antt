-- What fetching ranges of a xorb owes, from what its calls answer.
use Rattle.std.proofs.Common.{◌≡◌, ◌≢◌, ◌∙◌, ◌&&◌, ℕ, zero, suc, ◌+◌, ◌<◌, true, false, Bool, List, [], ◌∷◌, ◌++◌, length, map, take, get_or, Option, Some, None, Result, Ok, Err, refl, sym, ap, subst, arith}
use Rattle.std.specs.Prelude.{if◌then◌else◌}
use Rattle.std.specs.Global.{Vec}
use Rattle.std.proofs.lemmas.Bool.{and_parts}
use Rattle.std.proofs.lemmas.List.{map-append, take_more}
use Rattle.xet_types.specs.Faults.{refusal_of}
use Rattle.xet_types.specs.declared.error.ClientError.{ClientError}
use Rattle.xet_types.specs.declared.error.Refusal.{Refusal}
use Rattle.xet_types.specs.declared.error.Refusal.TheVariants.{FormatError, InvalidRange, InvalidArguments, FileNotFound, XORBNotFound, PresignedUrlExpirationError, IOError, Other, InvalidKey, CacheError, HttpStatus}
use Rattle.xet_types.specs.declared.range.Range.{Range}
use Rattle.xet_types.specs.declared.range._F.{_F}
use Rattle.xet_xorb.specs.Lengths.{serialized_length}
use Rattle.xet_xorb.specs.ChunkLists.{lengths_of}
use Rattle.xet_wire.specs.Multipart.{Part, part_of, WritesMultipart, SpellsMultipart}
use Rattle.xet_store.specs.StoreModel.{StoreModel, Chunks, stored}
use Rattle.xet_store.specs.Questions.{of_xorb, xorb_raw_length}
use Rattle.xet_store.specs.Told.{Asks, AsksErr}
use Rattle.xet_service.specs.Bodies.{Body, plain, lies_in, all_lie_in, bytes_at, piece_of, stored_piece, part_at, IsInParts, Sends, SendsOf, SendsStored, Cuts, CutsOf, CutsStored, shown_cuts}

-- what a refusal says in one way it says in another
asks_so : {T U : Type 0} (P : Result T Refusal → Type 0) (R : Result U Refusal → Type 0) (e : ClientError) → ((why : Refusal) → P (Err why) → R (Err why)) → Asks {T = T} P (Err e) → Asks {T = U} R (Err e)
asks_so {T} {U} P R e f h = of (refusal_of e) h
  where
    of : (o : Option Refusal) → AsksErr {T = T} P o → AsksErr {T = U} R o
    of None k = tt
    of (Some IOError) k = tt
    of (Some (FormatError g)) k = f (FormatError g) k
    of (Some InvalidRange) k = f InvalidRange k
    of (Some InvalidArguments) k = f InvalidArguments k
    of (Some (FileNotFound g)) k = f (FileNotFound g) k
    of (Some (XORBNotFound g)) k = f (XORBNotFound g) k
    of (Some PresignedUrlExpirationError) k = f PresignedUrlExpirationError k
    of (Some Other) k = f Other k
    of (Some InvalidKey) k = f InvalidKey k
    of (Some CacheError) k = f CacheError k
    of (Some (HttpStatus n)) k = f (HttpStatus n) k

-- ---- pieces

record IsPiece (chunks : Chunks) (r : Range ℕ _F) (bytes : List ℕ) : Type 0 where
  lies : lies_in chunks r ≡ true
  is : bytes ≡ bytes_at chunks r

piece_is : (chunks : Chunks) (r : Range ℕ _F) (bytes : List ℕ) → Ok bytes ≡ piece_of r chunks → IsPiece chunks r bytes
piece_is chunks r bytes e = of (lies_in chunks r) refl e
  where
    of : (b : Bool) → lies_in chunks r ≡ b → Ok bytes ≡ (if b then Ok (bytes_at chunks r) else Err InvalidRange) → IsPiece chunks r bytes
    of true l k = record { lies = l; is = cc }
    of false l k = absurd cc

record IsOutside (chunks : Chunks) (r : Range ℕ _F) (why : Refusal) : Type 0 where
  lies : lies_in chunks r ≡ false
  is : why ≡ InvalidRange

outside_is : (chunks : Chunks) (r : Range ℕ _F) (why : Refusal) → Err why ≡ piece_of r chunks → IsOutside chunks r why
outside_is chunks r why e = of (lies_in chunks r) refl e
  where
    of : (b : Bool) → lies_in chunks r ≡ b → Err why ≡ (if b then Ok (bytes_at chunks r) else Err InvalidRange) → IsOutside chunks r why
    of true l k = absurd cc
    of false l k = record { lies = l; is = cc }

all_more : (chunks : Chunks) (rs : List (Range ℕ _F)) (r : Range ℕ _F) → all_lie_in chunks rs ≡ true → lies_in chunks r ≡ true → all_lie_in chunks (rs ++ r ∷ []) ≡ true
all_more chunks [] r e f = rw f refl
all_more chunks (q ∷ rs) r e f = let both = and_parts (lies_in chunks q) (all_lie_in chunks rs) e in rw (both.0, all_more chunks rs r both.1 f) refl

no_more : (b : Bool) → b && false ≡ false
no_more true = refl
no_more false = refl

none_in : (chunks : Chunks) (rs : List (Range ℕ _F)) (i : ℕ) (r : Range ℕ _F) → i < length rs → r ≡ get_or rs i r → lies_in chunks r ≡ false → all_lie_in chunks rs ≡ false
none_in chunks [] i r l is e = absurd (omega (arith, l))
none_in chunks (q ∷ rs) zero r l is e = let out : lies_in chunks q ≡ false = ap (lies_in chunks) (sym is) ∙ e in rw out refl
none_in chunks (q ∷ rs) (suc i) r l is e = rw (none_in chunks rs i r (omega (arith, l)) is e) (no_more (lies_in chunks q))

-- one more piece
cuts_more : (m : StoreModel) (hash : List ℕ) (rs : List (Range ℕ _F)) (r : Range ℕ _F) (pieces : List (Range ℕ _F × List ℕ)) (bytes : List ℕ) → CutsStored m hash rs (Ok pieces) → Ok bytes ≡ stored_piece m hash r
    → CutsStored m hash (rs ++ r ∷ []) (Ok (pieces ++ (r, bytes) ∷ []))
cuts_more m hash rs r pieces bytes h e = of (stored m hash) rs h e
  where
    of : (o : Option Chunks) (qs : List (Range ℕ _F)) → CutsOf hash qs o (Ok pieces) → Ok bytes ≡ of_xorb hash (piece_of r) o → CutsOf hash (qs ++ r ∷ []) o (Ok (pieces ++ (r, bytes) ∷ []))
    of None qs k e = absurd cc
    of (Some chunks) [] k e =
        let piece = piece_is chunks r bytes e in
        let none : pieces ≡ [] = cc in
        subst (λ (ps : List (Range ℕ _F × List ℕ)). Cuts (r ∷ []) chunks (Ok (ps ++ (r, bytes) ∷ []))) (sym none) (all_more chunks [] r refl piece.lies, ap (λ (b : List ℕ). part_of (r, b) ∷ []) piece.is)
    of (Some chunks) (d ∷ ds) k e =
        let piece = piece_is chunks r bytes e in (
          all_more chunks (d ∷ ds) r k.0 piece.lies,
          map-append part_of pieces ((r, bytes) ∷ []) ∙ ap (λ (ps : List Part). ps ++ part_of (r, bytes) ∷ []) k.1 ∙ ap (λ (b : List ℕ). map (part_at chunks) (d ∷ ds) ++ part_of (r, b) ∷ []) piece.is
              ∙ sym (map-append (part_at chunks) (d ∷ ds) (r ∷ [])),
        )

cuts_none : (m : StoreModel) (hash : List ℕ) (rs : List (Range ℕ _F)) (i : ℕ) (r : Range ℕ _F) → i < length rs → r ≡ get_or rs i r → (why : Refusal) → Err why ≡ stored_piece m hash r → CutsStored m hash rs (Err why)
cuts_none m hash rs i r l is why e = of (stored m hash) rs l is e
  where
    of : (o : Option Chunks) (qs : List (Range ℕ _F)) → i < length qs → r ≡ get_or qs i r → Err why ≡ of_xorb hash (piece_of r) o → CutsOf hash qs o (Err why)
    of o [] l is e = absurd (omega (arith, l))
    of None (q ∷ qs) l is e = let same : why ≡ XORBNotFound hash = cc in ap Err same
    of (Some chunks) (q ∷ qs) l is e =
        let out = outside_is chunks r why e in
        subst (λ (w : Refusal). Cuts (q ∷ qs) chunks (Err w)) (sym out.is) (none_in chunks (q ∷ qs) i r l is out.lies)

-- a piece that is refused refuses all
pieces_refused : (m : StoreModel) (hash : List ℕ) (rs : List (Range ℕ _F)) (i : ℕ) (r : Range ℕ _F) (e : ClientError) → i < length rs → r ≡ get_or rs i r → Asks {T = List ℕ} (λ q. q ≡ stored_piece m hash r) (Err e)
    → Asks {T = Vec (Range ℕ _F × List ℕ)} (λ q. CutsStored m hash rs (shown_cuts q)) (Err e)
pieces_refused m hash rs i r e l is h = asks_so (λ q. q ≡ stored_piece m hash r) (λ q. CutsStored m hash rs (shown_cuts q)) e (cuts_none m hash rs i r l is) h

any_default : (rs : List (Range ℕ _F)) (i : ℕ) (d e : Range ℕ _F) → i < length rs → get_or rs i d ≡ get_or rs i e
any_default [] i d e l = absurd (omega (arith, l))
any_default (q ∷ rs) zero d e l = refl
any_default (q ∷ rs) (suc i) d e l = any_default rs i d e (omega (arith, l))

pub refused_at : (m : StoreModel) (hash : List ℕ) (rs : List (Range ℕ _F)) (i : ℕ) (d : Range ℕ _F) (e : ClientError) → i < length rs → Asks {T = List ℕ} (λ q. q ≡ stored_piece m hash (get_or rs i d)) (Err e)
    → Asks {T = Vec (Range ℕ _F × List ℕ)} (λ q. CutsStored m hash rs (shown_cuts q)) (Err e)
refused_at m hash rs i d e l h = pieces_refused m hash rs i (get_or rs i d) e l (any_default rs i d (get_or rs i d) l) h

pub cuts_at : (m : StoreModel) (hash : List ℕ) (rs : List (Range ℕ _F)) (i : ℕ) (d : Range ℕ _F) (pieces : List (Range ℕ _F × List ℕ)) (bytes : List ℕ) → i < length rs → CutsStored m hash (take i rs) (Ok pieces)
    → Ok bytes ≡ stored_piece m hash (get_or rs i d) → CutsStored m hash (take (i + 1) rs) (Ok (pieces ++ (get_or rs i d, bytes) ∷ []))
cuts_at m hash rs i d pieces bytes l h e =
    subst (λ (ts : List (Range ℕ _F)). CutsStored m hash ts (Ok (pieces ++ (get_or rs i d, bytes) ∷ []))) (sym (take_more rs i d l)) (cuts_more m hash (take i rs) (get_or rs i d) pieces bytes h e)

-- ---- bodies

-- one range
pub sends_plain : (m : StoreModel) (hash : List ℕ) (r : Range ℕ _F) (bytes : List ℕ) → Ok bytes ≡ stored_piece m hash r → SendsStored m hash (r ∷ []) (Ok (plain bytes))
sends_plain m hash r bytes e = of (stored m hash) e
  where
    of : (o : Option Chunks) → Ok bytes ≡ of_xorb hash (piece_of r) o → SendsOf hash (r ∷ []) o (Ok (plain bytes))
    of None e = absurd cc
    of (Some chunks) e = let piece = piece_is chunks r bytes e in (all_more chunks [] r refl piece.lies, ap plain piece.is)

plain_none : (m : StoreModel) (hash : List ℕ) (r : Range ℕ _F) (why : Refusal) → Err why ≡ stored_piece m hash r → SendsStored m hash (r ∷ []) (Err why)
plain_none m hash r why e = of (stored m hash) e
  where
    of : (o : Option Chunks) → Err why ≡ of_xorb hash (piece_of r) o → SendsOf hash (r ∷ []) o (Err why)
    of None e = let same : why ≡ XORBNotFound hash = cc in ap Err same
    of (Some chunks) e =
        let out = outside_is chunks r why e in
        subst (λ (w : Refusal). Sends chunks (r ∷ []) (Err w)) (sym out.is) (rw (out.lies) refl)

pub plain_refused : (m : StoreModel) (hash : List ℕ) (r : Range ℕ _F) (e : ClientError) → Asks {T = List ℕ} (λ q. q ≡ stored_piece m hash r) (Err e) → Asks {T = Body} (SendsStored m hash (r ∷ [])) (Err e)
plain_refused m hash r e h = asks_so (λ q. q ≡ stored_piece m hash r) (SendsStored m hash (r ∷ [])) e (plain_none m hash r) h

-- the xorb isn't there
absent : (m : StoreModel) (hash : List ℕ) (rs : List (Range ℕ _F)) (why : Refusal) → Err why ≡ xorb_raw_length m hash → SendsStored m hash rs (Err why)
absent m hash rs why e = of (stored m hash) e
  where
    of : (o : Option Chunks) → Err why ≡ of_xorb hash (λ (chunks : Chunks). Ok (serialized_length (lengths_of chunks))) o → SendsOf hash rs o (Err why)
    of None e = let same : why ≡ XORBNotFound hash = cc in ap Err same
    of (Some chunks) e = absurd cc

pub absent_refused : (m : StoreModel) (hash : List ℕ) (rs : List (Range ℕ _F)) (e : ClientError) → Asks {T = ℕ} (λ q. q ≡ xorb_raw_length m hash) (Err e) → Asks {T = Body} (SendsStored m hash rs) (Err e)
absent_refused m hash rs e h = asks_so (λ q. q ≡ xorb_raw_length m hash) (SendsStored m hash rs) e (absent m hash rs) h

-- a piece isn't
uncut : (m : StoreModel) (hash : List ℕ) (rs : List (Range ℕ _F)) (why : Refusal) → CutsStored m hash rs (Err why) → SendsStored m hash rs (Err why)
uncut m hash rs why h = of (stored m hash) rs why h
  where
    of : (o : Option Chunks) (qs : List (Range ℕ _F)) (w : Refusal) → CutsOf hash qs o (Err w) → SendsOf hash qs o (Err w)
    of o [] w k = absurd cc
    of None (q ∷ qs) w k = let same : w ≡ XORBNotFound hash = cc in ap Err same
    of (Some chunks) (q ∷ qs) InvalidRange k = k
    of (Some chunks) (q ∷ qs) (FormatError g) k = absurd k
    of (Some chunks) (q ∷ qs) InvalidArguments k = absurd k
    of (Some chunks) (q ∷ qs) (FileNotFound g) k = absurd k
    of (Some chunks) (q ∷ qs) (XORBNotFound g) k = absurd k
    of (Some chunks) (q ∷ qs) PresignedUrlExpirationError k = absurd k
    of (Some chunks) (q ∷ qs) IOError k = absurd k
    of (Some chunks) (q ∷ qs) Other k = absurd k
    of (Some chunks) (q ∷ qs) InvalidKey k = absurd k
    of (Some chunks) (q ∷ qs) CacheError k = absurd k
    of (Some chunks) (q ∷ qs) (HttpStatus n) k = absurd k

pub uncut_refused : (m : StoreModel) (hash : List ℕ) (rs : List (Range ℕ _F)) (e : ClientError) → Asks {T = Vec (Range ℕ _F × List ℕ)} (λ q. CutsStored m hash rs (shown_cuts q)) (Err e) → Asks {T = Body} (SendsStored m hash rs) (Err e)
uncut_refused m hash rs e h = asks_so (λ q. CutsStored m hash rs (shown_cuts q)) (SendsStored m hash rs) e (uncut m hash rs) h

-- any number of ranges but one
pub sends_parts : (m : StoreModel) (hash : List ℕ) (rs : List (Range ℕ _F)) (pieces : List (Range ℕ _F × List ℕ)) (total : ℕ) (content_type bytes : List ℕ) → length rs ≢ 1 → Ok total ≡ xorb_raw_length m hash → CutsStored m hash rs (Ok pieces)
    → WritesMultipart (map part_of pieces) total content_type bytes → SpellsMultipart content_type bytes (map part_of pieces)
    → SendsStored m hash rs (Ok (record { content_type = Some content_type; bytes = bytes }))
sends_parts m hash rs pieces total content_type bytes some long cuts written spelled = of (stored m hash) rs some long cuts
  where
    body : Body
    body = record { content_type = Some content_type; bytes = bytes }

    in_parts : (chunks : Chunks) (qs : List (Range ℕ _F)) → total ≡ serialized_length (lengths_of chunks) → map part_of pieces ≡ map (part_at chunks) qs → IsInParts chunks qs body
    in_parts chunks qs t same = record {
      content_type = content_type;
      typed = refl;
      written = subst (λ (ps : List Part). WritesMultipart ps (serialized_length (lengths_of chunks)) content_type bytes) same (subst (λ (n : ℕ). WritesMultipart (map part_of pieces) n content_type bytes) t written);
      spelled = subst (λ (ps : List Part). SpellsMultipart content_type bytes ps) same spelled;
    }

    of : (o : Option Chunks) (qs : List (Range ℕ _F)) → length qs ≢ 1 → Ok total ≡ of_xorb hash (λ (chunks : Chunks). Ok (serialized_length (lengths_of chunks))) o → CutsOf hash qs o (Ok pieces) → SendsOf hash qs o (Ok body)
    of None qs n e k = absurd cc
    of (Some chunks) [] n e k =
        let none : pieces ≡ [] = cc in
        let t : total ≡ serialized_length (lengths_of chunks) = cc in
        (refl, in_parts chunks [] t (ap (map part_of) none))
    of (Some chunks) (q ∷ []) n e k = absurd (n refl)
    of (Some chunks) (q ∷ (p ∷ qs)) n e k =
        let t : total ≡ serialized_length (lengths_of chunks) = cc in
        (k.0, in_parts chunks (q ∷ (p ∷ qs)) t k.1)
