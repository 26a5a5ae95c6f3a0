-- What the code that cuts a body into parts and reads them owes, from what its calls answer.
use Rattle.std.proofs.Common.{◌≡◌, ◌∙◌, ℕ, zero, suc, ◌<◌, eqb, eq-eqb, Bool, true, false, List, [], ◌∷◌, ◌++◌, length, map, drop, get_or, Option, Some, None, Result, Ok, Err, refl, sym, ap, subst, arith, inl, inr}
use Rattle.std.specs.Prelude.{⊤}
use Rattle.std.specs.Global.{Vec}
use Rattle.std.proofs.lemmas.Bool.{and_parts, eqb-true}
use Rattle.xet_types.specs.Faults.{refusal_of}
use Rattle.xet_types.specs.declared.error.ClientError.{ClientError}
use Rattle.xet_types.specs.declared.error.ClientError.TheVariants as errors
use Rattle.xet_types.specs.declared.error.Refusal.{Refusal}
use Rattle.xet_types.specs.declared.error.Refusal.TheVariants.{FormatError, InvalidRange, InvalidArguments, FileNotFound, XORBNotFound, PresignedUrlExpirationError, IOError, Other, InvalidKey, CacheError, HttpStatus}
use Rattle.xet_types.specs.declared.error.FormatFault.TheVariants as faults
use Rattle.xet_types.specs.declared.range.Range.{Range}
use Rattle.xet_types.specs.declared.range._H.{_H}
use Rattle.xet_types.specs.declared.record.XorbRangeDescriptor.{XorbRangeDescriptor}
use Rattle.xet_xorb.specs.XorbBytes.{AreWholeChunks, ReadsWholeChunks}
use Rattle.xet_wire.specs.Multipart.{Part, content_of, IsReadAs, ReadsMultipart}
use Rattle.xet_store.specs.Answered.{Answered, AnsweredErr}
use Rattle.xet_store.specs.StoreModel.{Chunks}
use Rattle.xet_service.specs.declared.reader.held.HeldTerm.{HeldTerm}
use Rattle.xet_service.specs.declared.reader.link.ReadLink.{ReadLink}
use Rattle.xet_service.specs.Reading.{IsMultipart, bytes_in, range_of_part, range_bytes, have_counts, fits, IsReadInParts, IsCutInto, HasParts, AreSized, AreAllWhole, Brings}
use Rattle.xet_service.specs.ReadingParts.{is_of, are_of, are_sized, CutsApart, ReadsParts, BringsCut}
use Rattle.xet_service.proofs.Parted.{cut_once}

-- ---- ranges and lengths

same_of : (r : XorbRangeDescriptor) (p : Part) → is_of r p ≡ true → p.range ≡ r.bytes
same_of r p e =
    let both = and_parts (eqb p.range.start r.bytes.start) (eqb p.range.end r.bytes.end) e in
    let start : p.range.start ≡ r.bytes.start = eqb-true p.range.start r.bytes.start both.0 in
    let end : p.range.end ≡ r.bytes.end = eqb-true p.range.end r.bytes.end both.1 in
    rw (start, end) refl

of_same : (r : XorbRangeDescriptor) (p : Part) → p.range ≡ r.bytes → is_of r p ≡ true
of_same r p e = rw (eq-eqb p.range.start r.bytes.start (ap (λ (q : Range ℕ _H). q.start) e), eq-eqb p.range.end r.bytes.end (ap (λ (q : Range ℕ _H). q.end) e)) refl

pub are_same : (rs : List XorbRangeDescriptor) (ps : List Part) → are_of rs ps ≡ true → map range_of_part ps ≡ map range_bytes rs
are_same [] [] e = refl
are_same [] (p ∷ ps) e = absurd cc
are_same (r ∷ rs) [] e = absurd cc
are_same (r ∷ rs) (p ∷ ps) e =
    let both = and_parts (is_of r p) (are_of rs ps) e in
    ap (λ (q : Range ℕ _H). q ∷ map range_of_part ps) (same_of r p both.0) ∙ ap (λ (qs : List (Range ℕ _H)). r.bytes ∷ qs) (are_same rs ps both.1)

same_are : (rs : List XorbRangeDescriptor) (ps : List Part) → map range_of_part ps ≡ map range_bytes rs → are_of rs ps ≡ true
same_are [] [] e = refl
same_are [] (p ∷ ps) e = absurd cc
same_are (r ∷ rs) [] e = absurd cc
same_are (r ∷ rs) (p ∷ ps) e =
    let head : p.range ≡ r.bytes = cc in
    let tail : map range_of_part ps ≡ map range_bytes rs = cc in
    rw (of_same r p head, same_are rs ps tail) refl

abbrev size_of : XorbRangeDescriptor → ℕ
size_of r = bytes_in r.bytes

pub are_long : (rs : List XorbRangeDescriptor) (ps : List (List ℕ)) → are_sized rs ps ≡ true → AreSized rs ps
are_long [] [] e = refl
are_long [] (p ∷ ps) e = absurd cc
are_long (r ∷ rs) [] e = absurd cc
are_long (r ∷ rs) (p ∷ ps) e =
    let both = and_parts (eqb (size_of r) (length p)) (are_sized rs ps) e in
    ap (λ (n : ℕ). n ∷ map length ps) (sym (eqb-true (size_of r) (length p) both.0)) ∙ ap (λ (ns : List ℕ). size_of r ∷ ns) (are_long rs ps both.1)

long_are : (rs : List XorbRangeDescriptor) (ps : List (List ℕ)) → map length ps ≡ map size_of rs → are_sized rs ps ≡ true
long_are [] [] e = refl
long_are [] (p ∷ ps) e = absurd cc
long_are (r ∷ rs) [] e = absurd cc
long_are (r ∷ rs) (p ∷ ps) e =
    let head : length p ≡ size_of r = cc in
    let tail : map length ps ≡ map size_of rs = cc in
    rw (eq-eqb (size_of r) (length p) (sym head), long_are rs ps tail) refl

-- ranges that are left, and no more parts
pub none_are : (rs : List XorbRangeDescriptor) (i : ℕ) (ps : List Part) → i < length rs → length ps ≡ 0 → are_of (drop i rs) ps ≡ false
none_are [] i ps l n = absurd (omega (arith, l))
none_are (r ∷ rs) zero [] l n = refl
none_are (r ∷ rs) zero (p ∷ ps) l n = absurd (omega (arith, n))
none_are (r ∷ rs) (suc i) ps l n = none_are rs i ps (omega (arith, l)) n

pub none_sized : (rs : List XorbRangeDescriptor) (i : ℕ) (ps : List (List ℕ)) → i < length rs → length ps ≡ 0 → are_sized (drop i rs) ps ≡ false
none_sized [] i ps l n = absurd (omega (arith, l))
none_sized (r ∷ rs) zero [] l n = refl
none_sized (r ∷ rs) zero (p ∷ ps) l n = absurd (omega (arith, n))
none_sized (r ∷ rs) (suc i) ps l n = none_sized rs i ps (omega (arith, l)) n

pub none_counted : (rs : List XorbRangeDescriptor) (i : ℕ) (got : List Chunks) → i < length rs → length got ≡ 0 → have_counts (drop i rs) got ≡ false
none_counted [] i got l n = absurd (omega (arith, l))
none_counted (r ∷ rs) zero [] l n = refl
none_counted (r ∷ rs) zero (c ∷ got) l n = absurd (omega (arith, n))
none_counted (r ∷ rs) (suc i) got l n = none_counted rs i got (omega (arith, l)) n

-- ---- refusals

-- what a refusal says in one way it says in another
pub answers_so : {T U : Type 0} (P : Result T Refusal → Type 0) (R : Result U Refusal → Type 0) (e : ClientError) → ((why : Refusal) → P (Err why) → R (Err why)) → Answered {T = T} (Err e) P ⊤ → Answered {T = U} (Err e) R ⊤
answers_so {T} {U} P R e f h = of (refusal_of e) h
  where
    of : (o : Option Refusal) → AnsweredErr {T = T} o P ⊤ → AnsweredErr {T = U} o R ⊤
    of (Some why) k = f why k
    of None k = tt

module _ (rs : List XorbRangeDescriptor) (content_type body : List ℕ) where
  -- a body that isn't read
  pub unread : (e : ClientError) → ReadsMultipart content_type body (Err e) → Answered {T = List (List ℕ)} (Err e) (CutsApart rs content_type body) ⊤
  unread (errors.Other t) h = λ parts k. h k.is.given k.is.spelled
  unread errors.OutOfMemory h = tt
  unread (errors.FormatError f) h = absurd h
  unread errors.InvalidRange h = absurd h
  unread errors.InvalidArguments h = absurd h
  unread (errors.FileNotFound f) h = absurd h
  unread (errors.XORBNotFound f) h = absurd h
  unread errors.PresignedUrlExpirationError h = absurd h
  unread errors.IOError h = absurd h
  unread (errors.InvalidKey t) h = absurd h
  unread (errors.CacheError t) h = absurd h
  unread (errors.HttpStatus n) h = absurd h

  -- a body whose parts aren't those of the ranges
  pub unlike_parts : (read : Vec Part) → ((ps : List Part) → IsReadAs content_type body ps → read.items ≡ ps) → are_of rs read.items ≡ false → CutsApart rs content_type body (Err Other)
  unlike_parts read once e = λ parts k.
      let same : read.items ≡ k.read = once k.read k.is in
      let f : true ≡ false = sym (same_are rs k.read k.same) ∙ ap (are_of rs) (sym same) ∙ e in cc

  pub like_parts : (read : Vec Part) (parts : List (List ℕ)) → IsReadAs content_type body read.items → are_of rs read.items ≡ true → parts ≡ map content_of read.items → IsReadInParts rs content_type body parts
  like_parts read parts is e contents = record { read = read.items; is = is; same = are_same rs read.items e; contents = contents }

-- ---- whole parts

pub whole_more : (done : List (List ℕ)) (got : List Chunks) (p : List ℕ) (c : Chunks) → AreAllWhole done got → AreWholeChunks p c → AreAllWhole (done ++ p ∷ []) (got ++ c ∷ [])
whole_more [] [] p c h w = (w, tt)
whole_more [] (d ∷ got) p c h w = absurd h
whole_more (q ∷ done) [] p c h w = absurd h
whole_more (q ∷ done) (d ∷ got) p c h w = (h.0, whole_more done got p c h.1 w)

-- where a part isn't whole chunks, not all are
pub whole_none : (parts : List (List ℕ)) (i : ℕ) (p : List ℕ) → i < length parts → p ≡ get_or parts i p → ((c : Chunks) → AreWholeChunks p c → ⊥) → (got : List Chunks) → AreAllWhole parts got → ⊥
whole_none [] i p l is none got h = absurd (omega (arith, l))
whole_none (q ∷ parts) i p l is none [] h = h
whole_none (q ∷ parts) zero p l is none (d ∷ got) h = none d (subst (λ (t : List ℕ). AreWholeChunks t d) (sym is) h.0)
whole_none (q ∷ parts) (suc i) p l is none (d ∷ got) h = whole_none parts i p (omega (arith, l)) is none got h.1

pub part_refused : (parts : List (List ℕ)) (i : ℕ) (p : List ℕ) (e : ClientError) → i < length parts → p ≡ get_or parts i p → ReadsWholeChunks p (Err e) → Answered {T = List Chunks} (Err e) (ReadsParts parts) ⊤
part_refused parts i p (errors.FormatError faults.Xorb) l is h = whole_none parts i p l is h
part_refused parts i p (errors.FormatError faults.Shard) l is h = absurd h
part_refused parts i p (errors.FormatError faults.Segment) l is h = absurd h
part_refused parts i p (errors.FormatError faults.Table) l is h = absurd h
part_refused parts i p (errors.FormatError faults.Body) l is h = absurd h
part_refused parts i p errors.OutOfMemory l is h = tt
part_refused parts i p (errors.Other t) l is h = absurd h
part_refused parts i p errors.InvalidRange l is h = absurd h
part_refused parts i p errors.InvalidArguments l is h = absurd h
part_refused parts i p (errors.FileNotFound f) l is h = absurd h
part_refused parts i p (errors.XORBNotFound f) l is h = absurd h
part_refused parts i p errors.PresignedUrlExpirationError l is h = absurd h
part_refused parts i p errors.IOError l is h = absurd h
part_refused parts i p (errors.InvalidKey t) l is h = absurd h
part_refused parts i p (errors.CacheError t) l is h = absurd h
part_refused parts i p (errors.HttpStatus n) l is h = absurd h

-- ---- a link's chunks

-- parts that aren't all whole chunks
pub chunks_refused : (l : ReadLink) (parts : List (List ℕ)) (e : ClientError) → AreSized l.ranges parts → Answered {T = List Chunks} (Err e) (ReadsParts parts) ⊤ → Answered {T = List Chunks} (Err e) (BringsCut l parts) ⊤
chunks_refused l parts e sized h = answers_so (ReadsParts parts) (BringsCut l parts) e of h
  where
    of : (why : Refusal) → ReadsParts parts (Err why) → BringsCut l parts (Err why)
    of (FormatError faults.Xorb) k = (sized, k)
    of (FormatError faults.Shard) k = absurd k
    of (FormatError faults.Segment) k = absurd k
    of (FormatError faults.Table) k = absurd k
    of (FormatError faults.Body) k = absurd k
    of Other k = absurd k
    of InvalidRange k = k
    of InvalidArguments k = k
    of (FileNotFound f) k = k
    of (XORBNotFound f) k = k
    of PresignedUrlExpirationError k = k
    of IOError k = k
    of InvalidKey k = k
    of CacheError k = k
    of (HttpStatus n) k = k

-- parts whose chunks fit, and such whose chunks don't
pub fits_so : (l : ReadLink) (parts : List (List ℕ)) (ranges : List XorbRangeDescriptor) (held : List HeldTerm) (shown got : List Chunks) (b : Bool) → AreSized l.ranges parts → AreAllWhole parts got → ranges ≡ l.ranges → held ≡ l.held → shown ≡ got → b ≡ fits ranges held shown → b ≡ true
    → BringsCut l parts (Ok got)
fits_so l parts ranges held shown got b sized whole rs hs gs is e = let fit : fits l.ranges l.held got ≡ true = cc in (sized, (whole, fit))

pub misfits_so : (l : ReadLink) (parts : List (List ℕ)) (ranges : List XorbRangeDescriptor) (held : List HeldTerm) (shown got : List Chunks) (b : Bool) → AreSized l.ranges parts → AreAllWhole parts got → ranges ≡ l.ranges → held ≡ l.held → shown ≡ got → b ≡ fits ranges held shown → b ≡ false
    → BringsCut l parts (Err (FormatError faults.Body))
misfits_so l parts ranges held shown got b sized whole rs hs gs is e = let misfit : fits l.ranges l.held got ≡ false = cc in (sized, (got, (whole, misfit)))

-- parts that aren't as long as their ranges
pub unsized : (l : ReadLink) (parts : List (List ℕ)) → are_sized l.ranges parts ≡ false → AreSized l.ranges parts → ⊥
unsized l parts e sized = let f : true ≡ false = sym (long_are l.ranges parts sized) ∙ e in absurd cc

module _ (l : ReadLink) (content_type body : List ℕ) where
  none_apart : (parts : List (List ℕ)) → IsMultipart content_type → ((parts : List (List ℕ)) → IsReadInParts l.ranges content_type body parts → ⊥) → IsCutInto l.ranges content_type body parts → ⊥
  none_apart parts is k (inl j) = k parts j.1
  none_apart parts is k (inr j) = j.0 is

  -- a body that can't be cut in parts
  pub split_refused : (e : ClientError) → IsMultipart content_type → Answered {T = List (List ℕ)} (Err e) (CutsApart l.ranges content_type body) ⊤ → Answered {T = List Chunks} (Err e) (Brings l content_type body) ⊤
  split_refused e is h = answers_so (CutsApart l.ranges content_type body) (Brings l content_type body) e of h
    where
      of : (why : Refusal) → CutsApart l.ranges content_type body (Err why) → Brings l content_type body (Err why)
      of Other k = λ parts has. none_apart parts is k has.cut
      of (FormatError f) k = absurd k
      of InvalidRange k = k
      of InvalidArguments k = k
      of (FileNotFound f) k = k
      of (XORBNotFound f) k = k
      of PresignedUrlExpirationError k = k
      of IOError k = k
      of InvalidKey k = k
      of CacheError k = k
      of (HttpStatus n) k = k

  -- what its parts bring, a body brings
  pub cut_brings : (parts : List (List ℕ)) (result : Result (List Chunks) ClientError) → IsCutInto l.ranges content_type body parts → Answered result (BringsCut l parts) ⊤ → Answered result (Brings l content_type body) ⊤
  cut_brings parts (Ok got) cut h = record { parts = parts; has = record { cut = cut; sized = h.0 }; whole = h.1.0; fit = h.1.1 }
  cut_brings parts (Err e) cut h = answers_so (BringsCut l parts) (Brings l content_type body) e of h
    where
      of : (why : Refusal) → BringsCut l parts (Err why) → Brings l content_type body (Err why)
      of Other k = λ others has. k (subst (λ (p : List (List ℕ)). AreSized l.ranges p) (cut_once l.ranges content_type body others parts has.cut cut) has.sized)
      of (FormatError faults.Xorb) k = record { parts = parts; has = record { cut = cut; sized = k.0 }; none = k.1 }
      of (FormatError faults.Body) k = record { parts = parts; has = record { cut = cut; sized = k.0 }; got = k.1.0; whole = k.1.1.0; misfit = k.1.1.1 }
      of (FormatError faults.Shard) k = absurd k
      of (FormatError faults.Segment) k = absurd k
      of (FormatError faults.Table) k = absurd k
      of InvalidRange k = k
      of InvalidArguments k = k
      of (FileNotFound f) k = k
      of (XORBNotFound f) k = k
      of PresignedUrlExpirationError k = k
      of IOError k = k
      of InvalidKey k = k
      of CacheError k = k
      of (HttpStatus n) k = k
