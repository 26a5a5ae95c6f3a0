-- Links: a text spells one at most, and what is written is spelled.
use Rattle.std.specs.Prelude.{decimal}
use Rattle.std.proofs.Common.{◌≡◌, inl, inr, ℕ, ◌<◌, ◌^◌, List, [], ◌∷◌, ◌++◌, refl, sym, ap, ◌∙◌, subst, append_assoc, Ok}
use Rattle.std.specs.Prelude.{Result, Err}
use Rattle.std.specs.Global.{Vec}
use Rattle.std.specs.List.{Contains}
use Rattle.hex.specs.Hex.{encode_lower}
use Rattle.xet_types.specs.declared.error.ClientError.{ClientError}
use Rattle.xet_types.specs.declared.error.ClientError.TheVariants.{InvalidArguments, OutOfMemory}
use Rattle.xet_types.specs.declared.range.Range.{Range}
use Rattle.xet_types.specs.declared.range._F.{_F}
use Rattle.xet_types.specs.declared.range._H.{_H}
use Rattle.xet_types.specs.Ranges.{interval}
use Rattle.xet_wire.specs.Texts.{IsCutAtFirst, AreFields, IsHashOf, IsNumberOf, IsHashThen, IsNumberThen, AreRanges, pieces_of, ranges_text, ReadsRanges}
use Rattle.xet_wire.specs.Payloads.{Encodes, ReadsPayload}
use Rattle.xet_wire.specs.Links.{link_text, link_payload, SpellsFirstLink, SpellsLinkPayload, SpellsSecondLink, ReadsSecondLink, GivesSecondLink, SpellsLink, ReadsLink, GivesLink, ReadsLinkPayload}
use Rattle.xet_wire.specs.Terms.{Term, SpellsPlain, SpellsRanged, SpellsTermPayload, ReadsTermPayload, SpellsTerm, ReadsTerm, GivesTerm, term_payload, term}
use Rattle.xet_wire.proofs.Marks.{fields_once, hash_lacks, number_lacks, colon, same_cut, lacks_none, mark_there, no_hash_then, no_hash}
use Rattle.xet_wire.proofs.Lists.{range_once}
use Rattle.xet_wire.proofs.Written.{number_reads, list_reads, AllFit}

-- what the fields of a text are, where it is a link
pub first_values : (text a b c d : List ℕ) (hash : List ℕ) (range : Range ℕ _F) (at : ℕ) → AreFields text a b c d → SpellsFirstLink text hash range at → IsHashOf a hash × IsNumberOf b range.start × IsNumberOf c range.end × IsNumberOf d at
first_values text a b c d hash range at are s =
    let same = fields_once text a b c d s.digits s.start s.end s.moment are s.parts in
    (rw same.0 s.is_hash, rw same.1 s.is_start, rw same.2 s.is_end, rw same.3 s.is_moment)

pub same_hash : (text a b : List ℕ) → IsHashOf text a → IsHashOf text b → a ≡ b
same_hash text a b p q = let both : Ok a ≡ Ok b = sym p ∙ q in cc

pub same_number : (text : List ℕ) (m n : ℕ) → IsNumberOf text m → IsNumberOf text n → m ≡ n
same_number text m n p q = p.value ∙ sym q.value

pub same_range : {K : Type 0} (a b : Range ℕ K) → a.start ≡ b.start → a.end ≡ b.end → a ≡ b
same_range a b starts ends = ap (λ (n : ℕ). interval n a.end) starts ∙ ap (λ (n : ℕ). interval b.start n) ends

-- one link of version 1 at most
pub first_once : (text : List ℕ) (h h' : List ℕ) (r r' : Range ℕ _F) (m m' : ℕ) → SpellsFirstLink text h r m → SpellsFirstLink text h' r' m' → (h ≡ h') × (r ≡ r') × (m ≡ m')
first_once text h h' r r' m m' s s' =
    let v = first_values text s.digits s.start s.end s.moment h' r' m' s.parts s' in
    (same_hash s.digits h h' s.is_hash v.0, same_range r r' (same_number s.start r.start r'.start s.is_start v.1) (same_number s.end r.end r'.end s.is_end v.2), same_number s.moment m m' s.is_moment v.3)

-- a link of version 1 that is written is one
pub first_written : (hash : List ℕ) (start end at : ℕ) → IsHashOf (encode_lower hash) hash → start < 2 ^ 64 → end < 2 ^ 64 → at < 2 ^ 64 → SpellsFirstLink (link_text hash start end at) hash (interval start end) at
unfolding link_text
first_written hash start end at is s e m = record {
  digits = encode_lower hash;
  start = decimal start;
  end = decimal end;
  moment = decimal at;
  parts = record {
    parts = refl;
    second = number_lacks 58 (decimal start) colon (number_reads start s).numeral;
    third = number_lacks 58 (decimal end) colon (number_reads end e).numeral;
    fourth = number_lacks 58 (decimal at) colon (number_reads at m).numeral;
  };
  is_hash = is;
  is_start = number_reads start s;
  is_end = number_reads end e;
  is_moment = number_reads at m;
}

-- one rest after a hash, or after a number
pub hash_then_once : (text h h' rest rest' : List ℕ) → IsHashThen text h rest → IsHashThen text h' rest' → (h ≡ h') × (rest ≡ rest')
hash_then_once text h h' rest rest' s s' =
    let same = same_cut 58 s.digits rest s'.digits rest' (hash_lacks s.digits h s.is_hash) (hash_lacks s'.digits h' s'.is_hash) (sym s.parts ∙ s'.parts) in
    (same_hash s.digits h h' s.is_hash (rw same.0 s'.is_hash), same.1)

pub number_then_once : (text : List ℕ) (n n' : ℕ) (rest rest' : List ℕ) → IsNumberThen text n rest → IsNumberThen text n' rest' → (n ≡ n') × (rest ≡ rest')
number_then_once text n n' rest rest' s s' =
    let same = same_cut 58 s.digits rest s'.digits rest' (number_lacks 58 s.digits colon s.is_number.numeral) (number_lacks 58 s'.digits colon s'.is_number.numeral) (sym s.parts ∙ s'.parts) in
    (same_number s.digits n n' s.is_number (rw same.0 s'.is_number), same.1)

-- one list of ranges
pub ranges_once : {K : Type 0} (ps : List (List ℕ)) (a b : List (Range ℕ K)) → AreRanges ps a → AreRanges ps b → a ≡ b
ranges_once [] [] [] p q = refl
ranges_once [] [] (y ∷ b) p q = absurd q
ranges_once [] (x ∷ a) b p q = absurd p
ranges_once ([] ∷ ps) a b p q = ranges_once ps a b p q
ranges_once ((c ∷ piece) ∷ ps) [] b p q = absurd p
ranges_once ((c ∷ piece) ∷ ps) (x ∷ a) [] p q = absurd q
ranges_once ((c ∷ piece) ∷ ps) (x ∷ a) (y ∷ b) p q =
    let head : x ≡ y = range_once (c ∷ piece) x y p.0 q.0 in
    let tail : a ≡ b = ranges_once ps a b p.1 q.1 in
    cc

-- one link in a payload
pub payload_once : (payload h h' : List ℕ) (m m' : ℕ) (rs rs' : List (Range ℕ _H)) → SpellsLinkPayload payload h m rs → SpellsLinkPayload payload h' m' rs' → (h ≡ h') × (m ≡ m') × (rs ≡ rs')
payload_once payload h h' m m' rs rs' s s' =
    let hashes = hash_then_once payload h h' s.rest s'.rest s.is_hash s'.is_hash in
    let moments = number_then_once s.rest m m' s.list s'.list s.is_moment (rw hashes.1 s'.is_moment) in
    (hashes.0, moments.0, ranges_once (pieces_of s.list) rs rs' s.is_list (rw moments.1 s'.is_list))

-- a payload that is written is read back
pub payload_written : (hash : List ℕ) (at : ℕ) (rs : List (Range ℕ _H)) → IsHashOf (encode_lower hash) hash → at < 2 ^ 64 → AllFit rs → SpellsLinkPayload (link_payload hash at rs) hash at rs
unfolding link_payload
payload_written hash at rs is small fit = record {
  rest = decimal at ++ 58 ∷ ranges_text rs;
  list = ranges_text rs;
  is_hash = record { digits = encode_lower hash; parts = append_assoc (encode_lower hash) (58 ∷ decimal at) (58 ∷ ranges_text rs); is_hash = is };
  is_moment = record { digits = decimal at; parts = refl; is_number = number_reads at small };
  is_list = list_reads rs fit;
}

-- a term that is written is read back
pub term_written : (hash : List ℕ) (rs : List (Range ℕ _F)) → IsHashOf (encode_lower hash) hash → AllFit rs → SpellsRanged (term_payload hash rs) (term hash rs)
unfolding term_payload
term_written hash rs is fit = record {
  list = ranges_text rs;
  is_hash = record { digits = encode_lower hash; parts = refl; is_hash = is };
  is_list = list_reads rs fit;
}

-- a hash before the first colon
pub hash_of_cut : (text b a hash : List ℕ) → IsCutAtFirst 58 text b a → IsHashOf b hash → IsHashThen text hash a
hash_of_cut text b a hash cut is = record { digits = b; parts = cut.parts; is_hash = is }

-- what payloads of links are read as
pub no_payload_hash : (payload : List ℕ) → ((h rest : List ℕ) → ¬ IsHashThen payload h rest) → (hash : List ℕ) (at : ℕ) (rs : List (Range ℕ _H)) → ¬ SpellsLinkPayload payload hash at rs
no_payload_hash payload none hash at rs s = none hash s.rest s.is_hash

pub no_payload_number : (payload h rest : List ℕ) → IsHashThen payload h rest → ((n : ℕ) (list : List ℕ) → ¬ IsNumberThen rest n list) → (hash : List ℕ) (at : ℕ) (rs : List (Range ℕ _H)) → ¬ SpellsLinkPayload payload hash at rs
no_payload_number payload h rest is none hash at rs s =
    let same = hash_then_once payload h hash rest s.rest is s.is_hash in
    none at s.list (rw same.1 s.is_moment)

pub refused_payload : (payload h rest list : List ℕ) (n : ℕ) (e : ClientError) → IsHashThen payload h rest → IsNumberThen rest n list → ReadsRanges {K = _H} list (Err e) → ReadsLinkPayload payload (Err e)
refused_payload payload h rest list n InvalidArguments is at wrong = λ hash m rs s.
    let same = hash_then_once payload h hash rest s.rest is s.is_hash in
    let same' = number_then_once rest n m list s.list at (rw same.1 s.is_moment) in
    wrong rs (rw same'.1 s.is_list)
refused_payload payload h rest list n OutOfMemory is at wrong = tt
refused_payload payload h rest list n _ is at wrong = wrong

-- a link of version 2 is read as its payload is
abbrev pub Only : List ℕ → List ℕ → Type 0
Only text payload = Encodes text payload × ((p : List ℕ) → Encodes text p → p ≡ payload)

pub second_reads : (text payload : List ℕ) (r : Result (List ℕ × ℕ × Vec (Range ℕ _H)) ClientError) → Only text payload → ReadsLinkPayload payload r → ReadsSecondLink text r
second_reads text payload (Ok link) one reads = (payload, one.0, reads)
second_reads text payload (Err InvalidArguments) one reads = λ h at rs s. reads h at rs (subst (λ (p : List ℕ). SpellsLinkPayload p h at rs) (one.1 s.0 s.1) s.2)
second_reads text payload (Err OutOfMemory) one reads = tt
second_reads text payload (Err _) one reads = reads

pub second_gives : (text payload : List ℕ) (r : Result (List ℕ × ℕ × Vec (Range ℕ _H)) ClientError) → Only text payload → ReadsLinkPayload payload r → (h : List ℕ) (at : ℕ) (rs : List (Range ℕ _H)) → SpellsSecondLink text h at rs → GivesSecondLink h at rs r
second_gives text payload (Ok link) one reads h at rs s = payload_once payload link.0 h link.1 at link.2.items rs reads (subst (λ (p : List ℕ). SpellsLinkPayload p h at rs) (one.1 s.0 s.1) s.2)
second_gives text payload (Err InvalidArguments) one reads h at rs s = reads h at rs (subst (λ (p : List ℕ). SpellsLinkPayload p h at rs) (one.1 s.0 s.1) s.2)
second_gives text payload (Err OutOfMemory) one reads h at rs s = tt
second_gives text payload (Err _) one reads h at rs s = reads

-- what a text that no payload is decoded from is read as
pub undecoded_reads : (text : List ℕ) (e : ClientError) → ReadsPayload text (Err e) → ReadsSecondLink text (Err e)
undecoded_reads text InvalidArguments none = λ h at rs s. none s.0 s.1
undecoded_reads text OutOfMemory none = tt
undecoded_reads text _ none = none

pub undecoded_gives : (text : List ℕ) (e : ClientError) → ReadsPayload text (Err e) → (h : List ℕ) (at : ℕ) (rs : List (Range ℕ _H)) → SpellsSecondLink text h at rs → GivesSecondLink h at rs (Err e)
undecoded_gives text InvalidArguments none h at rs s = none s.0 s.1
undecoded_gives text OutOfMemory none h at rs s = tt
undecoded_gives text _ none h at rs s = none

-- links of either version
abbrev pub NoFirst : List ℕ → Type 0
NoFirst text = (h : List ℕ) (r : Range ℕ _F) (m : ℕ) → ¬ SpellsFirstLink text h r m

pub any_first : (text h h' : List ℕ) (r : Range ℕ _F) (m m' : ℕ) → SpellsFirstLink text h r m → SpellsLink text h' m' → (h ≡ h') × (m ≡ m')
any_first text h h' r m m' s (inl s') =
    let same = first_once text h h' r s'.0 m m' s s'.1 in
    (same.0, same.2)
any_first text h h' r m m' s (inr s') = absurd (s'.0 h r m s)

pub any_second : (text h h' : List ℕ) (m m' : ℕ) (rs : Vec (Range ℕ _H)) → NoFirst text → ((x : List ℕ) (n : ℕ) (ys : List (Range ℕ _H)) → SpellsSecondLink text x n ys → GivesSecondLink x n ys (Ok (h, m, rs))) → SpellsLink text h' m' → (h ≡ h') × (m ≡ m')
any_second text h h' m m' rs none gives (inl s) = absurd (none h' s.0 m' s.1)
any_second text h h' m m' rs none gives (inr s) =
    let same = gives h' m' s.1.0 s.1.1 in
    (same.0, same.1)

pub any_refused : (text : List ℕ) (e : ClientError) → NoFirst text → ReadsSecondLink text (Err e) → ReadsLink text (Err e)
any_refused text InvalidArguments none reads = λ h at s. neither h at s
  where
    neither : (h : List ℕ) (at : ℕ) → ¬ SpellsLink text h at
    neither h at (inl s) = none h s.0 at s.1
    neither h at (inr s) = reads h at s.1.0 s.1.1
any_refused text OutOfMemory none reads = tt
any_refused text _ none reads = reads

gives_error : (h : List ℕ) (at : ℕ) (rs : List (Range ℕ _H)) (e : ClientError) → GivesSecondLink h at rs (Err e) → GivesLink h at (Err e)
gives_error h at rs OutOfMemory gives = tt
gives_error h at rs _ gives = gives

pub any_error : (text h : List ℕ) (m : ℕ) (e : ClientError) → NoFirst text → ((x : List ℕ) (n : ℕ) (ys : List (Range ℕ _H)) → SpellsSecondLink text x n ys → GivesSecondLink x n ys (Err e)) → SpellsLink text h m → GivesLink h m (Err e)
any_error text h m e none gives (inl s) = absurd (none h s.0 m s.1)
any_error text h m e none gives (inr s) = gives_error h m s.1.0 e (gives h m s.1.0 s.1.1)

-- terms
pub no_plain : (payload b a : List ℕ) (t : Term) → IsCutAtFirst 58 payload b a → ¬ SpellsPlain payload t
no_plain payload b a t cut s = lacks_none 58 payload (hash_lacks payload t.hash s.is_hash) (rw cut.parts (mark_there 58 b a))

same_term : (t u : Term) → t.hash ≡ u.hash → t.byte_ranges ≡ u.byte_ranges → t ≡ u
same_term t u hashes ranges = ap (λ (h : List ℕ). term h t.byte_ranges) hashes ∙ ap (λ (rs : List (Range ℕ _F)). term u.hash rs) ranges

pub term_once : (payload : List ℕ) (t u : Term) → SpellsTermPayload payload t → SpellsTermPayload payload u → t ≡ u
term_once payload t u (inl s) (inl s') = same_term t u (same_hash payload t.hash u.hash s.is_hash s'.is_hash) (s.no_ranges ∙ sym s'.no_ranges)
term_once payload t u (inl s) (inr s') = absurd (no_plain payload s'.is_hash.digits s'.list t (record { parts = s'.is_hash.parts; first = hash_lacks s'.is_hash.digits u.hash s'.is_hash.is_hash }) s)
term_once payload t u (inr s) (inl s') = absurd (no_plain payload s.is_hash.digits s.list u (record { parts = s.is_hash.parts; first = hash_lacks s.is_hash.digits t.hash s.is_hash.is_hash }) s')
term_once payload t u (inr s) (inr s') =
    let same = hash_then_once payload t.hash u.hash s.list s'.list s.is_hash s'.is_hash in
    same_term t u same.0 (ranges_once (pieces_of s.list) t.byte_ranges u.byte_ranges s.is_list (rw same.1 s'.is_list))

pub no_term_plain : (payload : List ℕ) → ¬ Contains payload 58 → ((h : List ℕ) → IsHashOf payload h → ⊥) → (t : Term) → ¬ SpellsTermPayload payload t
no_term_plain payload none wrong t (inl s) = wrong t.hash s.is_hash
no_term_plain payload none wrong t (inr s) = no_hash_then payload none t.hash s.list s.is_hash

pub no_term_hash : (payload b a : List ℕ) → IsCutAtFirst 58 payload b a → ((h : List ℕ) → IsHashOf b h → ⊥) → (t : Term) → ¬ SpellsTermPayload payload t
no_term_hash payload b a cut wrong t (inl s) = no_plain payload b a t cut s
no_term_hash payload b a cut wrong t (inr s) = no_hash payload b a cut wrong t.hash s.list s.is_hash

pub refused_term : (payload b a hash : List ℕ) (e : ClientError) → IsCutAtFirst 58 payload b a → IsHashOf b hash → ReadsRanges {K = _F} a (Err e) → ReadsTermPayload payload (Err e)
refused_term payload b a hash InvalidArguments cut is wrong = λ t s. neither t s
  where
    neither : (t : Term) → ¬ SpellsTermPayload payload t
    neither t (inl s) = no_plain payload b a t cut s
    neither t (inr s) =
        let same = hash_then_once payload hash t.hash a s.list (hash_of_cut payload b a hash cut is) s.is_hash in
        wrong t.byte_ranges (rw same.1 s.is_list)
refused_term payload b a hash OutOfMemory cut is wrong = tt
refused_term payload b a hash _ cut is wrong = wrong

-- a term is read as its payload is
pub term_reads : (text payload : List ℕ) (r : Result Term ClientError) → Only text payload → ReadsTermPayload payload r → ReadsTerm text r
term_reads text payload (Ok t) one reads = (payload, one.0, reads)
term_reads text payload (Err InvalidArguments) one reads = λ t s. reads t (subst (λ (p : List ℕ). SpellsTermPayload p t) (one.1 s.0 s.1) s.2)
term_reads text payload (Err OutOfMemory) one reads = tt
term_reads text payload (Err _) one reads = reads

pub term_gives : (text payload : List ℕ) (r : Result Term ClientError) → Only text payload → ReadsTermPayload payload r → (t : Term) → SpellsTerm text t → GivesTerm t r
term_gives text payload (Ok u) one reads t s = term_once payload u t reads (subst (λ (p : List ℕ). SpellsTermPayload p t) (one.1 s.0 s.1) s.2)
term_gives text payload (Err InvalidArguments) one reads t s = reads t (subst (λ (p : List ℕ). SpellsTermPayload p t) (one.1 s.0 s.1) s.2)
term_gives text payload (Err OutOfMemory) one reads t s = tt
term_gives text payload (Err _) one reads t s = reads

pub undecoded_term : (text : List ℕ) (e : ClientError) → ReadsPayload text (Err e) → ReadsTerm text (Err e)
undecoded_term text InvalidArguments none = λ t s. none s.0 s.1
undecoded_term text OutOfMemory none = tt
undecoded_term text _ none = none

pub undecoded_term_gives : (text : List ℕ) (e : ClientError) → ReadsPayload text (Err e) → (t : Term) → SpellsTerm text t → GivesTerm t (Err e)
undecoded_term_gives text InvalidArguments none t s = none s.0 s.1
undecoded_term_gives text OutOfMemory none t s = tt
undecoded_term_gives text _ none t s = none
