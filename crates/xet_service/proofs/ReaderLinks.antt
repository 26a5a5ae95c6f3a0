-- A reader's links by number.
use Rattle.std.proofs.Common.{◌≡◌, ℕ, zero, suc, ◌+◌, ◌-◌, ◌<◌, ◌≤◌, Bool, true, false, cond, List, [], ◌∷◌, length, map, sum, take, drop, get_or, set, eq-eqb, inr, Option, Some, None, Ok, refl, sym, ap, subst, ◌∙◌, arith}
use Rattle.std.specs.Prelude.{slice_get, slice_set, slice_range, is_none, is_some, IsTrue, ◌↔◌}
use Rattle.std.specs.List.{flat_map, concat}
use Rattle.std.proofs.lemmas.List.{append-nil, length-append, take_all}
use Rattle.std.proofs.lemmas.List.Sums.{sum_by-cons, sum_by-set}
use Rattle.xet_xorb.specs.XorbBytes.{AreWholeChunks}
use Rattle.xet_store.specs.StoreModel.{Chunks}
use Rattle.xet_store.specs.Plans.{cut_to}
use Rattle.xet_types.specs.declared.record.XorbRangeDescriptor.{XorbRangeDescriptor}
use Rattle.xet_service.specs.declared.reader.held.HeldTerm.{HeldTerm}
use Rattle.xet_service.specs.declared.reader.link.ReadLink.{ReadLink}
use Rattle.xet_service.specs.Reading.{Reading, if_left, left_link, is_link_left, left_one, count_left, with_got, take_link, nth_chunks, got_of_link, got_for, cut_of_range, held_text, has_length, have_counts, have_lengths, fits, AreSized, IsMultipart, Spells, BringsTo, Gives}
use Rattle.xet_service.specs.Gathering.{IsWindow}
use Rattle.xet_service.specs.ReadingParts.{TakesAll, BringsAlone, ReadsAtOnce}

get_below : {X : Type 0} (xs : List X) (i : ℕ) (x : X) → slice_get xs i ≡ Some x → i < length xs
get_below [] i x e = absurd cc
get_below (y ∷ ys) zero x e = omega arith
get_below (y ∷ ys) (suc i) x e = let h = get_below ys i x e in omega (arith, h)

-- the one that is there
get_there : {X : Type 0} (xs : List X) (i : ℕ) (x d : X) → slice_get xs i ≡ Some x → get_or xs i d ≡ x
get_there [] i x d e = absurd cc
get_there (y ∷ ys) zero x d e = cc
get_there (y ∷ ys) (suc i) x d e = get_there ys i x d e

-- ---- the link of a body that was taken

-- the link of this number is there, and left
pub record IsLeftAt (ls : List ReadLink) (n : ℕ) : Type 0 where
  pub link : ReadLink
  pub there : slice_get ls n ≡ Some link
  pub left : is_none link.got ≡ true

left_at : (ls : List ReadLink) (n : ℕ) (o : Option ReadLink) (l : ReadLink) → slice_get ls n ≡ o → if_left o ≡ Some l → IsLeftAt ls n
left_at ls n None l e h = absurd cc
left_at ls n (Some x) l e h = of (is_none x.got) refl h
  where
    of : (b : Bool) → is_none x.got ≡ b → cond b (Some x) None ≡ Some l → IsLeftAt ls n
    of true t h = record { link = x; there = e; left = t }
    of false t h = absurd cc

brought_left : (ls : List ReadLink) (n : ℕ) (content_type body : List ℕ) (got : List Chunks) (o : Option ReadLink) → left_link ls n ≡ o → BringsTo o content_type body (Ok got) → IsLeftAt ls n
brought_left ls n content_type body got None e h = absurd cc
brought_left ls n content_type body got (Some l) e h = left_at ls n (slice_get ls n) l refl e

pub gives_left : (ls : List ReadLink) (n : ℕ) (content_type body : List ℕ) (got : List Chunks) → Gives ls n content_type body (Ok got) → IsLeftAt ls n
gives_left ls n content_type body got h = brought_left ls n content_type body got (left_link ls n) refl h

pub left_below : (ls : List ReadLink) (n : ℕ) → IsLeftAt ls n → n < length ls
left_below ls n h = get_below ls n h.link h.there

pub count_got : (ls : List ReadLink) (n : ℕ) (got : List Chunks) → IsLeftAt ls n → count_left (with_got ls n (slice_get ls n) got) + 1 ≡ count_left ls
count_got ls n got h =
    let new : ReadLink = record h.link { got = Some got } in
    let puts : with_got ls n (slice_get ls n) got ≡ set ls n new = ap (λ (o : Option ReadLink). with_got ls n o got) h.there in
    let one : left_one (get_or ls n h.link) ≡ 1 = ap left_one (get_there ls n h.link h.link h.there) ∙ ap (λ (b : Bool). cond b 1 0) h.left in
    let sums = sum_by-set left_one ls n new h.link (left_below ls n h) in
    omega (arith, sums, one, ap count_left puts)

-- where a read gave chunks, one link fewer is left
pub count_given : (ls now : List ReadLink) (n : ℕ) (content_type body : List ℕ) (got : List Chunks) → ls ≡ now → Gives now n content_type body (Ok got) → count_left (with_got ls n (slice_get ls n) got) + 1 ≡ count_left ls
count_given ls now n content_type body got same h = count_got ls n got (subst (λ (xs : List ReadLink). IsLeftAt xs n) (sym same) (gives_left now n content_type body got h))

-- a link that gave chunks is left
pub given_left : (o : Option ReadLink) (content_type body : List ℕ) (got : List Chunks) → BringsTo o content_type body (Ok got) → is_some o ≡ true
given_left None content_type body got h = absurd cc
given_left (Some l) content_type body got h = refl

is_left : (ls : List ReadLink) (n : ℕ) (o : Option ReadLink) → slice_get ls n ≡ o → is_some (if_left o) ≡ true → IsLeftAt ls n
is_left ls n None e h = absurd cc
is_left ls n (Some x) e h = of (is_none x.got) refl h
  where
    of : (b : Bool) → is_none x.got ≡ b → is_some (cond b (Some x) None) ≡ true → IsLeftAt ls n
    of true t h = record { link = x; there = e; left = t }
    of false t h = absurd cc

pub left_here : (ls : List ReadLink) (n : ℕ) → is_link_left ls n ≡ true → IsLeftAt ls n
left_here ls n h = is_left ls n (slice_get ls n) refl h

-- ---- the links once one of them has brought its chunks

set_there : (ls : List ReadLink) (n : ℕ) (l m : ReadLink) → slice_get ls n ≡ Some l → slice_get (slice_set ls n m) n ≡ Some m
set_there [] n l m e = absurd cc
set_there (x ∷ ls) zero l m e = refl
set_there (x ∷ ls) (suc n) l m e = set_there ls n l m e

set_other : (ls : List ReadLink) (n k : ℕ) (m : ReadLink) → (k ≡ n → ⊥) → slice_get (slice_set ls n m) k ≡ slice_get ls k
set_other [] n k m other = refl
set_other (x ∷ ls) zero zero m other = absurd (other refl)
set_other (x ∷ ls) zero (suc k) m other = refl
set_other (x ∷ ls) (suc n) zero m other = refl
set_other (x ∷ ls) (suc n) (suc k) m other = set_other ls n k m (λ e. other (ap (λ (i : ℕ). suc i) e))

-- it has the chunks
pub filled_here : (ls : List ReadLink) (n : ℕ) (got : List Chunks) (l : ReadLink) → slice_get ls n ≡ Some l → slice_get (with_got ls n (slice_get ls n) got) n ≡ Some (record l { got = Some got })
filled_here ls n got l there =
    ap (λ (o : Option ReadLink). slice_get (with_got ls n o got) n) there ∙ set_there ls n l (record l { got = Some got }) there

-- the others have what they had
pub filled_other : (ls : List ReadLink) (n k : ℕ) (got : List Chunks) → (k ≡ n → ⊥) → slice_get (with_got ls n (slice_get ls n) got) k ≡ slice_get ls k
filled_other ls n k got other = of (slice_get ls n)
  where
    of : (o : Option ReadLink) → slice_get (with_got ls n o got) k ≡ slice_get ls k
    of None = refl
    of (Some l) = set_other ls n k (record l { got = Some got }) other

pub filled_none : (ls : List ReadLink) (n k : ℕ) (got : List Chunks) → slice_get ls k ≡ None → slice_get (with_got ls n (slice_get ls n) got) k ≡ None
filled_none ls n k got none = of (slice_get ls n) refl
  where
    at_set : (xs : List ReadLink) (i j : ℕ) (m : ReadLink) → slice_get xs j ≡ None → slice_get (slice_set xs i m) j ≡ None
    at_set [] i j m e = refl
    at_set (x ∷ xs) zero zero m e = absurd cc
    at_set (x ∷ xs) zero (suc j) m e = e
    at_set (x ∷ xs) (suc i) zero m e = e
    at_set (x ∷ xs) (suc i) (suc j) m e = at_set xs i j m e

    of : (o : Option ReadLink) → slice_get ls n ≡ o → slice_get (with_got ls n o got) k ≡ None
    of None e = none
    of (Some l) e = at_set ls n k (record l { got = Some got }) none

-- past the last there is none
pub filled_past : (ls : List ReadLink) (got : List Chunks) → with_got ls (length ls) (slice_get ls (length ls)) got ≡ ls
filled_past ls got = ap (λ (o : Option ReadLink). with_got ls (length ls) o got) (past ls)
  where
    past : (xs : List ReadLink) → slice_get xs (length xs) ≡ None
    past [] = refl
    past (x ∷ xs) = past xs

-- ---- a read of one range

all_of : {X : Type 0} (xs : List X) (a b : ℕ) → a ≡ 0 → length xs ≤ b → slice_range xs a b ≡ xs
all_of xs a b e long = ap (λ (i : ℕ). slice_range xs i b) e ∙ take_all (b - 0) xs (omega (arith, long))

pub one_item : (xs : List HeldTerm) (h : HeldTerm) → length xs ≡ 1 → h ≡ get_or xs 0 h → xs ≡ h ∷ []
one_item [] h e is = absurd (omega (arith, e))
one_item (x ∷ []) h e is = ap (λ (y : HeldTerm). y ∷ []) (sym is)
one_item (x ∷ (y ∷ xs)) h e is = absurd (omega (arith, e))

-- the text of a term that has all chunks of a link's first range
whole_text : (r : Reading) (n : ℕ) (got : List Chunks) (h : HeldTerm) → r.terms ≡ h ∷ [] → is_link_left r.links n ≡ true → TakesAll h n (length (nth_chunks got 0)) → flat_map (held_text (take_link r n got).links) r.terms ≡ concat (nth_chunks got 0)
whole_text r n got h terms left all =
    let at = left_here r.links n left in
    let filled = with_got r.links n (slice_get r.links n) got in
    let brought : got_for filled h ≡ nth_chunks got 0 =
    ap (λ (k : ℕ). got_of_link (slice_get filled k) h.range.number) all.0
    ∙ ap (λ (o : Option ReadLink). got_of_link o h.range.number) (filled_here r.links n got at.link at.there)
    ∙ ap (λ (k : ℕ). nth_chunks got k) all.1.0 in
    let first : h.term.range.start - h.range.chunks.start ≡ 0 = omega (arith, all.1.1.0) in
    let cut : cut_of_range h (got_for filled h) ≡ nth_chunks got 0 =
    ap (λ (cs : Chunks). cut_of_range h cs) brought ∙ all_of (nth_chunks got 0) (h.term.range.start - h.range.chunks.start) (h.term.range.end - h.range.chunks.start) first all.1.1.1 in
    ap (λ (hs : List HeldTerm). flat_map (held_text filled) hs) terms
    ∙ append-nil (held_text filled h)
    ∙ ap (λ (cs : Chunks). concat cs) cut

-- such a read, whose link takes a body of one part
pub reads_at_once : (r : Reading) (n : ℕ) (content_type body : List ℕ) (h : HeldTerm) (l : ReadLink) (chunks : Chunks) (total skip left : ℕ) (bytes : List ℕ) → r.terms ≡ h ∷ [] → h.range.link ≡ n → left_link r.links n ≡ Some l → (IsMultipart content_type → ⊥)
    → BringsAlone l h body chunks total → IsWindow total r.offset r.length (skip, left) → bytes ≡ take left (drop skip (concat chunks)) → ReadsAtOnce r n content_type body bytes
reads_at_once r n content_type body h l chunks total skip left bytes terms number link plain brings window is =
    let got : List Chunks = chunks ∷ [] in
    let spells : Spells l content_type body got = record {
      parts = body ∷ [];
      has = record { cut = inr (plain, refl); sized = brings.brings.0 };
      whole = brings.brings.1.0;
      fit = brings.brings.1.1;
    } in
    let text = whole_text r n got h terms (ap is_some link) (number, brings.all.1) in
    record {
      got = got;
      gives = subst (λ (o : Option ReadLink). BringsTo o content_type body (Ok got)) (sym link) spells;
      read = is ∙ window (concat chunks) brings.long ∙ ap (λ (t : List ℕ). cut_to r.length (drop r.offset t)) (sym text);
    }

-- the only range of a link, which its only term has all of, and as many chunks with as many bytes as these say
fits_alone : (l : ReadLink) (d : XorbRangeDescriptor) (h : HeldTerm) (chunks : Chunks) → l.ranges ≡ d ∷ [] → l.held ≡ h ∷ [] → h.range.number ≡ 0 → h.term.range.start ≤ h.range.chunks.start → length chunks ≤ h.term.range.end - h.range.chunks.start
    → length chunks ≡ d.chunks.end - d.chunks.start → sum (map length chunks) ≡ h.term.unpacked_length → fits l.ranges l.held (chunks ∷ []) ≡ true
fits_alone l d h chunks ranges held number front back count bytes =
    let first : h.term.range.start - h.range.chunks.start ≡ 0 = omega (arith, front) in
    let cut : cut_of_range h (nth_chunks (chunks ∷ []) h.range.number) ≡ chunks =
    ap (λ (k : ℕ). cut_of_range h (nth_chunks (chunks ∷ []) k)) number ∙ all_of chunks (h.term.range.start - h.range.chunks.start) (h.term.range.end - h.range.chunks.start) first back in
    let long : has_length (nth_chunks (chunks ∷ []) h.range.number) h ≡ true = eq-eqb _ _ (ap (λ (cs : Chunks). sum (map length cs)) cut ∙ bytes) in
    let counts : have_counts (d ∷ []) (chunks ∷ []) ≡ true = rw (eq-eqb _ _ count) refl in
    let lengths : have_lengths (chunks ∷ []) (h ∷ []) ≡ true = rw long refl in
    ap (λ (ds : List XorbRangeDescriptor). fits ds l.held (chunks ∷ [])) ranges ∙ ap (λ (hs : List HeldTerm). fits (d ∷ []) hs (chunks ∷ [])) held ∙ rw (counts, lengths) refl

pub concat_long : (xs : Chunks) → length (concat xs) ≡ sum (map length xs)
concat_long [] = refl
concat_long (x ∷ xs) = omega (arith, length-append x (concat xs), concat_long xs, sum_by-cons (λ (n : ℕ). n) (length x) (map length xs))

pub brings_alone : (l : ReadLink) (d : XorbRangeDescriptor) (own other : HeldTerm) (body : List ℕ) (chunks : Chunks) (count : ℕ) → l.ranges ≡ d ∷ [] → l.held ≡ own ∷ [] → count ≡ d.chunks.end - d.chunks.start → TakesAll own own.range.link count → TakesAll other other.range.link count
    → AreSized l.ranges (body ∷ []) → AreWholeChunks body chunks → (length chunks ≡ count) × (sum (map length chunks) ≡ own.term.unpacked_length) → BringsAlone l other body chunks own.term.unpacked_length
brings_alone l d own other body chunks count ranges held count_is mine all sized whole sizes = record {
  all = subst (TakesAll other other.range.link) (sym sizes.0) all;
  brings = (sized, ((whole, tt), fits_alone l d own chunks ranges held mine.1.0 mine.1.1.0 (omega (arith, sizes.0, mine.1.1.1)) (sizes.0 ∙ count_is) sizes.1));
  long = concat_long chunks ∙ sizes.1;
}

pub multipart_not : (content_type : List ℕ) (b : Bool) → (IsTrue b ↔ IsMultipart content_type) → b ≡ false → IsMultipart content_type → ⊥
multipart_not content_type b is plain parts = let e : b ≡ true = is.1 parts in absurd cc
