-- What a fetch leaves of a good read, and what the fetch of its last link puts together.
use Rattle.std.proofs.Common.{◌≡◌, ◌∙◌, ℕ, zero, suc, ◌+◌, ◌-◌, ◌^◌, ◌<◌, ◌≤◌, true, false, Bool, cond, List, [], ◌∷◌, map, drop, take, min, slice_range, Option, Some, None, Result, Ok, Err, refl, sym, ap, subst, arith, inl, inr}
use Rattle.std.specs.Prelude.{slice_get, is_none}
use Rattle.std.specs.List.{AllByRecursion, flat_map, concat}
use Rattle.std.proofs.lemmas.List.{drop-take, drop-drop, take-take}
use Rattle.std.proofs.lemmas.List.Sums.{sum_by-cons}
use Rattle.xet_types.specs.Ranges.{file_range_of, last_place}
use Rattle.xet_types.specs.declared.error.Refusal.{Refusal}
use Rattle.xet_types.specs.declared.error.Refusal.TheVariants.{InvalidRange, XORBNotFound}
use Rattle.xet_types.specs.declared.range.Range.{Range}
use Rattle.xet_types.specs.declared.range._F.{_F}
use Rattle.xet_types.specs.declared.range._H.{_H}
use Rattle.xet_types.specs.declared.record.XorbRangeDescriptor.{XorbRangeDescriptor}
use Rattle.xet_xorb.specs.Lengths.{packed_before}
use Rattle.xet_xorb.specs.ChunkLists.{lengths_of, IsWellFormed}
use Rattle.xet_xorb.specs.XorbBytes.{xorb_text, AreWholeChunks}
use Rattle.xet_plan.specs.FileBytes.{Content, chunks_between, term_bytes}
use Rattle.xet_store.specs.StoreModel.{StoreModel, Chunks, stored}
use Rattle.xet_store.specs.Plans.{cut_to}
use Rattle.xet_service.specs.declared.reader.held.HeldTerm.{HeldTerm}
use Rattle.xet_service.specs.declared.reader.link.ReadLink.{ReadLink}
use Rattle.xet_service.specs.Bodies.{Body, type_text, lies_in, all_lie_in, bytes_at, piece_of, IsBodyOf, SendsOf, SendsStored}
use Rattle.xet_service.specs.Reading.{Reading, left_link, left_one, count_left, with_got, take_link, nth_chunks, AreAllWhole, Spells, got_of_range, got_of_link, got_for, cut_of_range, held_text, bytes_read}
use Rattle.xet_service.specs.Steps.{asked_bytes}
use Rattle.xet_service.specs.Validity.{AgreesWith}
use Rattle.xet_service.proofs.Parted.{parts_once, written_parts}
use Rattle.xet_service.proofs.ReaderAnswers.{all_whole_once}
use Rattle.xet_service.proofs.Opening.{packed_short}
use Rattle.xet_service.proofs.RunBodies.{run_bytes, rises, run_body, run_whole}
use Rattle.xet_service.proofs.Goods.{cut_chunks, all_chunks, GoodRange, GoodLink, IsHeldIn, GoodRead, term_of}

pub some_is : {X : Type 0} (x y : X) → ◌≡◌ {A = Option X} (Some x) (Some y) → x ≡ y
some_is x y e = cc

pub ok_is : {X : Type 0} (x y : X) → ◌≡◌ {A = Result X Refusal} (Ok x) (Ok y) → x ≡ y
ok_is x y e = cc

pub range_is : (r : Range ℕ _H) (s e : ℕ) → r.start ≡ s → r.end ≡ e - 1 → 0 < e → e < 2 ^ 32 → file_range_of r ≡ record { start = s; end = e; _marker = record {} }
range_is r s e start end some short =
    let same : min (r.end + 1) last_place ≡ e = omega (arith, end, some, short) in
    rw (start, same) refl

-- ---- the bytes of good ranges

-- they lie in the list's text, and are its chunks
pub record IsGoodPiece (all : Chunks) (r : XorbRangeDescriptor) : Type 0 where
  pub inside : lies_in all (file_range_of r.bytes) ≡ true
  pub whole : AreWholeChunks (bytes_at all (file_range_of r.bytes)) (cut_chunks all r)
  pub below : r.bytes.end < last_place

lies_by : (r : Range ℕ _F) (all : Chunks) (body : List ℕ) → piece_of r all ≡ Ok body → (lies_in all r ≡ true) × (bytes_at all r ≡ body)
lies_by r all body e = of (lies_in all r) refl e
  where
    of : (b : Bool) → lies_in all r ≡ b → cond b (Ok (bytes_at all r)) (Err InvalidRange) ≡ Ok body → (lies_in all r ≡ true) × (bytes_at all r ≡ body)
    of true t h = (t, ok_is (bytes_at all r) body h)
    of false t h = absurd cc

pub good_piece : (all : Chunks) (r : XorbRangeDescriptor) → IsWellFormed all → GoodRange all r → IsGoodPiece all r
good_piece all r formed g =
    let a : ℕ = r.chunks.start in
    let b : ℕ = r.chunks.end in
    let up : packed_before (lengths_of all) a < packed_before (lengths_of all) b = rises all a b g.some g.inside in
    let short = packed_short all b formed g.inside in
    let bytes : file_range_of r.bytes ≡ run_bytes all a b = range_is r.bytes (packed_before (lengths_of all) a) (packed_before (lengths_of all) b) g.first g.last (omega (arith, up)) short in
    let there = lies_by (file_range_of r.bytes) all (xorb_text (cut_chunks all r)) (ap (λ (q : Range ℕ _F). piece_of q all) bytes ∙ run_body all a b g.some g.inside) in
    record {
      inside = there.0;
      whole = subst (λ (t : List ℕ). AreWholeChunks t (cut_chunks all r)) (sym there.1) (run_whole all a b formed g.some g.inside);
      below = let last = g.last in omega (arith, last, short);
    }

-- the same of several ranges
pub record AreGoodPieces (all : Chunks) (rs : List XorbRangeDescriptor) : Type 0 where
  pub inside : all_lie_in all (asked_bytes rs) ≡ true
  pub whole : AreAllWhole (map (bytes_at all) (asked_bytes rs)) (all_chunks all rs)
  pub below : AllByRecursion (λ (r : XorbRangeDescriptor). r.bytes.end < last_place) rs

pub good_pieces : (all : Chunks) (rs : List XorbRangeDescriptor) → IsWellFormed all → AllByRecursion (GoodRange all) rs → AreGoodPieces all rs
good_pieces all [] formed g = record { inside = refl; whole = tt; below = tt }
good_pieces all (r ∷ rs) formed g =
    let one = good_piece all r formed g.0 in
    let more = good_pieces all rs formed g.1 in
    record { inside = rw (one.inside, more.inside) refl; whole = (one.whole, more.whole); below = (one.below, more.below) }

-- ---- what a body of the store spells

-- the body of a stored xorb
pub record IsStoredBody (store : StoreModel) (hash : List ℕ) (rs : List (Range ℕ _F)) (body : Body) : Type 0 where
  pub chunks : Chunks
  pub there : stored store hash ≡ Some chunks
  pub inside : all_lie_in chunks rs ≡ true
  pub is : IsBodyOf chunks rs body

pub stored_by : (store : StoreModel) (hash : List ℕ) (rs : List (Range ℕ _F)) (body : Body) → SendsStored store hash rs (Ok body) → IsStoredBody store hash rs body
stored_by store hash rs body e = of (stored store hash) refl e
  where
    of : (o : Option Chunks) → stored store hash ≡ o → SendsOf hash rs o (Ok body) → IsStoredBody store hash rs body
    of None there g = absurd (let f : ◌≡◌ {A = Result Body Refusal} (Ok body) (Err (XORBNotFound hash)) = g in cc)
    of (Some chunks) there g = record { chunks = chunks; there = there; inside = g.0; is = g.1 }

pub got_is : (m : Content) (store : StoreModel) (l : ReadLink) (g : GoodLink m l) (body : Body) (got : List Chunks) → AgreesWith m store → SendsStored store l.hash (asked_bytes l.ranges) (Ok body)
    → Spells l (type_text body.content_type) body.bytes got → got ≡ all_chunks g.all l.ranges
got_is m store l g body got agree sent h =
    let s = stored_by store l.hash (asked_bytes l.ranges) body sent in
    let list : s.chunks ≡ g.all = some_is s.chunks g.all (sym (agree l.hash s.chunks s.there) ∙ g.is) in
    let is : IsBodyOf g.all (asked_bytes l.ranges) body = subst (λ (cs : Chunks). IsBodyOf cs (asked_bytes l.ranges) body) list s.is in
    let pieces = good_pieces g.all l.ranges g.formed g.each in
    let has = written_parts g.all l.ranges g.rises pieces.below pieces.inside body is in
    let parts : h.parts ≡ map (bytes_at g.all) (asked_bytes l.ranges) = parts_once l.ranges (type_text body.content_type) body.bytes h.parts (map (bytes_at g.all) (asked_bytes l.ranges)) h.has has in
    all_whole_once (map (bytes_at g.all) (asked_bytes l.ranges)) got (all_chunks g.all l.ranges) (subst (λ (p : List (List ℕ)). AreAllWhole p got) parts h.whole) pieces.whole

-- ---- a link that is left

pub left_good : (m : Content) (ls : List ReadLink) (n : ℕ) (l : ReadLink) → AllByRecursion (GoodLink m) ls → left_link ls n ≡ Some l → GoodLink m l
left_good m [] n l g e = absurd cc
left_good m (x ∷ ls) zero l g e = of (is_none x.got) e
  where
    of : (b : Bool) → cond b (Some x) None ≡ Some l → GoodLink m l
    of true h = subst (GoodLink m) (some_is x l h) g.0
    of false h = absurd cc
left_good m (x ∷ ls) (suc n) l g e = left_good m ls n l g.1 e

link_taken : (m : Content) (x : ReadLink) (got : List Chunks) (g : GoodLink m x) → got ≡ all_chunks g.all x.ranges → GoodLink m (record x { got = Some got })
link_taken m x got g is = record { all = g.all; is = g.is; formed = g.formed; each = g.each; rises = g.rises; fit = g.fit; brought = inr (ap (λ (cs : List Chunks). Some cs) is) }

pub taken_good : (m : Content) (ls : List ReadLink) (n : ℕ) (l : ReadLink) (got : List Chunks) → AllByRecursion (GoodLink m) ls → left_link ls n ≡ Some l → ((g : GoodLink m l) → got ≡ all_chunks g.all l.ranges) → AllByRecursion (GoodLink m) (with_got ls n (slice_get ls n) got)
taken_good m [] n l got g e is = tt
taken_good m (x ∷ ls) zero l got g e is = (of (is_none x.got) e, g.1)
  where
    of : (b : Bool) → cond b (Some x) None ≡ Some l → GoodLink m (record x { got = Some got })
    of true h = link_taken m x got g.0 (subst (λ (y : ReadLink). (k : GoodLink m y) → got ≡ all_chunks k.all y.ranges) (sym (some_is x l h)) is g.0)
    of false h = absurd cc
taken_good m (x ∷ ls) (suc n) l got g e is = of (slice_get ls n) (taken_good m ls n l got g.1 e is)
  where
    of : (o : Option ReadLink) → AllByRecursion (GoodLink m) (with_got ls n o got) → AllByRecursion (GoodLink m) (with_got (x ∷ ls) (suc n) o got)
    of None r = (g.0, r)
    of (Some y) r = (g.0, r)

-- a link is there afterwards, with its hash and ranges
record IsThere (ls : List ReadLink) (k : ℕ) (l : ReadLink) : Type 0 where
  pub link : ReadLink
  pub there : slice_get ls k ≡ Some link
  pub hash : link.hash ≡ l.hash
  pub ranges : link.ranges ≡ l.ranges

still_there : (ls : List ReadLink) (n k : ℕ) (got : List Chunks) (l : ReadLink) → slice_get ls k ≡ Some l → IsThere (with_got ls n (slice_get ls n) got) k l
still_there [] n k got l e = absurd cc
still_there (x ∷ ls) zero zero got l e = let same : x ≡ l = some_is x l e in record { link = record x { got = Some got }; there = refl; hash = ap (λ (y : ReadLink). y.hash) same; ranges = ap (λ (y : ReadLink). y.ranges) same }
still_there (x ∷ ls) zero (suc k) got l e = record { link = l; there = e; hash = refl; ranges = refl }
still_there (x ∷ ls) (suc n) k got l e = of (slice_get ls n) k e (λ j f. still_there ls n j got l f)
  where
    of : (o : Option ReadLink) (j : ℕ) → slice_get (x ∷ ls) j ≡ Some l → ((i : ℕ) → slice_get ls i ≡ Some l → IsThere (with_got ls n o got) i l) → IsThere (with_got (x ∷ ls) (suc n) o got) j l
    of None zero f rest = record { link = l; there = f; hash = refl; ranges = refl }
    of None (suc j) f rest = let r = rest j f in record { link = r.link; there = r.there; hash = r.hash; ranges = r.ranges }
    of (Some y) zero f rest = record { link = l; there = f; hash = refl; ranges = refl }
    of (Some y) (suc j) f rest = let r = rest j f in record { link = r.link; there = r.there; hash = r.hash; ranges = r.ranges }

held_taken : (ls : List ReadLink) (n : ℕ) (got : List Chunks) (h : HeldTerm) → IsHeldIn ls h → IsHeldIn (with_got ls n (slice_get ls n) got) h
held_taken ls n got h i =
    let t = still_there ls n h.range.link got i.link i.there in
    record { link = t.link; there = t.there; hash = t.hash ∙ i.hash; range = i.range; at = ap (λ (rs : List XorbRangeDescriptor). slice_get rs h.range.number) t.ranges ∙ i.at; from = i.from; low = i.low; rises = i.rises; high = i.high }

pub all_held_taken : (ls : List ReadLink) (n : ℕ) (got : List Chunks) (hs : List HeldTerm) → AllByRecursion (IsHeldIn ls) hs → AllByRecursion (IsHeldIn (with_got ls n (slice_get ls n) got)) hs
all_held_taken ls n got [] i = tt
all_held_taken ls n got (h ∷ hs) i = (held_taken ls n got h i.0, all_held_taken ls n got hs i.1)

-- ---- where none is left

-- a link that isn't left
record IsFull (m : Content) (l : ReadLink) : Type 0 where
  pub good : GoodLink m l
  pub full : is_none l.got ≡ false

none_head : (x : ReadLink) (ls : List ReadLink) → count_left (x ∷ ls) ≡ 0 → (is_none x.got ≡ false) × (count_left ls ≡ 0)
none_head x ls none = let sums = sum_by-cons left_one x ls in (of (is_none x.got) (omega (arith, sums, none)), omega (arith, sums, none))
  where
    of : (b : Bool) → ◌≡◌ {A = ℕ} (cond b 1 0) 0 → b ≡ false
    of true h = absurd (omega (arith, h))
    of false h = refl

full_at : (m : Content) (ls : List ReadLink) (k : ℕ) (l : ReadLink) → AllByRecursion (GoodLink m) ls → count_left ls ≡ 0 → slice_get ls k ≡ Some l → IsFull m l
full_at m [] k l g none e = absurd cc
full_at m (x ∷ ls) zero l g none e = let same : x ≡ l = some_is x l e in subst (IsFull m) same (record { good = g.0; full = (none_head x ls none).0 })
full_at m (x ∷ ls) (suc k) l g none e = full_at m ls k l g.1 (none_head x ls none).1 e

brought_is : (m : Content) (l : ReadLink) (f : IsFull m l) → l.got ≡ Some (all_chunks f.good.all l.ranges)
brought_is m l f =
    elim f.good.brought as (λ _. l.got ≡ Some (all_chunks f.good.all l.ranges)) [
      | inl none ↦ (let no_way : true ≡ false = sym (ap (λ (o : Option (List Chunks)). is_none o) none) ∙ f.full in absurd cc)
      | inr some ↦ some
    ]

-- the chunks of the range of a number
pub nth_is : (all : Chunks) (rs : List XorbRangeDescriptor) (k : ℕ) (r : XorbRangeDescriptor) → slice_get rs k ≡ Some r → nth_chunks (all_chunks all rs) k ≡ cut_chunks all r
nth_is all [] k r e = absurd cc
nth_is all (x ∷ rs) zero r e = ap (cut_chunks all) (some_is x r e)
nth_is all (x ∷ rs) (suc k) r e = nth_is all rs k r e

-- a part of a part is a part of the list
pub part_of_part : (xs : Chunks) (s e a b : ℕ) → s ≤ a → a ≤ b → b ≤ e → slice_range (slice_range xs s e) (a - s) (b - s) ≡ slice_range xs a b
part_of_part xs s e a b p q r =
    let width : b - s - (a - s) ≡ b - a = omega (arith, p, q) in
    let whole : e - s ≡ a - s + (e - a) = omega (arith, p, q, r) in
    let from : s + (a - s) ≡ a = omega (arith, p) in
    ap (λ (n : ℕ). take n (drop (a - s) (take (e - s) (drop s xs)))) width
    ∙ ap (λ (n : ℕ). take (b - a) (drop (a - s) (take n (drop s xs)))) whole
    ∙ ap (take (b - a)) (drop-take (a - s) (e - a) (drop s xs))
    ∙ take-take (b - a) (e - a) (drop (a - s) (drop s xs)) (omega (arith, q, r))
    ∙ ap (take (b - a)) (drop-drop (a - s) s xs)
    ∙ ap (λ (n : ℕ). take (b - a) (drop n xs)) from

term_is : (m : Content) (ls : List ReadLink) (h : HeldTerm) → AllByRecursion (GoodLink m) ls → count_left ls ≡ 0 → IsHeldIn ls h → held_text ls h ≡ term_bytes m h.term
term_is m ls h g none i =
    let f : IsFull m i.link = full_at m ls h.range.link i.link g none i.there in
    let all = f.good.all in
    let t = h.term in
    let s : ℕ = i.range.chunks.start in
    let e : ℕ = i.range.chunks.end in
    let got : got_for ls h ≡ cut_chunks all i.range
    = ap (λ (o : Option ReadLink). got_of_link o h.range.number) i.there ∙ ap (λ (o : Option (List Chunks)). got_of_range o h.range.number) (brought_is m i.link f) ∙ nth_is all i.link.ranges h.range.number i.range i.at in
    let cut : cut_of_range h (got_for ls h) ≡ slice_range all t.range.start t.range.end
    = ap (cut_of_range h) got ∙ ap (λ (n : ℕ). slice_range (cut_chunks all i.range) (t.range.start - n) (t.range.end - n)) i.from ∙ part_of_part all s e t.range.start t.range.end i.low i.rises i.high in
    let list : m t.hash ≡ Some all = ap m (sym i.hash) ∙ f.good.is in
    ap (λ (cs : Chunks). concat cs) (cut ∙ ap (λ (o : Option Chunks). chunks_between o t.range.start t.range.end) (sym list))

terms_are : (m : Content) (ls : List ReadLink) (hs : List HeldTerm) → AllByRecursion (GoodLink m) ls → count_left ls ≡ 0 → AllByRecursion (IsHeldIn ls) hs → flat_map (held_text ls) hs ≡ flat_map (term_bytes m) (map term_of hs)
terms_are m ls [] g none i = refl
terms_are m ls (h ∷ hs) g none i = rw (term_is m ls h g none i.0, terms_are m ls hs g none i.1) refl

-- ---- a fetch

module _ (m : Content) (fixed : List ℕ) (r : Reading) (n : ℕ) (l : ReadLink) (got : List Chunks) (good : GoodRead m fixed r) (left : left_link r.links n ≡ Some l) (is : (g : GoodLink m l) → got ≡ all_chunks g.all l.ranges) where
  -- the read stays good while links are left
  pub fetched_good : 0 < count_left (take_link r n got).links → GoodRead m fixed (take_link r n got)
  fetched_good some = record {
    left = some;
    links = taken_good m r.links n l got good.links left is;
    held = all_held_taken r.links n got r.terms good.held;
    bytes = good.bytes;
  }

  -- the last link makes the fixed bytes
  pub fetched_last : count_left (take_link r n got).links ≡ 0 → bytes_read (take_link r n got) ≡ fixed
  fetched_last none =
      ap (λ (x : List ℕ). cut_to r.length (drop r.offset x))
      (terms_are m (take_link r n got).links r.terms (taken_good m r.links n l got good.links left is) none (all_held_taken r.links n got r.terms good.held))
      ∙ good.bytes
