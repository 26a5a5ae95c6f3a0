-- Chunks that are joined, and their offsets; and what a link of version 1 brings.
use Rattle.std.proofs.Common.{◌≡◌, ◌∙◌, ◌&&◌, ℕ, zero, suc, Bool, true, false, not, eqb, ◌+◌, ◌-◌, ◌^◌, ◌<◌, ◌≤◌, arith, List, [], ◌∷◌, ◌++◌, length, map, take, drop, sum, get_or, slice_range, Option, Some, None, Result, Ok, Err, refl, sym, ap, subst}
use Rattle.std.proofs.lemmas.List.{append_assoc, append-nil, length-append, map_push, take_more}
use Rattle.std.proofs.lemmas.List.{take-map, drop-map}
use Rattle.xet_xorb.specs.ChunkLists.{lengths_of, joined, IsWellFormed}
use Rattle.xet_xorb.specs.JoinedChunks.{offsets_of}
use Rattle.xet_xorb.specs.XorbBytes.{running_sums}
use Rattle.xet_xorb.proofs.Joining.{running_sums-push}
use Rattle.xet_plan.proofs.Lay.{sum-cons}
use Rattle.std.specs.Prelude.{⊤}
use Rattle.std.proofs.lemmas.Bool.{and_parts, eqb-true}
use Rattle.std.specs.Global.{Vec}
use Rattle.xet_types.specs.declared.error.ClientError.{ClientError}
use Rattle.xet_types.specs.declared.error.Refusal.{Refusal}
use Rattle.xet_types.specs.declared.error.Refusal.TheVariants.{XORBNotFound}
use Rattle.xet_types.specs.declared.range.Range.{Range}
use Rattle.xet_types.specs.declared.range._F.{_F}
use Rattle.xet_types.specs.declared.range._H.{_H}
use Rattle.xet_types.specs.Faults.{refusal_of}
use Rattle.xet_types.specs.Records.{FetchInfo}
use Rattle.xet_store.specs.Answered.{Answered, AnsweredErr}
use Rattle.xet_store.specs.Cuts.{cut_of_chunks, cut_in}
use Rattle.xet_store.specs.Told.{Asks}
use Rattle.xet_store.specs.TermData.{NamesXorb, IsOf, GivesTerm, with_items, joined_cut}
use Rattle.xet_store.specs.StoreModel.{StoreModel, Chunks, stored}
use Rattle.xet_store.proofs.Told.{asks}

-- the joined chunks are as long as the chunks together
pub length-joined : (cs : Chunks) → length (joined cs) ≡ sum (lengths_of cs)
length-joined [] = refl
length-joined (c ∷ cs) =
    let both = length-append c (joined cs) in
    let rest = length-joined cs in
    let s : sum (length c ∷ lengths_of cs) ≡ length c + sum (lengths_of cs) = sum-cons (length c) (lengths_of cs) in
    omega (arith, both, rest, s)

pub joined-push : (cs : Chunks) (c : List ℕ) → joined (cs ++ c ∷ []) ≡ joined cs ++ c
joined-push [] c = append-nil c
joined-push (d ∷ cs) c = ap (λ (xs : List ℕ). d ++ xs) (joined-push cs c) ∙ sym (append_assoc d (joined cs) c)

-- the end of one more chunk is the length of all
pub offsets-push : (cs : Chunks) (c : List ℕ) → offsets_of (lengths_of (cs ++ c ∷ [])) ≡ offsets_of (lengths_of cs) ++ length (joined cs ++ c) ∷ []
offsets-push cs c =
    let end : 0 + sum (lengths_of cs) + length c ≡ length (joined cs ++ c) = let both = length-append (joined cs) c in let whole = length-joined cs in omega (arith, both, whole) in
    ap offsets_of (map_push length cs c) ∙ ap (λ (ns : List ℕ). 0 ∷ ns) (running_sums-push 0 (lengths_of cs) (length c)) ∙ ap (λ k. offsets_of (lengths_of cs) ++ k ∷ []) end

-- ---- the chunks of a range are no longer than all

sum_take_le : (k : ℕ) (ns : List ℕ) → sum (take k ns) ≤ sum ns
sum_take_le zero ns = omega arith
sum_take_le (suc k) [] = omega arith
sum_take_le (suc k) (n ∷ ns) =
    let rest = sum_take_le k ns in
    let a : sum (n ∷ take k ns) ≡ n + sum (take k ns) = sum-cons n (take k ns) in
    let b : sum (n ∷ ns) ≡ n + sum ns = sum-cons n ns in
    omega (arith, rest, a, b)

sum_drop_le : (k : ℕ) (ns : List ℕ) → sum (drop k ns) ≤ sum ns
sum_drop_le zero ns = omega arith
sum_drop_le (suc k) [] = omega arith
sum_drop_le (suc k) (n ∷ ns) =
    let rest = sum_drop_le k ns in
    let b : sum (n ∷ ns) ≡ n + sum ns = sum-cons n ns in
    omega (arith, rest, b)

pub cut_short : (cs : Chunks) (a b : ℕ) → IsWellFormed cs → sum (lengths_of (slice_range cs a b)) < 2 ^ 32
cut_short cs a b formed =
    let is : lengths_of (slice_range cs a b) ≡ take (b - a) (drop a (lengths_of cs)) = sym (ap (take (b - a)) (drop-map length a cs) ∙ take-map length (b - a) (drop a cs)) in
    let one = sum_take_le (b - a) (drop a (lengths_of cs)) in
    let two = sum_drop_le a (lengths_of cs) in
    let same : sum (lengths_of (slice_range cs a b)) ≡ sum (take (b - a) (drop a (lengths_of cs))) = ap sum is in
    omega (arith, one, two, same, formed.lengths.short)

-- ---- a chunk more

-- a chunk more is within all of them
pub joins_fit : (cs : Chunks) (i : ℕ) (c : List ℕ) (n : ℕ) → i < length cs → c ≡ get_or cs i c → sum (lengths_of cs) < 2 ^ 32 → n ≡ length (joined (take i cs) ++ c) → n < 2 ^ 32
joins_fit cs i c n l is short long =
    let more : take (i + 1) cs ≡ take i cs ++ c ∷ [] = take_more cs i c l ∙ ap (λ (d : List ℕ). take i cs ++ d ∷ []) (sym is) in
    let whole : length (joined (take i cs) ++ c) ≡ sum (lengths_of (take (i + 1) cs)) = ap (λ (xs : List ℕ). length xs) (sym (joined-push (take i cs) c) ∙ ap joined (sym more)) ∙ length-joined (take (i + 1) cs) in
    let same : sum (lengths_of (take (i + 1) cs)) ≡ sum (take (i + 1) (lengths_of cs)) = ap sum (sym (take-map length (i + 1) cs)) in
    let least = sum_take_le (i + 1) (lengths_of cs) in
    omega (arith, long, whole, same, least, short)

pub joins_more : (cs : Chunks) (i : ℕ) (c : List ℕ) (bytes offsets bytes_after offsets_after : List ℕ) (n : ℕ) → i < length cs → c ≡ get_or cs i c → bytes ≡ joined (take i cs) → offsets ≡ offsets_of (lengths_of (take i cs))
    → bytes_after ≡ bytes ++ c → n ≡ length bytes_after → offsets_after ≡ offsets ++ n ∷ [] → (bytes_after ≡ joined (take (i + 1) cs)) × (offsets_after ≡ offsets_of (lengths_of (take (i + 1) cs)))
joins_more cs i c bytes offsets bytes_after offsets_after n l is b o grown long pushed =
    let more : take (i + 1) cs ≡ take i cs ++ c ∷ [] = take_more cs i c l ∙ ap (λ (d : List ℕ). take i cs ++ d ∷ []) (sym is) in
    let text : bytes_after ≡ joined (take i cs) ++ c = grown ∙ ap (λ (xs : List ℕ). xs ++ c) b in
    let end : n ≡ length (joined (take i cs) ++ c) = long ∙ ap (λ (xs : List ℕ). length xs) text in (
      text ∙ sym (joined-push (take i cs) c) ∙ ap joined (sym more),
      pushed ∙ ap (λ (xs : List ℕ). xs ++ n ∷ []) o ∙ ap (λ k. offsets_of (lengths_of (take i cs)) ++ k ∷ []) end ∙ sym (offsets-push (take i cs) c) ∙ ap (λ (ds : Chunks). offsets_of (lengths_of ds)) (sym more),
    )

-- ---- what a link brings

pub answered_err : {T U : Type 0} (P : Result T Refusal → Type 0) (R : Result U Refusal → Type 0) {Q S : Type 0} (e : ClientError) → ((why : Refusal) → P (Err why) → R (Err why)) → (Q → S) → Answered {T = T} (Err e) P Q → Answered {T = U} (Err e) R S
answered_err {T} {U} P R {Q} {S} e f g h = of (refusal_of e) h
  where
    of : (o : Option Refusal) → AnsweredErr {T = T} o P Q → AnsweredErr {T = U} o R S
    of (Some why) k = f why k
    of None k = g k

pub at_these : (P : List ℕ → Range ℕ _H → ℕ → Type 0) {u v : List ℕ} {b d : Range ℕ _H} {x y : ℕ} → u ≡ v → b ≡ d → x ≡ y → P u b x → P v d y
at_these P {u} {v} {b} {d} {x} {y} e f g p = subst (λ n. P v d n) g (subst (λ r. P v r x) f (subst (λ t. P t b x) e p))

abbrev some_chunks : Chunks → Option Chunks
some_chunks chunks = Some chunks

module _ (s : StoreModel) (info : FetchInfo) (at : ℕ) where
  abbrev Gives : Result (List ℕ × Vec ℕ) Refusal → Type 0
  Gives r = GivesTerm s info at (with_items r)

  pub named_refused : (e : ClientError) → Answered {T = List ℕ} (Err e) (NamesXorb info.url info.url_range at s.expiration) ⊥ → Asks Gives (Err e)
  named_refused e h = asks Gives (Err e) (answered_err (NamesXorb info.url info.url_range at s.expiration) Gives e (λ why names. record { named = Err why; names = names; term = refl }) (λ no. absurd no) h)

  module _ (hash : List ℕ) (is : IsOf info.url info.url_range at s.expiration hash) where
    pub term_gone : stored s hash ≡ None → GivesTerm s info at (Err (XORBNotFound hash))
    term_gone none = record { named = Ok hash; names = is; term = sym (ap (λ (o : Option Chunks). joined_cut (cut_in hash info.range.start info.range.end o)) none) }

    module _ (chunks : Chunks) (there : stored s hash ≡ some_chunks chunks) where
      cut_is : joined_cut (cut_in hash info.range.start info.range.end (stored s hash)) ≡ joined_cut (cut_of_chunks chunks info.range.start info.range.end)
      cut_is = ap (λ (o : Option Chunks). joined_cut (cut_in hash info.range.start info.range.end o)) there

      pub term_past : (e : ClientError) → Answered {T = Chunks} (Err e) (λ r. r ≡ cut_of_chunks chunks info.range.start info.range.end) ⊤ → Asks Gives (Err e)
      term_past e h = asks Gives (Err e) (answered_err (λ (r : Result Chunks Refusal). r ≡ cut_of_chunks chunks info.range.start info.range.end) Gives e (λ why cut. record { named = Ok hash; names = is; term = ap joined_cut cut ∙ sym cut_is }) (λ t. t) h)

      pub term_given : (got : Chunks) (term : List ℕ × Vec ℕ) → ◌≡◌ {A = Result Chunks Refusal} (Ok got) (cut_of_chunks chunks info.range.start info.range.end) → term.0 ≡ joined got → term.1.items ≡ offsets_of (lengths_of got) → GivesTerm s info at (Ok (term.0, term.1.items))
      term_given got term cut bytes offsets = record {
        named = Ok hash;
        names = is;
        term = ap (λ (xs : List ℕ). Ok (xs, term.1.items)) bytes ∙ ap (λ (ns : List ℕ). Ok (joined got, ns)) offsets ∙ ap joined_cut cut ∙ sym cut_is;
      }

-- ---- ranges that are told equal

not_false : (b : Bool) → not b ≡ false → b ≡ true
not_false true e = refl
not_false false e = let no : ⊥ = cc in absurd no

pub same_range : (r q : Range ℕ _F) → not (eqb r.start q.start && (eqb r.end q.end && true)) ≡ false → r ≡ q
same_range r q e =
    let both = and_parts (eqb r.start q.start) (eqb r.end q.end && true) (not_false (eqb r.start q.start && (eqb r.end q.end && true)) e) in
    let start : r.start ≡ q.start = eqb-true r.start q.start both.0 in
    let end : r.end ≡ q.end = eqb-true r.end q.end (and_parts (eqb r.end q.end) true both.1).0 in
    rw (start, end) refl

-- ---- lengths that are told

pub grown_length : (a b c : List ℕ) (u v n : ℕ) → n ≡ v → v ≡ u + length c → u ≡ length a → b ≡ a ++ c → n ≡ length b
grown_length a b c u v n is more was grown =
    let both = length-append a c in
    let all : length b ≡ length (a ++ c) = ap (λ (xs : List ℕ). length xs) grown in
    omega (arith, is, more, was, both, all)
