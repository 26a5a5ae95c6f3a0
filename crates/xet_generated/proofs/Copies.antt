-- Chunk lists put behind those that a map has.
use Rattle.std.specs.Prelude.{◌≡◌, ℕ, ◌+◌, ◌<◌, List, [], ◌∷◌, ◌++◌, length, map, take}
use Rattle.std.proofs.Common.{get_or, Less, Equal, Greater}
use Rattle.std.specs.Ordering.{match_ordering}
use Rattle.std.specs.FinMap.{entries}
use Rattle.xet_shard.specs.Canonical.{last_entries}
use Rattle.xet_shard.proofs.CanonicalLaws.{last_more}
use Rattle.std.specs.Global.{Vec}
use Rattle.std.specs.List.Sorted.{IsStrictlySortedBy}
use Rattle.std.specs.Map.{keys_of}
use Rattle.std.specs.BTreeMap.{insert_entry}
use Rattle.std.proofs.lemmas.List.{map_push, append_assoc, append-nil}
use Rattle.std.proofs.lemmas.Cmp.{nat_list_cmp_total}
use Rattle.xet_types.specs.Names.{hash_cmp, xorb_name}
use Rattle.xet_types.proofs.Rising.{insert_last}
use Rattle.xet_generated.specs.Contents.{chunks_under}
use mathlib.Core.Path.{refl, sym, ap, subst, ◌∙◌}

abbrev Entries : Type 0
Entries = List (List ℕ × Vec (List ℕ))

-- What was copied, and then the rest, is all. The hashes of both rise.
pub record IsCopied (copy rest all : List (List ℕ × Vec (List ℕ))) : Type 0 where
  pub same : map chunks_under copy ++ map chunks_under rest ≡ map chunks_under all
  pub rises : IsStrictlySortedBy hash_cmp (keys_of copy ++ keys_of rest)

pub copied_none : (copy rest all : List (List ℕ × Vec (List ℕ))) → copy ≡ [] → rest ≡ all → IsStrictlySortedBy hash_cmp (keys_of all) → IsCopied copy rest all
copied_none copy rest all none whole rises =
    subst (λ (es : Entries). IsCopied es rest all) (sym none) (subst (λ (es : Entries). IsCopied [] es all) (sym whole) (record { same = refl; rises = rises }))

behind : (copy : List (List ℕ × Vec (List ℕ))) (hash : List ℕ) (old new : Vec (List ℕ)) (rest all : List (List ℕ × Vec (List ℕ)))
    → new.items ≡ old.items → IsCopied copy ((hash, old) ∷ rest) all → IsCopied (copy ++ (hash, new) ∷ []) rest all
behind copy hash old new rest all of_old was =
    let moved : map chunks_under (copy ++ (hash, new) ∷ []) ++ map chunks_under rest ≡ map chunks_under copy ++ (hash, new.items) ∷ map chunks_under rest =
    ap (λ xs. xs ++ map chunks_under rest) (map_push chunks_under copy (hash, new)) ∙ append_assoc (map chunks_under copy) (chunks_under (hash, new) ∷ []) (map chunks_under rest) in
    let keys : keys_of (copy ++ (hash, new) ∷ []) ++ keys_of rest ≡ keys_of copy ++ hash ∷ keys_of rest =
    ap (λ xs. xs ++ keys_of rest) (map_push (λ (e : List ℕ × Vec (List ℕ)). e.0) copy (hash, new)) ∙ append_assoc (keys_of copy) (hash ∷ []) (keys_of rest) in
    record {
      same = moved ∙ ap (λ (xs : List (List ℕ)). map chunks_under copy ++ (hash, xs) ∷ map chunks_under rest) of_old ∙ was.same;
      rises = subst (IsStrictlySortedBy hash_cmp) (sym keys) was.rises;
    }

pub copied_more : (copy new : List (List ℕ × Vec (List ℕ))) (hash : List ℕ) (before after : Vec (List ℕ)) (left rest all : List (List ℕ × Vec (List ℕ)))
    → new ≡ insert_entry hash_cmp copy hash after → left ≡ (hash, before) ∷ rest → after.items ≡ before.items → IsCopied copy left all → IsCopied new rest all
copied_more copy new hash before after left rest all put first of_before was =
    let here : IsCopied copy ((hash, before) ∷ rest) all = subst (λ (es : Entries). IsCopied copy es all) first was in
    subst (λ (es : Entries). IsCopied es rest all) (sym (put ∙ insert_last nat_list_cmp_total copy hash after (keys_of rest) here.rises)) (behind copy hash before after rest all of_before here)

pub copied_all : (copy rest all : List (List ℕ × Vec (List ℕ))) → rest ≡ [] → IsCopied copy rest all → map chunks_under copy ≡ map chunks_under all
copied_all copy rest all none was =
    sym (append-nil (map chunks_under copy)) ∙ ap (λ (es : Entries). map chunks_under copy ++ map chunks_under es) (sym none) ∙ was.same

-- ---- lists by hash

lists_insert : (es : List (List ℕ × Vec (List ℕ))) (k : List ℕ) (v : Vec (List ℕ)) → map chunks_under (insert_entry hash_cmp es k v) ≡ insert_entry hash_cmp (map chunks_under es) k v.items
lists_insert [] k v = refl
lists_insert (e ∷ es) k v =
    elim (hash_cmp k e.0) as (λ r. map chunks_under (match_ordering r ((k, v) ∷ e ∷ es) ((e.0, v) ∷ es) (e ∷ insert_entry hash_cmp es k v)) ≡ match_ordering r ((k, v.items) ∷ chunks_under e ∷ map chunks_under es) ((e.0, v.items) ∷ map chunks_under es) (chunks_under e ∷ insert_entry hash_cmp (map chunks_under es) k v.items)) [
      | Less ↦ refl
      | Equal ↦ refl
      | Greater ↦ ap (λ (fs : List (List ℕ × List (List ℕ))). chunks_under e ∷ fs) (lists_insert es k v)
    ]

-- one xorb more
pub listed_more : (xorbs : List (List (List ℕ))) (i : ℕ) (xorb : List (List ℕ)) (es new : List (List ℕ × Vec (List ℕ))) (hash : List ℕ) (chunks : Vec (List ℕ)) → i < length xorbs → xorb ≡ get_or xorbs i xorb
    → map chunks_under es ≡ entries (last_entries xorb_name (take i xorbs)) → hash ≡ xorb_name xorb → chunks.items ≡ xorb → new ≡ insert_entry hash_cmp es hash chunks → map chunks_under new ≡ entries (last_entries xorb_name (take (i + 1) xorbs))
listed_more xorbs i xorb es new hash chunks lt at was named is put =
    ap (map chunks_under) put ∙ lists_insert es hash chunks
    ∙ ap (λ (h : List ℕ). insert_entry hash_cmp (map chunks_under es) h chunks.items) named
    ∙ ap (insert_entry hash_cmp (map chunks_under es) (xorb_name xorb)) is
    ∙ last_more xorb_name xorbs i xorb (map chunks_under es) lt at was
