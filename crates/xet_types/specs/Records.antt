-- Records of plans as values.
use Rattle.std.specs.Prelude.{◌≡◌, ℕ, List, [], ◌∷◌, ◌++◌, map, Bool, nat_eq, IsTrue}
use Rattle.std.proofs.Common.{ap, ◌∙◌}
use Rattle.std.specs.Ordering.{on, eq_of_both}
use Rattle.std.specs.Cmp.{IsEquivalence, on_equiv, and_equiv, first_so, second_so}
use Rattle.std.specs.Cmp.Lexicographic.{pointwise, nat_list_eq_equiv, bytes_decides}
use Rattle.std.specs.Hash as fed
use Rattle.std.specs.Hash.{HashWrites}
use Rattle.xet_types.specs.declared.range.Range.{Range}
use Rattle.xet_types.specs.declared.range._C.{_C}
use Rattle.xet_types.specs.declared.range._H.{_H}
use Rattle.xet_types.specs.declared.record.XorbReconstructionTerm.{XorbReconstructionTerm}
use Rattle.xet_types.specs.declared.record.XorbRangeDescriptor.{XorbRangeDescriptor}

-- chunks of a xorb, the text of the link that brings them, and their bytes with an inclusive end
pub record FetchInfo : Type 0 where
  pub range : Range ℕ _C
  pub url : List ℕ
  pub url_range : Range ℕ _H

abbrev pub ends_of : FetchInfo → List ℕ
ends_of f = f.range.start ∷ f.range.end ∷ f.url_range.start ∷ f.url_range.end ∷ []

-- equal where the ranges and the texts are
abbrev pub same_info : FetchInfo → FetchInfo → Bool
same_info = eq_of_both (on ends_of (pointwise nat_eq)) (on (λ f. f.url) (pointwise nat_eq))

pub same_info_equiv : IsEquivalence same_info
same_info_equiv = and_equiv (on_equiv ends_of nat_list_eq_equiv) (on_equiv (λ f. f.url) nat_list_eq_equiv)

-- what a hasher is fed
abbrev pub info_writes : FetchInfo → HashWrites
info_writes f = fed.slice fed.u64 (ends_of f) ++ fed.str f.url

pub info_writes_alike : (a b : FetchInfo) → IsTrue (same_info a b) → info_writes a ≡ info_writes b
info_writes_alike a b same =
    let ends : ends_of a ≡ ends_of b = (bytes_decides (ends_of a) (ends_of b)).0 (first_so (pointwise nat_eq (ends_of a) (ends_of b)) (pointwise nat_eq a.url b.url) same) in
    let urls : a.url ≡ b.url = (bytes_decides a.url b.url).0 (second_so (pointwise nat_eq (ends_of a) (ends_of b)) (pointwise nat_eq a.url b.url) same) in
    ap (λ (t : List ℕ). fed.slice fed.u64 t ++ fed.str a.url) ends ∙ ap (λ (t : List ℕ). fed.slice fed.u64 (ends_of b) ++ fed.str t) urls

-- A plan of version 1: how many bytes to leave out at the front, the terms in file order, and what to fetch of each xorb, in
-- order of hash, then chunk number.
pub record FirstPlan : Type 0 where
  pub offset_into_first_range : ℕ
  pub terms : List XorbReconstructionTerm
  pub fetch_info : List (List ℕ × List FetchInfo)

-- The terms of several files, and what to fetch of each xorb for all of them, both in order of hash.
pub record BatchPlan : Type 0 where
  pub files : List (List ℕ × List XorbReconstructionTerm)
  pub fetch_info : List (List ℕ × List FetchInfo)

-- the text of a link, and the runs that it brings
pub record RangesFetch : Type 0 where
  pub url : List ℕ
  pub ranges : List XorbRangeDescriptor

-- the same as a plan of version 1, with any number of runs to a link
pub record SecondPlan : Type 0 where
  pub offset_into_first_range : ℕ
  pub terms : List XorbReconstructionTerm
  pub xorbs : List (List ℕ × List RangesFetch)

-- a link of one run
abbrev pub fetch_of : FetchInfo → RangesFetch
fetch_of f = record { url = f.url; ranges = record { chunks = f.range; bytes = f.url_range } ∷ [] }

abbrev pub fetches_of : List FetchInfo → List RangesFetch
fetches_of fs = map fetch_of fs

abbrev pub xorb_fetches : (List ℕ × List FetchInfo) → (List ℕ × List RangesFetch)
xorb_fetches e = (e.0, fetches_of e.1)

-- each entry is a link of one run, in the same order
abbrev pub second_of : FirstPlan → SecondPlan
second_of p = record { offset_into_first_range = p.offset_into_first_range; terms = p.terms; xorbs = map xorb_fetches p.fetch_info }
