-- Keys: a prefix and a hash, their text, equality and order, and what reading one answers.
use Rattle.std.specs.Prelude.{◌≡◌, ◌≢◌, ◌++◌, ◌∷◌, [], ℕ, List, Bool, codes, IsTrue, Result, Ok, Err, string_bytes}
use Rattle.std.proofs.Common.{ap, ◌∙◌}
use Rattle.std.specs.List.{All}
use Rattle.std.specs.Cmp.{IsEquivalence, IsTotalOrder, on_equiv, and_equiv, on_total, then_total, both_tied, first_so, second_so}
use Rattle.std.specs.Cmp.Lexicographic.{nat_list_eq_equiv, nat_list_cmp_total, texts_ties, bytes_decides}
use Rattle.std.specs.Ordering.{on, eq_of_both, then_cmp, eq_by_cmp}
use Rattle.std.specs.Hash as fed
use Rattle.std.specs.Hash.{HashWrites}
use Rattle.std.specs.declared.cmp.Ordering.{Ordering}
use Rattle.hex.specs.Hex.{encode_lower, decode_sized}
use Rattle.xet_types.specs.Names.{hash_cmp, same_hash}
use Rattle.xet_types.specs.declared.error.ClientError.{ClientError}
use Rattle.xet_types.specs.declared.error.ClientError.TheVariants.{InvalidKey, OutOfMemory}

-- what a key is: the bytes of its prefix, and its hash
pub record KeyParts : Type 0 where
  pub prefix : List ℕ
  pub hash : List ℕ

-- its text: the prefix, a slash and the 64 digits of the hash
abbrev pub key_text : KeyParts → List ℕ
key_text k = k.prefix ++ codes "/" ++ encode_lower k.hash

-- keys are equal where both parts are
abbrev pub same_key : KeyParts → KeyParts → Bool
same_key = eq_of_both (on (λ k. k.prefix) same_hash) (on (λ k. k.hash) same_hash)

pub same_key_equiv : IsEquivalence same_key
same_key_equiv = and_equiv (on_equiv (λ k. k.prefix) nat_list_eq_equiv) (on_equiv (λ k. k.hash) nat_list_eq_equiv)

-- keys are in order of their prefixes, then of their hashes
abbrev pub key_cmp : KeyParts → KeyParts → Ordering
key_cmp = then_cmp (on (λ k. k.prefix) hash_cmp) (on (λ k. k.hash) hash_cmp)

pub key_cmp_total : IsTotalOrder key_cmp
key_cmp_total = then_total (on_total (λ k. k.prefix) nat_list_cmp_total) (on_total (λ k. k.hash) nat_list_cmp_total)

pub same_key_ties : (a b : KeyParts) → same_key a b ≡ eq_by_cmp key_cmp a b
same_key_ties a b = both_tied (same_hash a.prefix b.prefix) (same_hash a.hash b.hash) (hash_cmp a.prefix b.prefix) (hash_cmp a.hash b.hash) (texts_ties a.prefix b.prefix) (texts_ties a.hash b.hash)

-- what a hasher is fed
abbrev pub key_writes : KeyParts → HashWrites
key_writes k = fed.str k.prefix ++ k.hash ∷ []

pub key_writes_alike : (a b : KeyParts) → IsTrue (same_key a b) → key_writes a ≡ key_writes b
key_writes_alike a b same =
    let prefixes : a.prefix ≡ b.prefix = (bytes_decides a.prefix b.prefix).0 (first_so (same_hash a.prefix b.prefix) (same_hash a.hash b.hash) same) in
    let hashes : a.hash ≡ b.hash = (bytes_decides a.hash b.hash).0 (second_so (same_hash a.prefix b.prefix) (same_hash a.hash b.hash) same) in
    ap (λ (t : List ℕ). fed.str t ++ a.hash ∷ []) prefixes ∙ ap (λ (t : List ℕ). fed.str b.prefix ++ t ∷ []) hashes

-- the text is cut in two at its last byte c
pub record IsCutAtLast (c : ℕ) (text before after : List ℕ) : Type 0 where
  pub parts : text ≡ before ++ c ∷ after
  pub last : All (λ b. b ≢ c) after

-- the text is a prefix, a slash and the digits of a hash, which is what follows the last slash
abbrev pub SpellsKey : List ℕ → KeyParts → Type 0
SpellsKey text k = (digits : List ℕ) × (IsCutAtLast 47 text k.prefix digits) × (decode_sized digits 32 ≡ Ok k.hash)

-- what reading a key answers
abbrev pub ReadsKey : List ℕ → Result KeyParts ClientError → Type 0
ReadsKey text (Ok k) = SpellsKey text k
ReadsKey text (Err (InvalidKey refused)) = (string_bytes refused ≡ text) × ((k : KeyParts) → ¬ SpellsKey text k)
ReadsKey text (Err OutOfMemory) = Unit {0}
ReadsKey text (Err _) = ⊥
