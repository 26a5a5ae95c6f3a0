-- Whose object a xorb's bytes have.
use Rattle.std.proofs.Common.{◌≡◌, ℕ, ◌+◌, ◌*◌, Bool, true, false, not, List, ◌++◌, length, refl, sym, ap, ◌∙◌}
use Rattle.std.specs.Prelude.{Err}
use lib.Pointwise.{pointwise, bytes_decides, pointwise_decides}
use Rattle.xet_types.specs.Names.{same_hash}
use Rattle.xet_types.specs.declared.error.ClientError.{ClientError}
use Rattle.xet_types.specs.declared.error.ClientError.TheVariants.{FormatError, OutOfMemory}
use Rattle.xet_types.specs.declared.error.FormatFault.TheVariants as faults
use Rattle.xet_bytes.specs.Fields.{le32}
use Rattle.xet_xorb.specs.declared.object.XorbObject.TheInside.{Inside}
use Rattle.xet_xorb.specs.declared.read.ReadXorb.{ReadXorb}
use Rattle.xet_xorb.specs.Values.{Xorb}
use Rattle.xet_xorb.specs.Objects.{steps, xorb_of, IsObject}
use Rattle.xet_xorb.specs.ChunkLists.{object_of}
use Rattle.xet_xorb.specs.XorbBytes.{running_sums, xorb_bytes, xorb_text, footer_bytes, text_of, IsXorbText, IsReadOf, ReadsXorb}
use Rattle.xet_xorb.specs.Contents.{HasFooter, Deserializes, IsXorbOf, ReadsOwn}
use Rattle.xet_xorb.proofs.FooterText.{running-steps, xorb_written}
use Rattle.xet_xorb.proofs.Footing.{IsXorbText-unique}

-- ---- objects that are the same

pub same_hashes : (xs ys : List (List ℕ)) → (pointwise same_hash xs ys ≡ true → xs ≡ ys) × (xs ≡ ys → pointwise same_hash xs ys ≡ true)
same_hashes = pointwise_decides bytes_decides

abbrev pub ends_of : Inside → List ℕ
ends_of o = o.info.unpacked_chunk_offsets.items

known : List (List ℕ) → List ℕ → Xorb
known hashes lengths = record { hashes = hashes; lengths = lengths }

same_ends : (o p : Inside) → IsObject o → IsObject p → xorb_of o ≡ xorb_of p → ends_of o ≡ ends_of p
same_ends o p h k e = sym (running-steps 0 (ends_of o) h.rises) ∙ ap (λ (x : Xorb). running_sums 0 x.lengths) e ∙ running-steps 0 (ends_of p) k.rises

same_lists : (o p : Inside) → o.info.chunk_hashes.items ≡ p.info.chunk_hashes.items → ends_of o ≡ ends_of p → xorb_of o ≡ xorb_of p
unfolding known
same_lists o p hashes ends = ap (λ (hs : List (List ℕ)). known hs (steps 0 (ends_of o))) hashes ∙ ap (λ (es : List ℕ). known p.info.chunk_hashes.items (steps 0 es)) ends

-- objects with the same hashes are the same exactly where their chunks end at the same places
pub same_by_ends : (o p : Inside) (x y : Xorb) (same : Bool) → IsObject o → IsObject p → xorb_of o ≡ x → xorb_of p ≡ y → o.info.chunk_hashes.items ≡ p.info.chunk_hashes.items → (same ≡ true → ends_of o ≡ ends_of p) → (ends_of o ≡ ends_of p → same ≡ true) → (same ≡ true → x ≡ y) × (x ≡ y → same ≡ true)
same_by_ends o p x y same h k is is' hashes ends back = (λ t. sym is ∙ same_lists o p hashes (ends t) ∙ is', λ e. back (same_ends o p h k (is ∙ e ∙ sym is')))

-- objects with other hashes are not
pub other_hashes : (o p : Inside) (x y : Xorb) (same : Bool) → xorb_of o ≡ x → xorb_of p ≡ y → same ≡ false → (o.info.chunk_hashes.items ≡ p.info.chunk_hashes.items → same ≡ true) → (same ≡ true → x ≡ y) × (x ≡ y → same ≡ true)
other_hashes o p x y same is is' differs back = (λ t. let never : false ≡ true = sym differs ∙ t in absurd cc, λ e. back (ap (λ (z : Xorb). z.hashes) (is ∙ e ∙ sym is')))

-- ---- bytes that are not those of an object's xorb

pub unread : (e : ClientError) (bytes : List ℕ) → ReadsXorb bytes (Err e) → Deserializes bytes (Err e)
unread OutOfMemory bytes h = tt
unread (FormatError faults.Xorb) bytes h = λ chunks has. h chunks (record { has_footer = true; formed = has.formed; text = has.text })
unread e bytes h = absurd h

pub unread_own : (e : ClientError) (object : Xorb) (bytes : List ℕ) → ReadsXorb bytes (Err e) → ReadsOwn object bytes (Err e)
unread_own OutOfMemory object bytes h = tt
unread_own (FormatError faults.Xorb) object bytes h = λ chunks own. h chunks own.spelled
unread_own e object bytes h = absurd h

pub not_true : (b : Bool) → not b ≡ true → b ≡ false
not_true true e = absurd cc
not_true false e = refl

pub no_footer : (bytes : List ℕ) (read : ReadXorb) → IsReadOf bytes read → read.has_footer ≡ false → (chunks : List (List ℕ)) → HasFooter bytes chunks → ⊥
no_footer bytes read is none chunks has =
    let footed : IsXorbText bytes chunks = record { has_footer = true; formed = has.formed; text = has.text } in
    footer_differs footed refl
  where
    footer_differs : (k : IsXorbText bytes chunks) → k.has_footer ≡ true → ⊥
    footer_differs k ends = let same : false ≡ true = sym none ∙ is.footer ∙ (IsXorbText-unique bytes read.chunks.items chunks is.chunks k).footer ∙ ends in absurd cc

pub not_own : (bytes : List ℕ) (object : Xorb) (read : ReadXorb) → IsReadOf bytes read → (object ≡ read.object → ⊥) → (chunks : List (List ℕ)) → IsXorbOf object bytes chunks → ⊥
not_own bytes object read is other chunks own =
    other (own.known ∙ ap object_of (sym (IsXorbText-unique bytes read.chunks.items chunks is.chunks own.spelled).chunks) ∙ sym is.object)

-- ---- the text with a footer

pub footed : (bytes : List ℕ) (read : ReadXorb) → IsReadOf bytes read → read.has_footer ≡ false → bytes ++ (footer_bytes read.object ++ le32 (44 + 40 * length read.object.lengths)) ≡ xorb_bytes read.chunks.items
footed bytes read is none =
    let text : bytes ≡ xorb_text read.chunks.items = is.chunks.text ∙ ap (λ (f : Bool). text_of f read.chunks.items) (sym is.footer ∙ none) in
    ap (λ (t : List ℕ). t ++ (footer_bytes read.object ++ le32 (44 + 40 * length read.object.lengths))) text ∙ xorb_written read.chunks.items read.object is.object
