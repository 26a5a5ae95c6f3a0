-- Bytes that are encoded piece after piece.
use Rattle.std.proofs.Common.{◌≡◌, ◌∙◌, ℕ, suc, ◌+◌, ◌-◌, ◌%◌, ◌<◌, ◌≤◌, List, [], ◌∷◌, ◌++◌, length, take, drop, get_or, refl, sym, ap, subst, append_assoc, arith}
use Rattle.std.specs.Prelude.{map}
use Rattle.std.proofs.lemmas.List.{append-nil, length-append, drop_more, take_all}
use Rattle.base64.specs.Engines.{url_safe_no_pad}
use Rattle.base64.specs.GeneralPurpose.{encode_of}
use Rattle.base64.proofs.EngineFacts.{encode_of-append, encode_of-nil}
use Rattle.xet_types.specs.declared.range.Range.{Range}
use Rattle.xet_types.specs.declared.range._H.{_H}
use Rattle.xet_types.specs.Ranges.{range_text}
use Rattle.xet_plan.specs.declared.runs.MergedRange.{MergedRange}
use Rattle.xet_wire.specs.Texts.{ranges_text, ranges_text_from}
use Rattle.xet_wire.specs.Links.{link_payload, bytes_of}
use Rattle.xet_store.specs.Responses.{descriptor_of}
use Rattle.xet_service.specs.RunLinks.{group_link}
use Rattle.xet_demo.specs.Pages.{Output, Prints}
use Rattle.xet_demo.specs.Blocks.{PrintsBlocks}
use Rattle.xet_demo.proofs.Printing.{prints_then, prints_nothing}

-- nothing is printed
prints_none : (o : Output) → Prints o o (encode_of url_safe_no_pad [])
prints_none o = subst (λ (t : List ℕ). Prints o o t) (sym (encode_of-nil url_safe_no_pad)) (prints_nothing o)

-- no bytes are added
pub blocks_nothing : (o : Output) (waits : List ℕ) → PrintsBlocks o o waits waits []
blocks_nothing o waits = record { front = []; parts = append-nil waits; whole = refl; printed = prints_none o }

-- bytes that wait
pub blocks_wait : (o : Output) (before bytes : List ℕ) → PrintsBlocks o o before (before ++ bytes) bytes
blocks_wait o before bytes = record { front = []; parts = refl; whole = refl; printed = prints_none o }

-- all that waited is printed
pub blocks_emptied : (a b : Output) (before : List ℕ) → length before % 3 ≡ 0 → Prints a b (encode_of url_safe_no_pad before) → PrintsBlocks a b before [] []
blocks_emptied a b before whole printed = record { front = before; parts = refl; whole = whole; printed = printed }

-- all that is added is printed
pub blocks_printed : (a b : Output) (bytes : List ℕ) → length bytes % 3 ≡ 0 → Prints a b (encode_of url_safe_no_pad bytes) → PrintsBlocks a b [] [] bytes
blocks_printed a b bytes whole printed = record { front = bytes; parts = sym (append-nil bytes); whole = whole; printed = printed }

-- one piece after another
pub blocks_then : {a b c : Output} {x y z s t : List ℕ} → PrintsBlocks a b x y s → PrintsBlocks b c y z t → PrintsBlocks a c x z (s ++ t)
blocks_then {a} {b} {c} {x} {y} {z} {s} {t} p q = record {
  front = p.front ++ q.front;
  parts = sym (append_assoc x s t) ∙ ap (λ (u : List ℕ). u ++ t) p.parts ∙ append_assoc p.front y t ∙ ap (λ (u : List ℕ). p.front ++ u) q.parts ∙ sym (append_assoc p.front q.front z);
  whole = omega (arith, length-append p.front q.front, p.whole, q.whole);
  printed = subst (λ (u : List ℕ). Prints a c u) (sym (encode_of-append url_safe_no_pad p.front q.front p.whole)) (prints_then p.printed q.printed);
}

-- the last of the bytes are printed
pub blocks_end : {a b c : Output} {rest bytes : List ℕ} → PrintsBlocks a b [] rest bytes → Prints b c (encode_of url_safe_no_pad rest) → Prints a c (encode_of url_safe_no_pad bytes)
blocks_end {a} {b} {c} {rest} {bytes} p last =
    subst (λ (u : List ℕ). Prints a c u) (sym (encode_of-append url_safe_no_pad p.front rest p.whole) ∙ ap (encode_of url_safe_no_pad) (sym p.parts)) (prints_then p.printed last)

-- the text of the link of some runs
pub group_url : (at : ℕ) (hash : List ℕ) (runs : List MergedRange) → (group_link at hash runs).url ≡ encode_of url_safe_no_pad (link_payload hash at (map bytes_of (map descriptor_of runs)))
group_url at hash runs = refl

-- ---- the payload of a link

-- ranges that aren't the first, of which the number doesn't matter
later_ranges : (n m : ℕ) (rs : List (Range ℕ _H)) → ranges_text_from (suc n) rs ≡ ranges_text_from (suc m) rs
later_ranges n m [] = refl
later_ranges n m (r ∷ rs) = ap (λ (t : List ℕ). (44 ∷ []) ++ range_text r ++ t) (later_ranges (suc n) (suc m) rs)

-- a run that isn't the first, and those behind it
pub next_ranges : (i : ℕ) (runs : List MergedRange) (d : MergedRange) → i < length runs
    → ((44 ∷ []) ++ range_text (bytes_of (descriptor_of (get_or runs i d)))) ++ ranges_text_from 1 (map bytes_of (map descriptor_of (drop (i + 1) runs)))
    ≡ ranges_text_from 1 (map bytes_of (map descriptor_of (drop i runs)))
next_ranges i runs d within =
    ap (λ (t : List ℕ). (44 ∷ []) ++ range_text (bytes_of (descriptor_of (get_or runs i d))) ++ t) (later_ranges 0 1 (map bytes_of (map descriptor_of (drop (i + 1) runs))))
    ∙ ap (λ (rs : List MergedRange). ranges_text_from 1 (map bytes_of (map descriptor_of rs))) (sym (drop_more runs i d within))

-- the first run, and those behind it
pub first_ranges : (runs : List MergedRange) (d : MergedRange) → 1 ≤ length runs
    → ([] ++ range_text (bytes_of (descriptor_of (get_or runs 0 d)))) ++ ranges_text_from 1 (map bytes_of (map descriptor_of (take (length runs - 1) (drop 1 runs))))
    ≡ ranges_text (map bytes_of (map descriptor_of runs))
first_ranges [] d some = absurd (omega (arith, some))
first_ranges (r ∷ runs) d some =
    ap (λ (rs : List MergedRange). range_text (bytes_of (descriptor_of r)) ++ ranges_text_from 1 (map bytes_of (map descriptor_of rs))) (take_all (length (r ∷ runs) - 1) runs (omega arith))
