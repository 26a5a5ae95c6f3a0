-- The footer of an object is written from its lists.
use Rattle.std.proofs.Common.{◌≡◌, ℕ, suc, zero, ◌+◌, ◌-◌, ◌*◌, ◌<◌, List, [], ◌∷◌, ◌++◌, length, get_or, map, refl, sym, ap, ◌∙◌, append_assoc, arith}
use Rattle.std.specs.List.{flat_map}
use Rattle.std.proofs.lemmas.List.{length-map, same_lists, get_or_default}
use Rattle.xet_bytes.specs.Fields.{le32}
use Rattle.xet_xorb.specs.declared.object.XorbObject.TheInside.{Inside}
use Rattle.xet_xorb.specs.Objects.{steps, Rises, xorb_of, IsObject}
use Rattle.xet_xorb.specs.Values.{Xorb}
use Rattle.xet_xorb.specs.ChunkLists.{object_of}
use Rattle.xet_xorb.specs.XorbBytes.{xorb_text, xorb_bytes, running_sums, footer_mark, footer_bytes, boundary_bytes, unpacked_bytes}
use Rattle.xet_xorb.proofs.Offsets.{length-steps}
use Rattle.xet_xorb.proofs.ChunkText.{lengths-length}

pub length-running : (from : ℕ) (ns : List ℕ) → length (running_sums from ns) ≡ length ns
length-running from [] = refl
length-running from (n ∷ ns) = ap suc (length-running (from + n) ns)

pub running-steps : (from : ℕ) (ends : List ℕ) → Rises from ends → running_sums from (steps from ends) ≡ ends
running-steps from [] r = refl
running-steps from (e ∷ es) r = let same : from + (e - from) ≡ e = omega (arith, r.0) in rw (same, running-steps e es r.1) refl

running-headers : (at from : ℕ) (ends : List ℕ) (k : ℕ) → Rises from ends → k < length ends → get_or (running_sums at (map (λ n. 8 + n) (steps from ends))) k 0 + from ≡ get_or ends k 0 + 8 * (k + 1) + at
running-headers at from [] k r l = absurd (omega arith)
running-headers at from (e ∷ es) zero r l = omega (arith, r.0)
running-headers at from (e ∷ es) (suc k) r l = omega (arith, r.0, running-headers (at + (8 + (e - from))) e es k r.1 (omega arith))

pub boundaries : (o : Inside) → IsObject o → running_sums 0 (map (λ n. 8 + n) (steps 0 o.info.unpacked_chunk_offsets.items)) ≡ o.info.chunk_boundary_offsets.items
boundaries o h =
    let es = o.info.unpacked_chunk_offsets.items in
    let bs = o.info.chunk_boundary_offsets.items in
    let sums = running_sums 0 (map (λ n. 8 + n) (steps 0 es)) in
    let len : length sums ≡ length es = length-running 0 (map (λ n. 8 + n) (steps 0 es)) ∙ length-map (steps 0 es) (λ n. 8 + n) ∙ length-steps 0 es in
    same_lists sums bs (len ∙ sym h.bounds)
    (λ k d lt.
    let below : k < length es = omega (arith, len, lt) in
    let a : get_or sums k d ≡ get_or sums k 0 = get_or_default sums k d 0 lt in
    let b : get_or bs k d ≡ get_or bs k 0 = get_or_default bs k d 0 (omega (arith, h.bounds, below)) in
    omega (arith, a, b, running-headers 0 0 es k h.rises below, h.boundary k below))

pub footer_parts : (o : Inside) → IsObject o → footer_bytes (xorb_of o)
    ≡ footer_mark ++ (o.info.xorb_hash ++ (le32 o.info.num_chunks ++ (flat_map (λ hash. hash) o.info.chunk_hashes.items ++ (flat_map le32 o.info.chunk_boundary_offsets.items ++ flat_map le32 o.info.unpacked_chunk_offsets.items))))
unfolding footer_bytes boundary_bytes unpacked_bytes
footer_parts o h =
    let es = o.info.unpacked_chunk_offsets.items in
    let count : length (steps 0 es) ≡ o.info.num_chunks = length-steps 0 es ∙ sym h.count in
    let tail : List ℕ → List ℕ → List ℕ = λ bs es. flat_map le32 bs ++ flat_map le32 es in
    let hashes = flat_map (λ hash. hash) o.info.chunk_hashes.items in
    ap (λ (name : List ℕ). footer_mark ++ (name ++ (le32 (length (steps 0 es)) ++ (hashes ++ tail (running_sums 0 (map (λ n. 8 + n) (steps 0 es))) (running_sums 0 (steps 0 es)))))) (sym h.named)
    ∙ ap (λ (n : ℕ). footer_mark ++ (o.info.xorb_hash ++ (le32 n ++ (hashes ++ tail (running_sums 0 (map (λ n. 8 + n) (steps 0 es))) (running_sums 0 (steps 0 es)))))) count
    ∙ ap (λ (bs : List ℕ). footer_mark ++ (o.info.xorb_hash ++ (le32 o.info.num_chunks ++ (hashes ++ tail bs (running_sums 0 (steps 0 es)))))) (boundaries o h)
    ∙ ap (λ (us : List ℕ). footer_mark ++ (o.info.xorb_hash ++ (le32 o.info.num_chunks ++ (hashes ++ tail o.info.chunk_boundary_offsets.items us)))) (running-steps 0 es h.rises)

regroup : (out mark name count hashes bounds ends len : List ℕ) → ((((((out ++ mark) ++ name) ++ count) ++ hashes) ++ bounds) ++ ends) ++ len ≡ out ++ ((mark ++ (name ++ (count ++ (hashes ++ (bounds ++ ends))))) ++ len)
regroup out mark name count hashes bounds ends len = simp append_assoc

-- the parts of the footer and its length, one after another
pub footer_written : (o : Inside) (object : Xorb) → IsObject o → xorb_of o ≡ object → (out : List ℕ)
    → ((((((out ++ footer_mark) ++ o.info.xorb_hash) ++ le32 o.info.num_chunks) ++ flat_map (λ hash. hash) o.info.chunk_hashes.items) ++ flat_map le32 o.info.chunk_boundary_offsets.items) ++ flat_map le32 o.info.unpacked_chunk_offsets.items) ++ le32 o.info_length
    ≡ out ++ (footer_bytes object ++ le32 (44 + 40 * length object.lengths))
footer_written o object h view out =
    let len : o.info_length ≡ 44 + 40 * length object.lengths = omega (arith, h.info_length, length-steps 0 o.info.unpacked_chunk_offsets.items, ap (λ (x : Xorb). length x.lengths) view) in
    let text : footer_mark ++ (o.info.xorb_hash ++ (le32 o.info.num_chunks ++ (flat_map (λ hash. hash) o.info.chunk_hashes.items ++ (flat_map le32 o.info.chunk_boundary_offsets.items ++ flat_map le32 o.info.unpacked_chunk_offsets.items)))) ≡ footer_bytes object = sym (footer_parts o h) ∙ ap footer_bytes view in
    regroup out footer_mark o.info.xorb_hash (le32 o.info.num_chunks) (flat_map (λ hash. hash) o.info.chunk_hashes.items) (flat_map le32 o.info.chunk_boundary_offsets.items) (flat_map le32 o.info.unpacked_chunk_offsets.items) (le32 o.info_length)
    ∙ ap (λ (t : List ℕ). out ++ (t ++ le32 o.info_length)) text
    ∙ ap (λ (n : ℕ). out ++ (footer_bytes object ++ le32 n)) len

-- the chunks and the footer
pub xorb_written : (chunks : List (List ℕ)) (object : Xorb) → object ≡ object_of chunks → xorb_text chunks ++ (footer_bytes object ++ le32 (44 + 40 * length object.lengths)) ≡ xorb_bytes chunks
unfolding xorb_bytes
xorb_written chunks object is =
    ap (λ (x : Xorb). xorb_text chunks ++ (footer_bytes x ++ le32 (44 + 40 * length x.lengths))) is
    ∙ ap (λ (n : ℕ). xorb_text chunks ++ (footer_bytes (object_of chunks) ++ le32 (44 + 40 * n))) (lengths-length chunks)
