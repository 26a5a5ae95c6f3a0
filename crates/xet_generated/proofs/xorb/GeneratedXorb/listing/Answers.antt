use Rattle.std.proofs.Common.{◌≡◌, ◌∙◌, ℕ, List, length, ap, subst}
use Rattle.xet_types.specs.Names.{xorb_name}
use Rattle.xet_xorb.specs.Lengths.{unpacked_before}
use Rattle.xet_xorb.specs.Values.{Xorb}
use Rattle.xet_xorb.specs.ChunkLists.{IsWellFormed, lengths_of, joined}
use Rattle.xet_shard.specs.declared.listing.ChunkListing.{ChunkListing}
use Rattle.xet_shard.specs.Values.{ListedXorb}
use Rattle.xet_generated.proofs.Pieces.{whole_length, few_listed}
use Rattle.xet_generated.proofs.xorb.GeneratedXorb.listing.Goals as goal

pub invariant_of-result : goal.invariant_of-result
invariant_of-result c =
    few_listed c.args.self.now c.in_ok-listed_chunks.field-0.items (subst IsWellFormed c.self.view_is c.self.invariant.formed) c.in_ok-listed_chunks.ensures

pub returns : goal.returns
returns c =
    let cs = c.args.self.now in
    let made : List ℕ → ℕ → List ChunkListing → ListedXorb = λ h n ls. record { xorb_hash = h; num_bytes = n; chunks = ls } in
    let lens : c.self.inside.object.lengths ≡ lengths_of cs = ap (λ (x : Xorb). x.lengths) c.self.invariant.object ∙ ap lengths_of c.self.view_is in
    let long : c.unpacked_before.result ≡ length (joined cs) =
    whole_length cs c.num_chunks.result c.unpacked_before.result (c.num_chunks.ensures.count ∙ ap (λ (ns : List ℕ). length ns) lens) (c.unpacked_before.ensures ∙ ap (λ ns. unpacked_before ns c.num_chunks.result) lens) in
    ap (λ h. made h c.unpacked_before.result c.in_ok-listed_chunks.field-0.items) c.xorb_hash.ensures
    ∙ ap (λ n. made (xorb_name cs) n c.in_ok-listed_chunks.field-0.items) long
    ∙ ap (made (xorb_name cs) (length (joined cs))) c.in_ok-listed_chunks.ensures
