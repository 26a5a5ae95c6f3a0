use Rattle.std.proofs.Common.{◌≡◌, ◌∙◌, List, ℕ, Err, refl, sym, subst}
use Rattle.std.proofs.lemmas.Result.{err_from_is_err_and}
use Rattle.xet_xorb.specs.ChunkLists.{object_of}
use Rattle.xet_xorb.specs.Footers.{tail_bytes, ReadsFooter}
use Rattle.xet_xorb.proofs.Footing.{known_of, text_is, no_tail, no_parts}
use Rattle.xet_xorb.proofs.read.read_whole.Goals as goal

pub returns-in_err-parts : goal.returns-in_err-parts
returns-in_err-parts c =
    let p = err_from_is_err_and c.from_residual.result c.from_residual.ensures.1 in
    rw (p.1, p.2) (no_parts c.in_err-parts.field-0.0 c.args.content.now c.in_err-parts.ensures)

pub returns-in_err-has_footer : goal.returns-in_err-has_footer
returns-in_err-has_footer c =
    let p = err_from_is_err_and c.from_residual-in_err-has_footer.result c.from_residual-in_err-has_footer.ensures.1 in
    let parts = c.in_ok-parts.ensures in
    let is : c.in_ok-object.object ≡ object_of c.in_ok-parts.parts.chunks.items = known_of c.in_ok-object.object c.in_ok-parts.parts.hashes.items c.as_slice.result.now c.in_ok-parts.parts.chunks.items c.in_ok-object.ensures parts.hashes (c.as_slice.ensures.value ∙ parts.lengths) in
    let none = subst (λ (t : List ℕ). ReadsFooter t c.in_ok-object.object (Err c.in_err-has_footer.field-0.0)) c.as_slice-2.ensures c.in_err-has_footer.ensures in
    rw (p.1, p.2) (no_tail c.in_err-has_footer.field-0.0 c.args.content.now c.in_ok-parts.parts.chunks.items c.in_ok-parts.parts.rest c.in_ok-object.object parts.chunks is none)

pub returns : goal.returns
returns c =
    let parts = c.in_ok-parts.ensures in
    let is : c.in_ok-object.object ≡ object_of c.in_ok-parts.parts.chunks.items = known_of c.in_ok-object.object c.in_ok-parts.parts.hashes.items c.as_slice.result.now c.in_ok-parts.parts.chunks.items c.in_ok-object.ensures parts.hashes (c.as_slice.ensures.value ∙ parts.lengths) in
    let tail : c.in_ok-parts.parts.rest ≡ tail_bytes c.in_ok-has_footer.has_footer c.in_ok-object.object = sym c.as_slice-2.ensures ∙ c.in_ok-has_footer.ensures in
    record {
      chunks = record {
        has_footer = c.in_ok-has_footer.has_footer;
        formed = parts.chunks.formed;
        text = text_is c.args.content.now c.in_ok-parts.parts.chunks.items c.in_ok-parts.parts.rest c.in_ok-object.object c.in_ok-has_footer.has_footer parts.chunks is tail;
      };
      object = is;
      footer = refl;
    }
