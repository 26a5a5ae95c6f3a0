use Rattle.std.proofs.Common.{◌≡◌, ◌∙◌, ap, sym, subst, true, List, ℕ, [], ◌∷◌}
use Rattle.xet_types.specs.declared.record.XorbRangeDescriptor.{XorbRangeDescriptor}
use Rattle.xet_xorb.specs.XorbBytes.{AreWholeChunks}
use Rattle.xet_service.specs.ReadingParts.{are_sized}
use Rattle.xet_service.proofs.PartsLaws.{are_long}
use Rattle.xet_service.proofs.ReaderLinks.{brings_alone}
use Rattle.xet_service.proofs.reader.link.ReadLink.read_alone.Goals as goal

pub returns : goal.returns
returns c =
    let l = c.args.self.now in
    let ranges = sym c.as_slice.ensures ∙ c.in_ok-range.ensures in
    let held = sym c.as_slice-2.ensures ∙ c.in_ok-own.ensures in
    let parts = c.args.body.now ∷ [] in
    let fit : are_sized l.ranges parts ≡ true =
    ap (λ (rs : List XorbRangeDescriptor). are_sized rs parts) (sym c.as_slice-3.ensures) ∙ ap (λ (ps : List (List ℕ)). are_sized c.as_slice-3.result.now ps) (sym c.from_ref.ensures.value) ∙ sym c.are_sized.ensures ∙ c.if-not-are_sized.false in
    let whole = subst (λ (t : List ℕ). AreWholeChunks t c.in_ok-chunks.chunks) c.in-Ok.ensures.cases c.in_ok-chunks.ensures in
    brings_alone l c.in_ok-range.range.now c.in_ok-own.own.now c.args.other.now c.args.body.now c.in_ok-chunks.chunks c.count_of-count.result ranges held c.count_of-count.ensures (c.takes_all.ensures c.if-not-takes_all.false) (c.takes_all-else-not-takes_all.ensures c.if-not-takes_all-2.false)
    (are_long l.ranges parts fit) whole (c.have_sizes.ensures c.if-not-have_sizes.false)
