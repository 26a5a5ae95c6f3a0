use Rattle.std.proofs.Common.{◌≡◌, ◌∙◌, ◌++◌, ◌+◌, ◌*◌, ap, List, ℕ, length, refl}
use Rattle.xet_bytes.specs.Fields.{le32}
use Rattle.xet_xorb.specs.XorbBytes.{xorb_text, footer_bytes}
use Rattle.xet_xorb.proofs.FooterText.{xorb_written}
use Rattle.xet_xorb.proofs.write.write_xorb.Goals as goal

pub returns : goal.returns
returns c =
    let object = c.in_ok-object.object in
    let chunks : c.put_chunks.new.out.items ≡ xorb_text c.args.chunks.now = c.in_ok-put_chunks.ensures ∙ ap (λ (t : List ℕ). t ++ xorb_text c.args.chunks.now) c.in_ok-out.ensures.items in (
      c.if-not-is_well_formed.ensures.0 refl,
      c.in_ok-from_vec.ensures.ok ∙ c.in_ok-put_footer.ensures ∙ ap (λ (t : List ℕ). t ++ (footer_bytes object ++ le32 (44 + 40 * length object.lengths))) chunks ∙ xorb_written c.args.chunks.now object c.in_ok-object.ensures,
    )
