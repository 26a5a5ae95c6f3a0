use Rattle.std.proofs.Common.{◌∙◌, ◌++◌, ◌+◌, ◌*◌, List, ℕ, length, ap, arith}
use Rattle.xet_bytes.specs.Fields.{le32}
use Rattle.xet_xorb.specs.XorbBytes.{footer_bytes}
use Rattle.xet_xorb.proofs.Owning.{footed}
use Rattle.xet_xorb.proofs.contents.footed_text.Goals as goal

pub returns : goal.returns
returns c =
    let object = c.args.read.now.object in
    let same = ap (λ (t : List ℕ). t ++ (footer_bytes object ++ le32 (44 + 40 * length object.lengths))) c.as_slice.ensures ∙ footed c.args.content.now c.args.read.now c.requires c.if-read.false in
    grind (arith, c.with_footer.ensures, same)
