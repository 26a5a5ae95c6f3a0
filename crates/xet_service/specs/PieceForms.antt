-- The bytes of pieces, however these are kept.
use Rattle.std.specs.Prelude.{ℕ, List, take, drop}
use Rattle.std.specs.List.{concat}
use Rattle.xet_service.specs.declared.pieces.Form.{Form}
use Rattle.xet_service.specs.declared.pieces.Form.TheVariants.{Listed, Chunks}

abbrev pub joined : Form → List ℕ
joined (Listed pieces) = concat pieces.items
joined (Chunks chunks skip left) = take left (drop skip (concat chunks))
