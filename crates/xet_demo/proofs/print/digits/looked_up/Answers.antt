use Rattle.std.proofs.Common.{refl, arith, w8}
use Rattle.std.proofs.lemmas.Simd.{SwzOk-from_below}
use Rattle.hex.specs.Hex.{lower_digits}
use Rattle.xet_demo.proofs.HexBlocks.{looked_up}
use Rattle.xet_demo.proofs.print.digits.looked_up.Goals as goal

pub swizzle : goal.swizzle
swizzle c = SwzOk-from_below w8 16 1 16 0 c.args.values refl (omega (arith, c.fits-values.0)) c.requires

pub returns : goal.returns
returns c = looked_up lower_digits c.args.values c.fits-values.0 c.requires
