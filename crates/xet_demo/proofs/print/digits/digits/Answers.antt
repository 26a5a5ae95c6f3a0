use Rattle.hex.specs.Hex.{lower_digits}
use Rattle.xet_demo.proofs.HexBlocks.{high_small, low_small, interleaved}
use Rattle.xet_demo.proofs.print.digits.digits.Goals as goal

pub looked_up-high-requires : goal.looked_up-high-requires
looked_up-high-requires c = high_small c.args.bytes c.fits-bytes.1

pub looked_up-low-requires : goal.looked_up-low-requires
looked_up-low-requires c = low_small c.args.bytes

pub returns-clause-digits : goal.returns-clause-digits
returns-clause-digits c = interleaved lower_digits c.args.bytes c.looked_up-high.result c.looked_up-low.result c.fits-bytes.0 c.looked_up-high.ensures c.looked_up-low.ensures
