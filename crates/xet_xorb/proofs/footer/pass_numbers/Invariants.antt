use Rattle.std.proofs.Common.{◌≡◌, drop}
use Rattle.std.specs.List.{flat_map}
use Rattle.xet_bytes.specs.Fields.{le32}
use Rattle.xet_bytes.specs.Reading.{literal_at}
use Rattle.xet_xorb.proofs.footer.pass_numbers.Given as goal

abbrev pub invariant-loop-number : goal.invariant-loop-number
invariant-loop-number l = literal_at (flat_map le32 l.numbers) l.fn.cursor ≡ literal_at (flat_map le32 (drop l.number-index l.numbers)) l.cursor
