use Rattle.std.proofs.Common.{◌≡◌, ◌∙◌, ap, List, [], ℕ, codes, ◌++◌, ◌^◌, ◌-◌, rules, string_bytes, false}
use Rattle.std.specs.Prelude.{decimal}
use Rattle.std.specs.Fmt.{padded_integral, format_spec}
use Rattle.xet_wire.specs.Multipart.{numbered_boundary}
use Rattle.xet_wire.proofs.TwentyDigits.{written_twenty}
use Rattle.xet_wire.proofs.multipart.boundary.numbered.Goals as goal

pub returns : goal.returns
unfolding numbered_boundary
returns c =
    let written : string_bytes c.in_ok-format.field-0 ≡ codes "xet_multipart_boundary_" ++ padded_integral (format_spec 32 0 4 20 (2 ^ 64 - 1)) false [] (decimal c.args.number) = search rules in
    written ∙ ap (λ (t : List ℕ). codes "xet_multipart_boundary_" ++ t) (written_twenty c.args.number)
