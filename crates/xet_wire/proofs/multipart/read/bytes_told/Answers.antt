use Rattle.std.proofs.Common.{◌≡◌, ◌≢◌, rules, subst, List, ℕ, codes}
use Rattle.std.specs.List.{Contains}
use Rattle.std.specs.Str.{str_to_ascii_lowercase}
use Rattle.xet_wire.specs.Texts.{IsCutAtFirst}
use Rattle.xet_wire.proofs.MultipartReads.{no_colon, other_name, no_space, other_unit, tells_bytes}
use Rattle.xet_wire.proofs.multipart.read.bytes_told.Goals as goal

pub returns-in_default : goal.returns-in_default
returns-in_default c = no_colon c.args.line.now c.in_default.ensures

pub returns-then-not-eq_ignore_ascii_case : goal.returns-then-not-eq_ignore_ascii_case
returns-then-not-eq_ignore_ascii_case c =
    let differs : str_to_ascii_lowercase c.in-Some.name.now ≢ codes "content-range" = search rules in
    other_name c.args.line.now c.in-Some.name.now c.in-Some.value.now c.in-Some.ensures differs

pub returns-in_default-cut : goal.returns-in_default-cut
returns-in_default-cut c = no_space c.args.line.now c.in-Some.name.now c.in-Some.value.now c.in-Some.ensures (subst (λ (t : List ℕ). ¬ Contains t 32) c.trim.ensures.trim c.in_default-cut.ensures)

pub returns-else-eq_ignore_ascii_case : goal.returns-else-eq_ignore_ascii_case
returns-else-eq_ignore_ascii_case c =
    let inner = subst (λ (t : List ℕ). IsCutAtFirst 32 t c.in-Some-cut.unit.now c.in-Some-cut.rest.now) c.trim.ensures.trim c.in-Some-cut.ensures in
    let differs : str_to_ascii_lowercase c.in-Some-cut.unit.now ≢ codes "bytes" = search rules in
    other_unit c.args.line.now c.in-Some.name.now c.in-Some.value.now c.in-Some-cut.unit.now c.in-Some-cut.rest.now c.in-Some.ensures inner differs

pub returns-then-eq_ignore_ascii_case : goal.returns-then-eq_ignore_ascii_case
returns-then-eq_ignore_ascii_case c =
    let inner = subst (λ (t : List ℕ). IsCutAtFirst 32 t c.in-Some-cut.unit.now c.in-Some-cut.rest.now) c.trim.ensures.trim c.in-Some-cut.ensures in
    let named : str_to_ascii_lowercase c.in-Some.name.now ≡ codes "content-range" = search rules in
    let in_bytes : str_to_ascii_lowercase c.in-Some-cut.unit.now ≡ codes "bytes" = search rules in
    tells_bytes c.args.line.now c.in-Some.name.now c.in-Some.value.now c.in-Some-cut.unit.now c.in-Some-cut.rest.now c.in-Some.ensures named inner in_bytes
