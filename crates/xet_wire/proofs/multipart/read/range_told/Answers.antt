use Rattle.std.proofs.Common.{subst, List, ℕ}
use Rattle.std.specs.List.{Contains}
use Rattle.xet_wire.specs.Texts.{IsCutAtFirst}
use Rattle.xet_wire.proofs.MultipartReads.{no_slash, total_none, total_read}
use Rattle.xet_wire.proofs.multipart.read.range_told.Goals as goal

pub returns-in_default : goal.returns-in_default
returns-in_default c = no_slash c.args.told.now (subst (λ (t : List ℕ). ¬ Contains t 47) c.trim.ensures.trim c.in_default.ensures)

pub returns-in-Ok : goal.returns-in-Ok
returns-in-Ok c =
    let cut = subst (λ (t : List ℕ). IsCutAtFirst 47 t c.in-Some.spelled.now c.in-Some.field-0-1.now) c.trim.ensures.trim c.in-Some.ensures in
    total_read c.args.told.now c.in-Some.spelled.now c.in-Some.field-0-1.now c.in-Ok.range cut c.in-Ok.ensures.value

pub returns-in-Err : goal.returns-in-Err
returns-in-Err c =
    let cut = subst (λ (t : List ℕ). IsCutAtFirst 47 t c.in-Some.spelled.now c.in-Some.field-0-1.now) c.trim.ensures.trim c.in-Some.ensures in
    total_none c.args.told.now c.in-Some.spelled.now c.in-Some.field-0-1.now c.in-Err.field-0 cut c.in-Err.ensures.value
