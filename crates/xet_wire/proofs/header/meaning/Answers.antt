use Rattle.std.specs.Prelude.{codes}
use Rattle.std.proofs.Common.{◌≡◌, ◌++◌}
use Rattle.xet_wire.proofs.HeaderTexts.{means_utf8, no_dash, meaning_of}
use Rattle.xet_wire.proofs.header.meaning.Goals as goal

pub returns-in_default : goal.returns-in_default
returns-in_default c = λ a means. c.in_default.ensures.cases.0 (means_utf8 c.args.value.now a means)

pub returns-in_default-cut : goal.returns-in_default-cut
returns-in_default-cut c =
    let same = c.in-Ok.ensures.cases in
    let behind = c.in-Some.ensures in
    let is : c.args.value.now ≡ codes "bytes=" ++ c.in-Some.rest.now = cc in
    no_dash c.args.value.now c.in-Some.rest.now is c.in_default-cut.ensures

pub returns : goal.returns
returns c =
    let same = c.in-Ok.ensures.cases in
    let behind = c.in-Some.ensures in
    let is : c.args.value.now ≡ codes "bytes=" ++ c.in-Some.rest.now = cc in
    meaning_of c.args.value.now c.in-Some.rest.now _ _ c.asked.result is c.in-Some-cut.ensures c.asked.ensures
