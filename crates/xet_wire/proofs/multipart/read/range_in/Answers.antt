use Rattle.std.proofs.Common.{List, ℕ, subst, rules, []}
use Rattle.xet_wire.specs.Multipart.{TellsRange, lines_of}
use Rattle.xet_wire.proofs.MultipartReads.{SameTold, lines_cut, lines_none, told_here, no_bytes_told, told_nowhere}
use Rattle.xet_wire.proofs.multipart.read.range_in.Goals as goal

pub returns-in-Some-bytes_told : goal.returns-in-Some-bytes_told
returns-in-Some-bytes_told c =
    let told = subst (λ (t : List (List ℕ)). SameTold TellsRange (lines_of c.args.headers.now) t) (lines_cut c.loop-line.rest.now c.in-Some.line.now c.in-Some.more.now c.in-Some.ensures) c.loop-line.invariant.1 in
    told_here (lines_of c.args.headers.now) c.in-Some.line.now c.in-Some-bytes_told.told.now (lines_of c.in-Some.more.now) c.range_told.result told c.in-Some-bytes_told.ensures c.range_told.ensures

pub loop-line-preserved : goal.loop-line-preserved
loop-line-preserved c =
    let told = subst (λ (t : List (List ℕ)). SameTold TellsRange (lines_of c.args.headers.now) t) (lines_cut c.loop-line.rest.now c.in-Some.line.now c.in-Some.more.now c.in-Some.ensures) c.loop-line.invariant.1 in
    (search rules, no_bytes_told (lines_of c.args.headers.now) c.in-Some.line.now (lines_of c.in-Some.more.now) told c.in_default-bytes_told.ensures)

pub returns-in-Some-bytes_told-2 : goal.returns-in-Some-bytes_told-2
returns-in-Some-bytes_told-2 c =
    let told = subst (λ (t : List (List ℕ)). SameTold TellsRange (lines_of c.args.headers.now) t) (lines_none c.loop-line.rest.now c.in_default.ensures) c.loop-line.invariant.1 in
    told_here (lines_of c.args.headers.now) c.loop-line.rest.now c.in-Some-bytes_told-2.told.now [] c.range_told-in-Some-bytes_told-2.result told c.in-Some-bytes_told-2.ensures c.range_told-in-Some-bytes_told-2.ensures

pub returns-in-None : goal.returns-in-None
returns-in-None c =
    let told = subst (λ (t : List (List ℕ)). SameTold TellsRange (lines_of c.args.headers.now) t) (lines_none c.loop-line.rest.now c.in_default.ensures) c.loop-line.invariant.1 in
    told_nowhere (lines_of c.args.headers.now) (no_bytes_told (lines_of c.args.headers.now) c.loop-line.rest.now [] told c.in-None.ensures)
