use Rattle.std.proofs.Common.{◌≡◌, ◌∙◌, ℕ, List, Err, sym, ap, subst}
use Rattle.std.specs.Prelude.{⊤}
use Rattle.std.proofs.lemmas.Result.{err_from_is_err_and}
use Rattle.xet_types.specs.Faults.{refusal_of}
use Rattle.xet_wire.specs.Multipart.{IsReadAs, ReadsMultipart}
use Rattle.xet_service.specs.ReadingParts.{are_of, CutsApart}
use Rattle.xet_service.proofs.ReaderBodies.{refused}
use Rattle.xet_service.proofs.PartsLaws.{unread, unlike_parts, like_parts}
use Rattle.xet_service.proofs.reader.parts.split.Goals as goal

pub returns-in_err-read : goal.returns-in_err-read
returns-in_err-read c =
    let cases = c.in_ok-clone.ensures.cases in
    let same : ◌≡◌ {A = List ℕ} c.in_ok-clone.field-0 c.args.body.now = cc in
    let p = err_from_is_err_and c.from_residual-in_err-read.result c.from_residual-in_err-read.ensures.1 in
    rw (p.1, p.2) (unread c.args.ranges.now c.args.content_type.now c.args.body.now c.in_err-read.field-0.0 (subst (λ (b : List ℕ). ReadsMultipart c.args.content_type.now b (Err c.in_err-read.field-0.0)) same c.in_err-read.ensures.value))

pub returns-then-not-are_of : goal.returns-then-not-are_of
returns-then-not-are_of c =
    let cases = c.in_ok-clone.ensures.cases in
    let same : ◌≡◌ {A = List ℕ} c.in_ok-clone.field-0 c.args.body.now = cc in
    refused (refusal_of c.unlike.result) (CutsApart c.args.ranges.now c.args.content_type.now c.args.body.now) ⊤ c.unlike.ensures
    (unlike_parts c.args.ranges.now c.args.content_type.now c.args.body.now c.in_ok-read.read (λ ps is. c.in_ok-read.ensures.reads ps (subst (λ (b : List ℕ). IsReadAs c.args.content_type.now b ps) (sym same) is)) (ap (are_of c.args.ranges.now) (sym c.deref.ensures.value) ∙ sym c.are_of.ensures ∙ c.if-not-are_of.true)) tt

pub returns : goal.returns
returns c =
    let cases = c.in_ok-clone.ensures.cases in
    let same : ◌≡◌ {A = List ℕ} c.in_ok-clone.field-0 c.args.body.now = cc in
    like_parts c.args.ranges.now c.args.content_type.now c.args.body.now c.in_ok-read.read c.in_ok-contents.field-0 (subst (λ (b : List ℕ). IsReadAs c.args.content_type.now b c.in_ok-read.read.items) same c.in_ok-read.ensures.value) (ap (are_of c.args.ranges.now) (sym c.deref.ensures.value) ∙ sym c.are_of.ensures ∙ c.if-not-are_of.false) c.in_ok-contents.ensures
