use Rattle.std.proofs.Common.{◌≡◌, ◌∙◌, ◌-◌, ℕ, Option, Some, Ok, Err, Result, ap, subst}
use Rattle.std.proofs.lemmas.Result.{err_from_is_err_and}
use Rattle.std.specs.FinMap.{FinMap, get}
use Rattle.xet_types.specs.Names.{hash_cmp}
use Rattle.xet_types.specs.declared.range.Range.{Range}
use Rattle.xet_types.specs.declared.range._F.{_F}
use Rattle.xet_types.specs.declared.error.ClientError.{ClientError}
use Rattle.xet_plan.specs.Places.{Known}
use Rattle.xet_plan.specs.FileBytes.{assembled}
use Rattle.xet_plan.specs.Plans.{TermsModel}
use Rattle.xet_plan.specs.Answers.{TermsAnswers, TermsBytes}
use Rattle.xet_store.specs.StoreModel.{StoreModel, Chunks, known_of, content_of}
use Rattle.xet_store.specs.Kept.{known_in}
use Rattle.xet_store.proofs.Data.{data_ok, data_refused}
use Rattle.xet_store.proofs.memory.MemoryClient.bytes_of.Goals as goal

abbrev told_of : Known → Option Known
told_of known = Some known

abbrev range_from : ℕ → ℕ → Range ℕ _F
range_from start end = record { start = start; end = end; _marker = record {} }

told : (m : StoreModel) (xs : FinMap hash_cmp Chunks) → xs ≡ m.xorbs → told_of (known_in xs) ≡ told_of (known_of m)
told m xs e = ap (λ (xs : FinMap hash_cmp Chunks). told_of (known_in xs)) e

pub returns-in_err-plan : goal.returns-in_err-plan
returns-in_err-plan c =
    let m = c.args.self.now in
    let segments = c.args.listing.now.segments in
    let r = range_from c.args.start c.args.end in
    let e = c.in_err-plan.field-0.0 in
    let known = told m c.new-footers.result.xorbs.now (c.new-footers.ensures ∙ ap (λ (s : StoreModel). s.xorbs) c.self.view_is) in
    let answers : TermsAnswers (known_of m) segments (Some r) (Err e) = subst (λ (x : Range ℕ _F). TermsAnswers (known_of m) segments (Some x) (Err e)) c.new.ensures (c.in_err-plan.ensures.answer (known_of m) known) in
    let p = err_from_is_err_and c.from_residual.result c.from_residual.ensures.1 in
    rw (p.1, p.2) (data_refused m segments r c.requires.some c.requires.within e answers c.in_err-plan.ensures.cause)

pub returns : goal.returns
returns c =
    let m = c.args.self.now in
    let segments = c.args.listing.now.segments in
    let r = range_from c.args.start c.args.end in
    let plan = c.in-Some.plan in
    let known = told m c.new-footers.result.xorbs.now (c.new-footers.ensures ∙ ap (λ (s : StoreModel). s.xorbs) c.self.view_is) in
    let done : Option TermsModel → Result (Option TermsModel) ClientError = λ o. Ok o in
    let answers : TermsAnswers (known_of m) segments (Some r) (Ok (Some plan)) =
    subst (λ (o : Option TermsModel). TermsAnswers (known_of m) segments (Some r) (done o)) c.in-Some.is
    (subst (λ (x : Range ℕ _F). TermsAnswers (known_of m) segments (Some x) (Ok c.in_ok-plan.field-0)) c.new.ensures (c.in_ok-plan.ensures.answer (known_of m) known)) in
    let bytes : TermsBytes (known_of m) segments (Some r) (Ok (Some plan)) =
    subst (λ (o : Option TermsModel). TermsBytes (known_of m) segments (Some r) (done o)) c.in-Some.is
    (subst (λ (x : Range ℕ _F). TermsBytes (known_of m) segments (Some x) (Ok c.in_ok-plan.field-0)) c.new.ensures (c.in_ok-plan.ensures.bytes (known_of m) known)) in
    let joined : c.in_ok-assemble-in-Some.field-0 ≡ assembled (content_of m) plan.terms plan.offset_into_first_range (c.args.end - c.args.start) =
    c.in_ok-assemble-in-Some.ensures
    ∙ ap (λ ts. assembled (get c.self.inside.xorbs) ts c.plan.inside.offset_into_first_range (c.args.end - c.args.start)) c.deref.ensures.value
    ∙ ap (λ (q : TermsModel). assembled (get c.self.inside.xorbs) q.terms q.offset_into_first_range (c.args.end - c.args.start)) c.plan.view_is
    ∙ ap (λ (s : StoreModel). assembled (content_of s) plan.terms plan.offset_into_first_range (c.args.end - c.args.start)) c.self.view_is in
    data_ok m segments r c.requires.some c.requires.within plan c.in_ok-assemble-in-Some.field-0 answers bytes joined
