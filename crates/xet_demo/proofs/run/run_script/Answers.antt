use Rattle.std.proofs.Common.{◌≡◌, ◌∙◌, Option, Some, None, ap, sym, subst}
use Rattle.xet_demo.specs.declared.words.Call.{Call}
use Rattle.xet_demo.specs.declared.words.Call.TheVariants.{Make}
use Rattle.xet_demo.specs.declared.run.Status.{Status}
use Rattle.xet_demo.specs.TopCall.{Answered, EndsAs, EndsMade, Sides, sides}
use Rattle.xet_demo.proofs.run.run_script.Goals as goal

pub returns-in-Some-Make-clause-usage : goal.returns-in-Some-Make-clause-usage
returns-in-Some-Make-clause-usage g c =
    let left = g.S.Source.left c.args.source.now in
    let faults = g.S.Source.faults c.args.source.now in
    let old : Sides = sides left faults (g.W.Sink.taken c.args.sink.now) (g.W.Sink.faults c.args.sink.now) in
    let new : Sides = sides left faults (g.W.Sink.taken c.make.new.sink) (g.W.Sink.faults c.make.new.sink) in (
      λ e. absurd (subst (λ (s : Status). EndsMade Answered c.in-Some-Make.count old new s) e (c.make.ensures left faults)),
      λ e. absurd (let no : ◌≡◌ {A = Option Call} None (Some (Make c.in-Some-Make.count)) = sym e ∙ sym c.call_of.ensures ∙ c.in-Some-Make.is ∙ ap (λ (x : Call). Some x) c.in-Some-Make.field-0-is in cc),
    )

pub returns-in-Some-Make-clause-ends : goal.returns-in-Some-Make-clause-ends
returns-in-Some-Make-clause-ends g c =
    let left = g.S.Source.left c.args.source.now in
    let faults = g.S.Source.faults c.args.source.now in
    let old : Sides = sides left faults (g.W.Sink.taken c.args.sink.now) (g.W.Sink.faults c.args.sink.now) in
    let new : Sides = sides left faults (g.W.Sink.taken c.make.new.sink) (g.W.Sink.faults c.make.new.sink) in
    subst (λ (o : Option Call). EndsAs Answered o old new c.make.result) (sym (sym c.call_of.ensures ∙ c.in-Some-Make.is ∙ ap (λ (x : Call). Some x) c.in-Some-Make.field-0-is)) (c.make.ensures left faults)
