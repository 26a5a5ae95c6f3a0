-- What a plan that a store answers is.
use Rattle.xet_service.proofs.Stepping.{PlanFacts}
use Rattle.xet_service.proofs.Opening.{opens, orderly}
use Rattle.xet_service.proofs.Sized.{sized}
use Rattle.xet_service.proofs.Opened.{planned_good}
use Rattle.xet_service.proofs.Finishing.{GoodFacts}

pub plan_facts : PlanFacts
plan_facts = record {
  opens = λ version max store segments range clip plan at s. opens version max at s.planned;
  orderly = λ version max store segments range clip plan at s sound. orderly version max at store s.planned sound range;
}

pub good_facts : GoodFacts
good_facts = record {
  planned_good = λ version max store segments range clip plan at m agree sound s some. planned_good version max at store m agree sound s (sized store s.planned) some;
}
