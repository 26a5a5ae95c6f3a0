-- A plan as a value.
use Rattle.std.specs.Prelude.{ℕ, List}
use Rattle.xet_types.specs.declared.record.XorbReconstructionTerm.{XorbReconstructionTerm}
use Rattle.xet_plan.specs.declared.runs.MergedRange.{MergedRange}

-- how many bytes to leave out at the front, the terms in file order, and the ranges to fetch, by xorb
pub record PlanModel : Type 0 where
  pub offset_into_first_range : ℕ
  pub terms : List XorbReconstructionTerm
  pub merged : List (List ℕ × List MergedRange)

-- the same without the ranges to fetch
pub record TermsModel : Type 0 where
  pub offset_into_first_range : ℕ
  pub terms : List XorbReconstructionTerm

abbrev pub terms_shown : PlanModel → TermsModel
terms_shown plan = record { offset_into_first_range = plan.offset_into_first_range; terms = plan.terms }
