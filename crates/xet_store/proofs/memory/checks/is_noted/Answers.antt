use Rattle.std.proofs.Common.{◌≡◌, ◌∙◌, not, sym, ap}
use Rattle.std.specs.Option.{option_copied}
use Rattle.std.specs.Ordering.{is_lt}
use Rattle.xet_store.specs.Checking.{is_noted}
use Rattle.xet_store.proofs.memory.checks.is_noted.Goals as goal

pub returns-in-Some : goal.returns-in-Some
returns-in-Some c = ap not (c.is_lt.ensures ∙ ap is_lt c.cmp.ensures) ∙ ap (is_noted c.args.name.now) (ap option_copied (sym c.in-Some.is) ∙ c.get.ensures)
