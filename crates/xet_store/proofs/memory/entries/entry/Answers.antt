use Rattle.std.proofs.Common.{◌∙◌, Some, None, sym, ap}
use Rattle.std.specs.Option.{option_copied}
use Rattle.xet_store.proofs.Entries.{entry_is}
use Rattle.xet_store.proofs.memory.entries.entry.Goals as goal

pub returns-in-Some : goal.returns-in-Some
returns-in-Some c = entry_is c.args.entries.now c.args.chunk.now (Some c.in-Some.name.now) (ap option_copied (sym c.in-Some.is) ∙ c.get.ensures)

pub returns-in-None : goal.returns-in-None
returns-in-None c = entry_is c.args.entries.now c.args.chunk.now None (ap option_copied (sym c.in-None.is) ∙ c.get.ensures)
