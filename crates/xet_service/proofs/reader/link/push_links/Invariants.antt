use Rattle.std.proofs.Common.{◌≡◌, ◌++◌, take}
use Rattle.xet_service.specs.ReadingPlans.{xorb_links}
use Rattle.xet_service.proofs.reader.link.push_links.Given as goal

abbrev pub invariant-loop-fetch : goal.invariant-loop-fetch
invariant-loop-fetch l = l.links.items ≡ l.fn.links.items ++ xorb_links (l.fn.hash, take l.fetch-index l.fetches)
