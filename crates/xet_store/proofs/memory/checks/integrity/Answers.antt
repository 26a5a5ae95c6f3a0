use Rattle.std.proofs.Common.{◌≡◌, ◌∙◌, ◌&&◌, true, sym, ap}
use Rattle.std.specs.List.{list_all}
use Rattle.xet_store.specs.Checks.{lists_stored, all_fit}
use Rattle.xet_store.specs.Checking.{parts, Counts, files_fit}
use Rattle.xet_store.proofs.Checking.{all_fit_same}
use Rattle.xet_store.proofs.memory.checks.integrity.Goals as goal

pub returns : goal.returns
returns c =
    let xorbs = c.args.xorbs.now in
    let shards = c.args.shards.now in
    let hidden = c.args.hidden.now in
    let stored : list_all (lists_stored (parts xorbs shards hidden)) shards ≡ true = sym c.all_stored.ensures ∙ c.if-not-all_stored.false in
    let fit : c.all_fit.result ≡ list_all (all_fit (parts xorbs shards hidden)) shards =
    c.all_fit.ensures ∙ ap (λ (counts : Counts). list_all (λ s. files_fit counts xorbs hidden s.files) shards) c.in_ok-counts.ensures ∙ all_fit_same xorbs shards hidden in
    fit ∙ sym (ap (λ b. b && list_all (all_fit (parts xorbs shards hidden)) shards) stored)
