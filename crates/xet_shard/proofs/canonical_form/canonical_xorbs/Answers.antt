use Rattle.std.proofs.Common.{rules, ◌≡◌, ◌∙◌, ℕ, List, ap, map, length, arith}
use Rattle.xet_shard.specs.Canonical.{xorb_hash_of, last_by_hash}
use Rattle.xet_shard.specs.Values.{ListedXorb}
use Rattle.xet_shard.proofs.CanonicalLaws.{length-last_by_hash}
use Rattle.xet_shard.proofs.canonical_form.canonical_xorbs.Goals as goal

pub returns-clause-value : goal.returns-clause-value
unfolding last_by_hash
returns-clause-value c =
    let value : List ℕ × ListedXorb → ListedXorb = λ e. e.1 in
    let got : c.in_ok-xorbs.xorbs.items ≡ map value c.in_ok-last.last.entries = search rules in
    got ∙ ap (map value) c.in_ok-last.ensures

pub returns-clause-fewer : goal.returns-clause-fewer
returns-clause-fewer c =
    omega (arith, ap length (returns-clause-value c), length-last_by_hash xorb_hash_of c.args.xorbs.now)
