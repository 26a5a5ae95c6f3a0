use Rattle.std.proofs.Common.{rules, ◌≡◌, ◌∙◌, ℕ, List, ap, map, length, arith}
use Rattle.xet_shard.specs.Canonical.{file_hash_of, last_by_hash}
use Rattle.xet_shard.specs.Values.{Listing}
use Rattle.xet_shard.proofs.CanonicalLaws.{length-last_by_hash}
use Rattle.xet_shard.proofs.canonical_form.canonical_files.Goals as goal

pub returns-clause-value : goal.returns-clause-value
unfolding last_by_hash
returns-clause-value c =
    let value : List ℕ × Listing → Listing = λ e. e.1 in
    let got : c.in_ok-files.files.items ≡ map value c.in_ok-last.last.entries = search rules in
    got ∙ ap (map value) c.in_ok-last.ensures

pub returns-clause-fewer : goal.returns-clause-fewer
returns-clause-fewer c =
    omega (arith, ap length (returns-clause-value c), length-last_by_hash file_hash_of c.args.files.now)
