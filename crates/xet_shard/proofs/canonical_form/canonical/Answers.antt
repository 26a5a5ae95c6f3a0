use Rattle.std.proofs.Common.{rules, ◌∙◌, sym, subst}
use Rattle.xet_shard.specs.Canonical.{IsCanonical}
use Rattle.xet_shard.proofs.CanonicalLaws.{IsCanonical-canonical_of, canonical_of-again}
use Rattle.xet_shard.proofs.canonical_form.canonical.Goals as goal

pub returns-clause-value : goal.returns-clause-value
returns-clause-value c = search rules

pub returns-clause-rises : goal.returns-clause-rises
returns-clause-rises c = subst IsCanonical (sym (returns-clause-value c)) (IsCanonical-canonical_of c.args.shard.now)

pub returns-clause-same : goal.returns-clause-same
returns-clause-same c = λ h. returns-clause-value c ∙ canonical_of-again c.args.shard.now h

pub returns-clause-twice : goal.returns-clause-twice
returns-clause-twice c = canonical_of-again _ (returns-clause-rises c)
