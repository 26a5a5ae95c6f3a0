use Rattle.std.proofs.Common.{◌≡◌, ◌∙◌, ◌-◌, ℕ, arith, sym, subst}
use Rattle.std.proofs.lemmas.Bool.{le-ltb}
use Rattle.xet_types.specs.declared.range.Range.{Range}
use Rattle.xet_types.specs.declared.range._F.{_F}
use Rattle.xet_wire.specs.Links.{SpellsFirstLink}
use Rattle.xet_store.proofs.TermLaws.{same_range}
use Rattle.xet_store.proofs.memory.term.named_xorb.Goals as goal

pub returns : goal.returns
returns c = record {
  stamp = c.in_ok-hash.stamp;
  spelled = subst (λ (r : Range ℕ _F). SpellsFirstLink c.args.url.now c.in_ok-hash.hash r c.in_ok-hash.stamp) (same_range c.in_ok-hash.range c.from.result (sym c.if-ne.ensures) ∙ c.from.ensures) c.in_ok-hash.ensures.value;
  fresh = le-ltb c.args.expiration (c.args.at - c.in_ok-hash.stamp) (omega (arith, c.saturating_sub.ensures, c.if-saturating_sub-expiration.false));
}
