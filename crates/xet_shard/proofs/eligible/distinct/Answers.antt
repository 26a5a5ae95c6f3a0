use Rattle.std.proofs.Common.{rules, ◌≡◌, ◌∙◌, Bool, true, false, cond, List, ℕ, ◌+◌, take, ◌++◌, ◌∷◌, [], sym, ap, subst}
use Rattle.std.specs.Option.{is_some}
use Rattle.std.specs.FinMap.{FinMap, get, insert, get-empty}
use Rattle.xet_types.specs.Names.{hash_cmp}
use Rattle.xet_shard.specs.Eligible.{distinct}
use Rattle.xet_shard.proofs.EligibleLaws.{has, AreSeen, seen_more, looked_at}
use Rattle.xet_shard.proofs.eligible.distinct.Goals.{then-not-contains+in_ok-insert+in_ok-push, else-not-contains}
use Rattle.xet_shard.proofs.eligible.distinct.Goals as goal

pub loop-hash-init : goal.loop-hash-init
loop-hash-init c = record {
  firsts = c.new-firsts.ensures.items;
  seen = λ x. ap (λ (m : FinMap hash_cmp (Unit {0})). is_some (get m x)) c.new-seen.ensures ∙ ap is_some (get-empty hash_cmp x) ∙ sym (ap (λ hs. has hs x) c.new-firsts.ensures.items);
}

pub loop-hash-preserved : goal.loop-hash-preserved
loop-hash-preserved c =
    let hs = c.args.hashes.now in
    let i = c.loop-hash.hash-index in
    let x = c.hash-item.result in
    let step : (was : Bool) → c.contains.result ≡ was → distinct (take (i + 1) hs) ≡ cond was c.loop-hash.firsts.items (c.loop-hash.firsts.items ++ x ∷ [])
    = λ was e. looked_at hs i x c.loop-hash.seen c.loop-hash.firsts.items was c.loop-hash-test.true c.hash-item.is c.loop-hash.invariant.firsts c.loop-hash.invariant.seen (sym e ∙ c.contains.ensures) in
    elim c.if-not-contains.branch [
      | then-not-contains+in_ok-insert+in_ok-push w ↦
          (let absent : c.contains.result ≡ false = search rules in
          let put : c.if-not-contains.seen ≡ insert c.loop-hash.seen x tt = search rules in
          let pushed : c.if-not-contains.firsts.items ≡ c.loop-hash.firsts.items ++ x ∷ [] = search rules in
          record {
            firsts = pushed ∙ sym (step false absent);
            seen = subst (λ (m : FinMap hash_cmp (Unit {0})). AreSeen m c.if-not-contains.firsts.items) (sym put) (subst (λ (fs : List (List ℕ)). AreSeen (insert c.loop-hash.seen x tt) fs) (sym pushed) (seen_more c.loop-hash.seen c.loop-hash.firsts.items x c.loop-hash.invariant.seen));
          })
      | else-not-contains w ↦
          (let present : c.contains.result ≡ true = search rules in
          let kept : c.if-not-contains.firsts.items ≡ c.loop-hash.firsts.items = search rules in
          let same : c.if-not-contains.seen ≡ c.loop-hash.seen = search rules in
          record {
            firsts = kept ∙ sym (step true present);
            seen = subst (λ (m : FinMap hash_cmp (Unit {0})). AreSeen m c.if-not-contains.firsts.items) (sym same) (subst (λ (fs : List (List ℕ)). AreSeen c.loop-hash.seen fs) (sym kept) c.loop-hash.invariant.seen);
          })
    ]
