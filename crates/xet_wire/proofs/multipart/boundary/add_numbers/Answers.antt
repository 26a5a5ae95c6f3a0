use Rattle.std.proofs.Common.{◌≡◌, ◌<◌, ◌^◌, ◌++◌, ◌∷◌, [], List, ℕ, arith, rules, subst, sym}
use Rattle.xet_wire.proofs.Boundaries.{Scans, scans_none, scans_all, scans_past, scans_number}
use Rattle.xet_wire.proofs.multipart.boundary.add_numbers.Goals as goal

pub loop-digits-init : goal.loop-digits-init
loop-digits-init c = scans_none c.args.part.now c.args.taken.now.items

pub loop-digits-preserved-in_ok-push : goal.loop-digits-preserved-in_ok-push
loop-digits-preserved-in_ok-push c =
    let pushed : c.push.new.self.items ≡ c.loop-digits.taken.items ++ c.in-Some-number_at.number ∷ [] = search rules in
    let small : c.in-Some-number_at.number < 2 ^ 64 = search arith in
    subst (λ (t : List ℕ). Scans c.args.part.now c.in-Some.digits.now c.args.taken.now.items t) (sym pushed)
    (scans_number c.args.part.now c.loop-digits.rest.now c.args.taken.now.items c.loop-digits.taken.items c.in-Some.ensures.0 c.in-Some.digits.now c.in-Some-number_at.ensures.0 c.in-Some-number_at.number small c.loop-digits.invariant c.in-Some.ensures.1 c.in-Some-number_at.ensures.1)

pub loop-digits-preserved : goal.loop-digits-preserved
loop-digits-preserved c = scans_past c.args.part.now c.loop-digits.rest.now c.args.taken.now.items c.loop-digits.taken.items c.in-Some.ensures.0 c.in-Some.digits.now c.loop-digits.invariant c.in-Some.ensures.1 c.in_default-number_at.ensures

pub returns : goal.returns
returns c = scans_all c.args.part.now c.loop-digits.rest.now c.args.taken.now.items c.loop-digits.taken.items c.loop-digits.invariant c.in_default.ensures
