use Rattle.cert_check.proofs.Common.{FitsSigned, refl, rules, to_z-of_z, w128}
use Rattle.cert_check.proofs.inequality_sides.some_share_sides.Goals as goal

pub returns-clause-in_range : goal.returns-clause-in_range
returns-clause-in_range c =
    let share : FitsSigned w128 c.args.m.now.share = search rules in
    let reach : FitsSigned w128 c.in_ok-reach.reach = search rules in
    let number : FitsSigned w128 c.at.result = search rules in (
      λ _. record {
        reach = c.in_ok-reach.ensures.in_range.0 refl;
        right = rw c.in_ok-reach.ensures.value at ((simp to_z-of_z at c.in_ok-right.ensures.in_range).0 refl);
        left = rw c.at.ensures at ((simp to_z-of_z at c.in_ok-left.ensures.in_range).0 refl);
      },
      λ _. refl,
    )

pub returns-in_err-left-clause-in_range : goal.returns-in_err-left-clause-in_range
returns-in_err-left-clause-in_range c =
    let number : FitsSigned w128 c.at.result = search rules in
    let never = rw c.at.ensures at ((simp to_z-of_z at c.in_err-left.ensures.in_range).1) in
    (λ some. let no = rw c.from_residual-in_err-left.ensures at some in cc, λ within. let no = never within.left in cc)
