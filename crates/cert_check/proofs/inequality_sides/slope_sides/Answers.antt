use Rattle.cert_check.proofs.Common.{FitsSigned, refl, rules, to_z-of_z, w128}
use Rattle.cert_check.proofs.inequality_sides.slope_sides.Goals as goal

pub returns-clause-in_range : goal.returns-clause-in_range
returns-clause-in_range c =
    let unit : FitsSigned w128 c.args.m.now.unit = search rules in
    let number : FitsSigned w128 c.at.result = search rules in (
      λ _. record {
        right = c.in_ok-right.ensures.in_range.0 refl;
        left = rw c.at.ensures at ((simp to_z-of_z at c.in_ok-left.ensures.in_range).0 refl);
      },
      λ _. refl,
    )
