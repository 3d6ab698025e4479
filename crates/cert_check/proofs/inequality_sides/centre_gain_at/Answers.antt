use Rattle.cert_check.proofs.Common.{arith, FitsSigned, refl, rules, to_z-of_z, w128}
use Rattle.cert_check.proofs.inequality_sides.centre_gain_at.Goals as goal

pub returns-clause-in_range : goal.returns-clause-in_range
returns-clause-in_range c =
    let rest : FitsSigned w128 c.in_ok-rest.rest = search rules in
    let weight = rw c.in_ok-rest.ensures.value at (simp to_z-of_z at c.in_ok-sum.ensures.weight) in (
      λ _. record {
        rest = c.in_ok-rest.ensures.in_range.0 refl;
        widths = c.in_ok-width_sum_at.ensures.in_range.0 refl;
        whole = omega (arith, c.in_ok-sum.sum.in_range, c.in_ok-width_sum_at.ensures.weight);
      },
      λ _. refl,
    )
