use Rattle.cert_check.proofs.Common.{FitsSigned, refl, rules, to_z-of_z, w128}
use Rattle.cert_check.proofs.inequality_sides.centre_gain_sides.Goals as goal

pub returns-clause-in_range : goal.returns-clause-in_range
returns-clause-in_range c =
    let gain : FitsSigned w128 c.in_ok-gain.gain = search rules in
    let first : FitsSigned w128 c.at.result = search rules in
    let second : FitsSigned w128 c.at-2.result = search rules in (
      λ _. record {
        gain = c.in_ok-gain.ensures.in_range.0 refl;
        left = rw (c.at.ensures, c.at-2.ensures) at ((simp to_z-of_z at c.in_ok-left.ensures.in_range).0 refl);
        right = rw c.in_ok-gain.ensures.value at ((simp to_z-of_z at c.in_ok-right.ensures.in_range).0 refl);
      },
      λ _. refl,
    )
