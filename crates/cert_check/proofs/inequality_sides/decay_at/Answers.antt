use Rattle.cert_check.proofs.Common
use Common.{◌∙◌, ◌≡◌, arith, certificate_data, decrease_matrix, FitsSigned, ints, refl, rules}
use Common.{system, to_z-of_z, w128}
use Rattle.cert_check.proofs.inequality_sides.decay_at.Goals as goal

pub returns-in_err-whole-clause-in_range : goal.returns-in_err-whole-clause-in_range
returns-in_err-whole-clause-in_range c =
    let entry : FitsSigned w128 c.in_ok-entry.entry = search rules in
    let turned : FitsSigned w128 c.in_ok-turned.turned = search rules in
    let mu : FitsSigned w128 c.side_diagonal_at.result = search rules in
    let cell : FitsSigned w128 c.get.result = search rules in
    let lambda : FitsSigned w128 c.args.x.now.lambda = search rules in
    let a = rw c.in_ok-entry.ensures.value at (simp to_z-of_z at c.in_ok-first.ensures.weight) in
    let b = rw c.in_ok-turned.ensures.value at (simp to_z-of_z at c.in_ok-second.ensures.weight) in
    let d = rw c.side_diagonal_at.ensures at (simp to_z-of_z at c.in_ok-third.ensures.weight) in
    let far = rw c.get.ensures at ((simp to_z-of_z at c.in_err-whole.ensures.out_of_range).0 refl) in
    (λ some. let never = rw c.from_residual-in_err-whole.ensures at some in cc, λ within. absurd (omega (arith, within.whole, c.new.ensures.weight)))

pub returns-clause-in_range : goal.returns-clause-in_range
returns-clause-in_range c =
    let entry : FitsSigned w128 c.in_ok-entry.entry = search rules in
    let turned : FitsSigned w128 c.in_ok-turned.turned = search rules in
    let mu : FitsSigned w128 c.side_diagonal_at.result = search rules in
    let cell : FitsSigned w128 c.get.result = search rules in
    let lambda : FitsSigned w128 c.args.x.now.lambda = search rules in
    let a = rw c.in_ok-entry.ensures.value at (simp to_z-of_z at c.in_ok-first.ensures.weight) in
    let b = rw c.in_ok-turned.ensures.value at (simp to_z-of_z at c.in_ok-second.ensures.weight) in
    let d = rw c.side_diagonal_at.ensures at (simp to_z-of_z at c.in_ok-third.ensures.weight) in
    let e = rw c.get.ensures at (simp to_z-of_z at c.in_ok-whole.ensures.weight) in (
      λ _. record {
        entry = c.in_ok-entry.ensures.in_range.0 refl;
        turned = c.in_ok-turned.ensures.in_range.0 refl;
        whole = omega (arith, c.in_ok-whole.whole.in_range, c.new.ensures.weight);
      },
      λ _. refl,
    )

pub returns-clause-value : goal.returns-clause-value
returns-clause-value c =
    let fits : FitsSigned w128 c.total.result = search rules in
    let entry : FitsSigned w128 c.in_ok-entry.entry = search rules in
    let turned : FitsSigned w128 c.in_ok-turned.turned = search rules in
    let mu : FitsSigned w128 c.side_diagonal_at.result = search rules in
    let cell : FitsSigned w128 c.get.result = search rules in
    let lambda : FitsSigned w128 c.args.x.now.lambda = search rules in
    let a = rw c.in_ok-entry.ensures.value at (simp to_z-of_z at c.in_ok-first.ensures.total) in
    let b = rw c.in_ok-turned.ensures.value at (simp to_z-of_z at c.in_ok-second.ensures.total) in
    let d = rw c.side_diagonal_at.ensures at (simp to_z-of_z at c.in_ok-third.ensures.total) in
    let e = rw c.get.ensures at (simp to_z-of_z at c.in_ok-whole.ensures.total) in
    let value : c.in_ok-whole.whole.total ≡ decrease_matrix (system c.args.m.now) (certificate_data c.args.x.now) c.args.i c.args.j = omega (arith, ints, c.new.ensures.total) in
    rw to_z-of_z (c.total.ensures.value ∙ value)

pub returns-in_err-second-clause-in_range : goal.returns-in_err-second-clause-in_range
returns-in_err-second-clause-in_range c =
    let entry : FitsSigned w128 c.in_ok-entry.entry = search rules in
    let turned : FitsSigned w128 c.in_ok-turned.turned = search rules in
    let a = rw c.in_ok-entry.ensures.value at (simp to_z-of_z at c.in_ok-first.ensures.weight) in
    let far = rw c.in_ok-turned.ensures.value at ((simp to_z-of_z at c.in_err-second.ensures.out_of_range).0 refl) in
    (λ some. let never = rw c.from_residual-in_err-second.ensures at some in cc, λ within. absurd (omega (arith, within.whole, c.new.ensures.weight)))

pub returns-in_err-third-clause-in_range : goal.returns-in_err-third-clause-in_range
returns-in_err-third-clause-in_range c =
    let entry : FitsSigned w128 c.in_ok-entry.entry = search rules in
    let turned : FitsSigned w128 c.in_ok-turned.turned = search rules in
    let mu : FitsSigned w128 c.side_diagonal_at.result = search rules in
    let a = rw c.in_ok-entry.ensures.value at (simp to_z-of_z at c.in_ok-first.ensures.weight) in
    let b = rw c.in_ok-turned.ensures.value at (simp to_z-of_z at c.in_ok-second.ensures.weight) in
    let far = rw c.side_diagonal_at.ensures at ((simp to_z-of_z at c.in_err-third.ensures.out_of_range).0 refl) in
    (λ some. let never = rw c.from_residual-in_err-third.ensures at some in cc, λ within. absurd (omega (arith, within.whole, c.new.ensures.weight)))
