-- Discrete values of the start are small, and so are the coefficients there.
use Rattle.qss_order2.proofs.Common
use Common.{ℤ, ◌∙◌, ◌≡◌, All, ap, arith, discretes_start, FitsSigned, ints, IsWithin, List}
use Common.{mode_small, start_coefficient, subst, sym, to_z-of_z, w128, w64}
use Rattle.qss_machine.specs.Machines.{mode_coefficient_at}
use Rattle.qss_order2.proofs.fixed_machine.fixed_mode_at.Goals as goal

pub mode_coef-requires-clause-size_limit : goal.mode_coef-requires-clause-size_limit
mode_coef-requires-clause-size_limit c = subst (All (IsWithin 43)) (sym c.requires.start)
    (discretes_start c.args.m.now)

pub overflow_cast-result : goal.overflow_cast-result
overflow_cast-result c =
    let of_wide : FitsSigned w128 c.mode_coef.result = record { sfits = c.mode_coef.type_inv } in
    let value : c.mode_coef.result ≡ start_coefficient c.args.m.now c.args.row c.args.state =
    c.mode_coef.ensures ∙ ap (λ (d : List ℤ). mode_coefficient_at c.args.m.now c.args.row
    c.args.state d) c.requires.start in
    let within : IsWithin 44 c.mode_coef.result =
    subst (IsWithin 44) (sym value) (mode_small c.args.m.now c.args.row c.args.state c.requires.row
    c.requires.state) in
    let of_small : FitsSigned w64 c.mode_coef.result = omega (arith, ints, within) in
    simp to_z-of_z of_small

pub returns-clause-value : goal.returns-clause-value
returns-clause-value c =
    let of_wide : FitsSigned w128 c.mode_coef.result = record { sfits = c.mode_coef.type_inv } in
    let value : c.mode_coef.result ≡ start_coefficient c.args.m.now c.args.row c.args.state =
    c.mode_coef.ensures ∙ ap (λ (d : List ℤ). mode_coefficient_at c.args.m.now c.args.row
    c.args.state d) c.requires.start in
    let within : IsWithin 44 c.mode_coef.result =
    subst (IsWithin 44) (sym value) (mode_small c.args.m.now c.args.row c.args.state c.requires.row
    c.requires.state) in
    let of_small : FitsSigned w64 c.mode_coef.result = omega (arith, ints, within) in
    simp to_z-of_z value

pub returns-clause-bound : goal.returns-clause-bound
returns-clause-bound c =
    let of_wide : FitsSigned w128 c.mode_coef.result = record { sfits = c.mode_coef.type_inv } in
    let value : c.mode_coef.result ≡ start_coefficient c.args.m.now c.args.row c.args.state =
    c.mode_coef.ensures ∙ ap (λ (d : List ℤ). mode_coefficient_at c.args.m.now c.args.row
    c.args.state d) c.requires.start in
    let within : IsWithin 44 c.mode_coef.result =
    subst (IsWithin 44) (sym value) (mode_small c.args.m.now c.args.row c.args.state c.requires.row
    c.requires.state) in
    let of_small : FitsSigned w64 c.mode_coef.result = omega (arith, ints, within) in
    simp to_z-of_z within
