-- A coefficient in the current mode within its limit.
use Rattle.qss_states.proofs.Common
use Common.{◌∙◌, ◌≡◌, arith, FitsSigned, ints, IsWithin, mode_coefficient, of_z, row_at}
use Common.{state_count, subst, sym, to_z, to_z-of_z, w128, w64}
use Rattle.qss_machine.proofs.ModeTests.{fits_at}
use Rattle.qss_states.proofs.Shifting.{small_coefficient}
use Rattle.qss_states.proofs.row_sum_changes.mode_for_sum_change.Goals.{After-mode_coef_from}
use Rattle.qss_states.proofs.row_sum_changes.mode_for_sum_change.Goals as goal

pub returns-then-is_empty-clause-bound : goal.returns-then-is_empty-clause-bound
returns-then-is_empty-clause-bound c =
    subst (IsWithin 44) (sym (to_z-of_z w64 c.args.own c.ranges.own ∙ c.requires.own))
    (small_coefficient c.args.at.now.machine.now c.args.row c.args.state c.requires.row)

small : (c : After-mode_coef_from) → IsWithin 44 c.mode_coef_from.result
small c =
    let m = c.args.at.now.machine.now in
    let d = c.args.at.now.discretes.now in
    subst (IsWithin 44) (sym c.mode_coef_from.ensures)
    (fits_at (state_count m) c.args.state (mode_coefficient m.f (state_count m) (row_at m c.args.row) d) c.requires.state (c.requires.mode.fits c.args.row c.requires.row))

fits : (c : After-mode_coef_from) → FitsSigned w128 c.mode_coef_from.result
fits c = record { sfits = c.mode_coef_from.type_inv }

narrow : (c : After-mode_coef_from) → FitsSigned w64 c.mode_coef_from.result
narrow c = omega (arith, ints, small c)

is : (c : After-mode_coef_from) → to_z w64 (of_z w64 (to_z w128 (of_z w128 c.mode_coef_from.result))) ≡ c.mode_coef_from.result
is c = rw (to_z-of_z w128 c.mode_coef_from.result (fits c)) (to_z-of_z w64 c.mode_coef_from.result (narrow c))

pub overflow_cast-result : goal.overflow_cast-result
overflow_cast-result c =
    let at = (goal.at.overflow_cast-result c).After-mode_coef_from in
    rw (to_z-of_z w128 c.mode_coef_from.result (fits at)) (narrow at)

pub returns-clause-value : goal.returns-clause-value
returns-clause-value c = is (goal.at.returns-clause-value c).After-mode_coef_from ∙ c.mode_coef_from.ensures

pub returns-clause-bound : goal.returns-clause-bound
returns-clause-bound c =
    let at = (goal.at.returns-clause-bound c).After-mode_coef_from in
    subst (IsWithin 44) (sym (is at)) (small at)
