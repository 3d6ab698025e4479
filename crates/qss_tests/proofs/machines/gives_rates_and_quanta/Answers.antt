use Rattle.std.proofs.Common.{pos, [], ◌∷◌, sym, ap, length, arith, rules}
use Rattle.std.specs.List.{All}
use Rattle.std.proofs.lemmas.List.Elements.{All-nil, All-cons}
use Rattle.mu_num.specs.Sizes.{IsWithin}
use Rattle.qss_tests.proofs.machines.gives_rates_and_quanta.Goals as goal

level_within_43 : All (IsWithin 43) (pos 5 ∷ [])
level_within_43 = All-cons (IsWithin 43) (pos 5) [] (search rules) (All-nil (IsWithin 43))

pub slope-requires-clause-row : goal.slope-requires-clause-row
slope-requires-clause-row g c = rw c.in_ok-machine.ensures.states (omega arith)

pub slope-requires-clause-levels : goal.slope-requires-clause-levels
slope-requires-clause-levels g c = sym c.in_ok-machine.ensures.states

pub slope-requires-clause-discretes : goal.slope-requires-clause-discretes
slope-requires-clause-discretes g c = sym (ap length c.in_ok-machine.ensures.discretes)

pub slope-requires-clause-small_levels : goal.slope-requires-clause-small_levels
slope-requires-clause-small_levels g c = level_within_43

pub slope-requires-clause-small_discretes : goal.slope-requires-clause-small_discretes
slope-requires-clause-small_discretes g c = All-nil (IsWithin 43)

pub slope-requires-clause-modes : goal.slope-requires-clause-modes
slope-requires-clause-modes g c = c.in_ok-machine.ensures.modes

pub weight-requires-clause-row : goal.weight-requires-clause-row
weight-requires-clause-row g c = rw c.in_ok-machine.ensures.states (omega arith)

pub weight-requires-clause-levels : goal.weight-requires-clause-levels
weight-requires-clause-levels g c = sym c.in_ok-machine.ensures.states

pub weight-requires-clause-discretes : goal.weight-requires-clause-discretes
weight-requires-clause-discretes g c = sym (ap length c.in_ok-machine.ensures.discretes)

pub weight-requires-clause-small_levels : goal.weight-requires-clause-small_levels
weight-requires-clause-small_levels g c = level_within_43

pub weight-requires-clause-small_discretes : goal.weight-requires-clause-small_discretes
weight-requires-clause-small_discretes g c = All-nil (IsWithin 43)

pub weight-requires-clause-modes : goal.weight-requires-clause-modes
weight-requires-clause-modes g c = c.in_ok-machine.ensures.modes

pub mode_coef-requires-clause-row : goal.mode_coef-requires-clause-row
mode_coef-requires-clause-row g c = rw c.in_ok-machine.ensures.states (omega arith)

pub mode_coef-requires-clause-state : goal.mode_coef-requires-clause-state
mode_coef-requires-clause-state g c = rw c.in_ok-machine.ensures.states (omega arith)

pub mode_coef-requires-clause-same_length : goal.mode_coef-requires-clause-same_length
mode_coef-requires-clause-same_length g c = sym (ap length c.in_ok-machine.ensures.discretes)

pub mode_coef-requires-clause-size_limit : goal.mode_coef-requires-clause-size_limit
mode_coef-requires-clause-size_limit g c = All-nil (IsWithin 43)

pub mode_fits-requires-clause-row : goal.mode_fits-requires-clause-row
mode_fits-requires-clause-row g c = rw c.in_ok-machine.ensures.states (omega arith)

pub mode_fits-requires-clause-same_length : goal.mode_fits-requires-clause-same_length
mode_fits-requires-clause-same_length g c = sym (ap length c.in_ok-machine.ensures.discretes)

pub mode_fits-requires-clause-size_limit : goal.mode_fits-requires-clause-size_limit
mode_fits-requires-clause-size_limit g c = All-nil (IsWithin 43)

pub quantum_at-requires-clause-state : goal.quantum_at-requires-clause-state
quantum_at-requires-clause-state g c = rw c.in_ok-machine.ensures.states (omega arith)

pub quantum_at-requires-2-clause-state : goal.quantum_at-requires-2-clause-state
quantum_at-requires-2-clause-state g c = rw (c.with_relative-machine.ensures.lists.0, c.in_ok-machine.ensures.states) (omega arith)

pub unreachable-assert_eq : goal.unreachable-assert_eq
unreachable-assert_eq g c = c.assert_eq-assert_failed.result

pub unreachable-assert_eq-2 : goal.unreachable-assert_eq-2
unreachable-assert_eq-2 g c = c.assert_eq-assert_failed-2.result

pub unreachable-assert_eq-3 : goal.unreachable-assert_eq-3
unreachable-assert_eq-3 g c = c.assert_eq-assert_failed-3.result

pub unreachable-assert : goal.unreachable-assert
unreachable-assert g c = c.assert-panic.result

pub unreachable-assert_eq-4 : goal.unreachable-assert_eq-4
unreachable-assert_eq-4 g c = c.assert_eq-assert_failed-4.result

pub unreachable-assert_eq-5 : goal.unreachable-assert_eq-5
unreachable-assert_eq-5 g c = c.assert_eq-assert_failed-5.result
