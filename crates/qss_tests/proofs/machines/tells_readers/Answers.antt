use Rattle.std.proofs.Common.{ℕ, ℤ, ◌+◌, List, length, ap, arith}
use Rattle.std.proofs.lemmas.List.FromFn.{length-map-range_with_len}
use Rattle.qss_machine.specs.Machines.{state_count, discrete_count}
use Rattle.qss_machine.specs.Readers.{reading_rows, reading_conditions, reading_coefficients}
use Rattle.qss_tests.proofs.machines.tells_readers.Goals as goal

pub rows_of-requires : goal.rows_of-requires
rows_of-requires g c =
    let m = c.in_ok-machine.machine in
    let same = ap (λ (u : List (List ℕ) × List (List ℕ) × List (List ℤ)). length u.0) c.in_ok-uses.ensures in
    let long = length-map-range_with_len (reading_rows m) 0 (state_count m + discrete_count m) in
    rw (same, long) (omega (arith, c.in_ok-machine.ensures.states))

pub as_slice-requires : goal.as_slice-requires
as_slice-requires g c = omega arith

pub unreachable-assert_eq : goal.unreachable-assert_eq
unreachable-assert_eq g c = c.assert_eq-assert_failed.result

pub coefficients_of-requires : goal.coefficients_of-requires
coefficients_of-requires g c =
    let m = c.in_ok-machine.machine in
    let same = ap (λ (u : List (List ℕ) × List (List ℕ) × List (List ℤ)). length u.2) c.in_ok-uses.ensures in
    let long = length-map-range_with_len (reading_coefficients m) 0 (state_count m + discrete_count m) in
    rw (same, long) (omega (arith, c.in_ok-machine.ensures.states))

pub as_slice-requires-2 : goal.as_slice-requires-2
as_slice-requires-2 g c = omega arith

pub unreachable-assert_eq-2 : goal.unreachable-assert_eq-2
unreachable-assert_eq-2 g c = c.assert_eq-assert_failed-2.result

pub conditions_of-requires : goal.conditions_of-requires
conditions_of-requires g c =
    let m = c.in_ok-machine.machine in
    let same = ap (λ (u : List (List ℕ) × List (List ℕ) × List (List ℤ)). length u.1) c.in_ok-uses.ensures in
    let long = length-map-range_with_len (reading_conditions m) 0 (state_count m + discrete_count m + discrete_count m) in
    rw (same, long) (omega (arith, c.in_ok-machine.ensures.states))

pub unreachable-assert : goal.unreachable-assert
unreachable-assert g c = c.assert-panic.result
