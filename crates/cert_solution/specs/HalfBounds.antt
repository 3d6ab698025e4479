-- The bound E/2 on the distance of a certified run to the solution from its own start.
-- The factor is 1/2 because the solution, unlike a second run, has no quantization error.
use Rattle.std.specs.Prelude.{◌≡◌, ℕ, ◌+◌, ◌*◌, ◌^◌, ◌<◌, ◌≤◌, List, length, ℤ, pos, ◌-ℤ◌, ◌*ℤ◌}
use Rattle.std.specs.Prelude.{◌≤ℤ◌}
use Rattle.mu_num.specs.Fraction.{Fraction, sum}
use Rattle.qss_machine.specs.declared.compiled_machine.Machine.{Machine}
use Rattle.mu_num.specs.IndexedSums.{int_at}
use Rattle.qss_machine.specs.Machines.{state_count, level_unit, start_states}
use Rattle.qss_machine.specs.Ticks.{Snapshot, start_snapshot}
use Rattle.qss_machine.specs.Runs.{IsFreeExecution}
use Rattle.qss_machine.specs.RunLaws.{states_from}
use Rattle.qss_machine.specs.Legitimate.{entry_at}
use Rattle.cert_matrix.specs.Form.{Vector, form}
use Rattle.cert_matrix.specs.Matrix.{vector, table}
use Rattle.cert_check.specs.declared.certificate.Certificate.{Certificate}
use Rattle.cert_check.specs.Inequalities.{Holds}
use Rattle.cert_check.specs.CertificateData.{certificate_data}
use Rattle.cert_check.specs.Systems.{system_of}
use Rattle.cert_check.specs.Bounds.{IsCertifiedRun, CoversOwnRuns, common_unit}
use Rattle.cert_solution.specs.Euler.{step_refinement, euler}
use Rattle.cert_solution.specs.StateValues.{DifferByAtMost, reciprocal, run_value, euler_value}
use Rattle.cert_solution.specs.Solutions.{SolutionIsWithin, TimeFunction, approximation}
use Rattle.cert_solution.specs.Solutions.{SolvesInitialValueProblem}
use Rattle.cert_solution.specs.SolutionBounds.{IsStartOf}

-- a run's state less Euler's value after these steps of size 1/r tick, in a common unit
abbrev pub from_euler : Machine → List ℤ → ℕ → List (List ℤ) → ℕ → ℕ → ℕ → Vector
from_euler m start scale states i r steps j = pos (step_refinement m r ^ steps) *ℤ entry_at states i
    j -ℤ pos scale *ℤ int_at (euler m start r steps) j

-- E/2 of state j as a fraction, in units of states
abbrev pub half_bound : Machine → Certificate → ℕ → Fraction
half_bound m c j = record { num = level_unit m *ℤ vector c.e j; den = 2 }

-- (1 + 1/r) E/2 of state j, in units of states
abbrev pub half_bound_by_steps : Machine → Certificate → ℕ → ℕ → Fraction
half_bound_by_steps m c r j = record {
  num = pos (r + 1) *ℤ (level_unit m *ℤ vector c.e j);
  den = 2
      * r;
}

-- certified runs stay within E/2 levels of the solution of the initial value problem from their
-- start
pub record HasHalfSolutionBounds (m : Machine) (c : Certificate) : Type 0 where
  -- at each common time V of twice the error against Euler with step size 1/r' tick is at most
  -- (1 + 1/r')^2 C
  pub inside : (s r : ℕ) (xs ms : List (List ℤ)) (run : IsCertifiedRun m c s r xs ms)
      (r' i steps : ℕ) → 1 ≤ r' → i < length xs → i * r' ≡ steps * r →
      form (state_count m) (table c.pm) (λ j. pos 2 *ℤ pos r' *ℤ from_euler m run.start s xs i r'
      steps j)
      ≤ℤ ((pos (r' + 1) *ℤ common_unit m s (step_refinement m r' ^ steps)) *ℤ
      (pos (r' + 1) *ℤ common_unit m s (step_refinement m r' ^ steps)) *ℤ c.cc)
  -- with the run's own step size, V of twice the error is at most C
  pub same_inside : (s r : ℕ) (xs ms : List (List ℤ)) (run : IsCertifiedRun m c s r xs ms) (i : ℕ) →
      i < length xs →
      form (state_count m) (table c.pm) (λ j. pos 2 *ℤ from_euler m run.start s xs i r i j)
      ≤ℤ (common_unit m s (step_refinement m r ^ i) *ℤ common_unit m s (step_refinement m r ^ i) *ℤ
      c.cc)
  -- so the run is within (1 + 1/r') E/2 levels of Euler's value with step size 1/r' tick
  pub euler : (s r : ℕ) (xs ms : List (List ℤ)) (run : IsCertifiedRun m c s r xs ms)
      (r' i steps j : ℕ) →
      1 ≤ r' → i < length xs → i * r' ≡ steps * r → j < state_count m →
      DifferByAtMost (half_bound_by_steps m c r' j) (run_value s xs i j)
      (euler_value m run.start r' steps j)
  -- with the run's own step size, the run is within E/2 levels of Euler's value
  pub same_step : (s r : ℕ) (xs ms : List (List ℤ)) (run : IsCertifiedRun m c s r xs ms) (i j : ℕ) →
      i < length xs → j < state_count m →
      DifferByAtMost (half_bound m c j) (run_value s xs i j) (euler_value m run.start r i j)
  -- the run is within E/2 levels of the solution at each time place/grid, in ticks
  pub solution : (s r : ℕ) (xs ms : List (List ℤ)) (run : IsCertifiedRun m c s r xs ms)
      (grid i place j : ℕ) →
      1 ≤ grid → i < length xs → i * grid ≡ place * r → j < state_count m →
      SolutionIsWithin m run.start grid place j (half_bound m c j) (run_value s xs i j)
  -- so it is within E/2 levels plus `error` of each z that approximates the solution up to `error`
  pub estimates : (s r : ℕ) (xs ms : List (List ℤ)) (run : IsCertifiedRun m c s r xs ms)
      (grid i place j : ℕ) →
      1 ≤ grid → i < length xs → i * grid ≡ place * r → j < state_count m →
      (error z : Fraction) → SolutionIsWithin m run.start grid place j error z → DifferByAtMost
      (sum (half_bound m c j) error) (run_value s xs i j) z
  -- in particular, it is within E/2 levels of each function that solves the initial value problem
  pub each_solution : (s r : ℕ) (xs ms : List (List ℤ)) (run : IsCertifiedRun m c s r xs ms)
      (y : TimeFunction) → SolvesInitialValueProblem m run.start y →
      (grid i place q j : ℕ) → 1 ≤ grid → 1 ≤ q → i < length xs → i * grid ≡ place * r → j <
      state_count m →
      DifferByAtMost (sum (half_bound m c j) (reciprocal q)) (run_value s xs i j)
      (approximation y grid place q j)
  -- if the machine's start is certified, its own runs are within E/2 levels of the solution
  pub own : CoversOwnRuns m c → IsStartOf c (start_states m) → (snapshots : List Snapshot) →
      IsFreeExecution m 0 (start_snapshot m) snapshots →
      (tick j : ℕ) → tick ≤ length snapshots → j < state_count m →
      SolutionIsWithin m (start_states m) 1 tick j (half_bound m c j)
      (run_value 1 (states_from (start_snapshot m) snapshots) tick j)

-- if the inequalities hold, certified runs stay within E/2 levels of the solution from their start
abbrev pub CertificatesHalveBounds : Type 0
CertificatesHalveBounds = (m : Machine) (c : Certificate) → Holds (system_of m) (certificate_data c)
    → HasHalfSolutionBounds m c
