-- The bound E of a certificate as a bound of the distance of certified runs to the exact solution.
use Rattle.std.specs.Prelude.{◌≡◌, ℕ, ◌*◌, ◌<◌, ◌≤◌, ◌⊎◌, List, length, ℤ, ◌*ℤ◌}
use Rattle.mu_num.specs.Fraction.{Fraction, whole, sum}
use Rattle.qss_machine.specs.declared.compiled_machine.Machine.{Machine}
use Rattle.qss_machine.specs.Machines.{state_count, level_unit, start_states}
use Rattle.qss_machine.specs.Ticks.{Snapshot, start_snapshot}
use Rattle.qss_machine.specs.Runs.{IsFreeExecution}
use Rattle.qss_machine.specs.RunLaws.{states_from}
use Rattle.cert_matrix.specs.Matrix.{vector}
use Rattle.cert_check.specs.declared.certificate.Certificate.{Certificate}
use Rattle.cert_check.specs.Bounds.{IsCertifiedRun, BoundsAreGuaranteed, CoversOwnRuns}
use Rattle.cert_solution.specs.StateValues.{DifferByAtMost, run_value, euler_value}
use Rattle.cert_solution.specs.Solutions.{SolutionIsWithin}

-- one of the certificate's two starts
abbrev pub IsStartOf : Certificate → List ℤ → Type 0
IsStartOf c start = (start ≡ c.start1) ⊎ (start ≡ c.start2)

-- the bound E of state j as a fraction, in units of states
abbrev pub certified_bound : Machine → Certificate → ℕ → Fraction
certified_bound m c j = whole (level_unit m *ℤ vector c.e j)

-- certified runs stay within E levels of the solutions of both initial value problems
pub record HasSolutionBounds (m : Machine) (c : Certificate) : Type 0 where
  -- at each common time a certified run is within E levels of Euler's value, for any step size 1/r'
  pub euler : (s r : ℕ) (xs ms : List (List ℤ)) → IsCertifiedRun m c s r xs ms →
      (start : List ℤ) → IsStartOf c start → (r' i steps j : ℕ) → 1 ≤ r' → i < length xs → i * r' ≡ steps * r → j < state_count m →
      DifferByAtMost (certified_bound m c j) (run_value s xs i j) (euler_value m start r' steps j)
  -- a certified run is within E levels of the solution at each time place/grid, in ticks
  pub solution : (s r : ℕ) (xs ms : List (List ℤ)) → IsCertifiedRun m c s r xs ms →
      (start : List ℤ) → IsStartOf c start → (grid i place j : ℕ) → 1 ≤ grid → i < length xs → i * grid ≡ place * r → j < state_count m →
      SolutionIsWithin m start grid place j (certified_bound m c j) (run_value s xs i j)
  -- so it is within E levels plus `error` of each z that approximates the solution up to `error`
  pub estimates : (s r : ℕ) (xs ms : List (List ℤ)) → IsCertifiedRun m c s r xs ms →
      (start : List ℤ) → IsStartOf c start → (grid i place j : ℕ) → 1 ≤ grid → i < length xs → i * grid ≡ place * r → j < state_count m →
      (error z : Fraction) → SolutionIsWithin m start grid place j error z → DifferByAtMost (sum (certified_bound m c j) error) (run_value s xs i j) z
  -- if the machine's start is certified, its own runs are within E levels of the solution
  pub own : CoversOwnRuns m c → IsStartOf c (start_states m) → (snapshots : List Snapshot) → IsFreeExecution m 0 (start_snapshot m) snapshots →
      (tick j : ℕ) → tick ≤ length snapshots → j < state_count m →
      SolutionIsWithin m (start_states m) 1 tick j (certified_bound m c j) (run_value 1 (states_from (start_snapshot m) snapshots) tick j)

-- if the bounds of a certificate are guaranteed for runs, they hold for the solutions
abbrev pub BoundsHoldForSolutions : Type 0
BoundsHoldForSolutions = (m : Machine) (c : Certificate) → BoundsAreGuaranteed m c → HasSolutionBounds m c
