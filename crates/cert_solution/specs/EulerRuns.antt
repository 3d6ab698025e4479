-- Forward Euler as a legitimate run of a machine.
use Rattle.std.specs.Prelude.{ℕ, ◌+◌, ◌-◌, ◌*◌, ◌^◌, ◌<◌, ◌≤◌, List, map, ℤ, pos, ◌*ℤ◌, ◌≤ℤ◌}
use Rattle.qss_machine.specs.declared.compiled_machine.Machine.{Machine}
use Rattle.mu_num.specs.IndexedSums.{int_at, tabulate}
use Rattle.qss_machine.specs.Machines.{state_count}
use Rattle.qss_machine.specs.Legitimate.{IsLegitimate}
use Rattle.cert_solution.specs.Euler.{step_refinement, euler}

-- each number times a factor
abbrev pub scaled : ℕ → List ℤ → List ℤ
scaled factor numbers = map (λ x. pos factor *ℤ x) numbers

-- Euler's values after 0, .., `last` steps of size 1/r tick, with scale refining m r ^ (last + 1)
abbrev pub euler_states : Machine → List ℤ → ℕ → ℕ → List (List ℤ)
euler_states m start r last = tabulate (last + 1) (λ i. scaled (step_refinement m r ^ (last + 1 - i)) (euler m start r i))

-- the levels that equal these states, with the same scale
abbrev pub euler_levels : Machine → List ℤ → ℕ → ℕ → List (List ℤ)
euler_levels m start r last = tabulate (last + 1) (λ i. scaled (r * step_refinement m r ^ (last - i)) (euler m start r i))

-- Euler's values are a legitimate run in which each state equals its level, for any quanta >= 0
abbrev pub EulerRunsAreLegitimate : Type 0
EulerRunsAreLegitimate =
    (m : Machine) (start quanta : List ℤ) (r last : ℕ) → 1 ≤ r → ((j : ℕ) → j < state_count m → pos 0 ≤ℤ int_at quanta j) →
    IsLegitimate m start quanta (step_refinement m r ^ (last + 1)) r (euler_states m start r last) (euler_levels m start r last)
