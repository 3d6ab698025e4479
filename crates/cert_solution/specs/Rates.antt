-- Explicit numbers that bound the errors of forward Euler.
-- They are large, and serve only to show that these errors are at most a constant times the step
-- size.
use Rattle.std.specs.Prelude.{ℕ, ◌+◌, ◌*◌, ◌^◌, List, ℤ, ◌+ℤ◌, ◌*ℤ◌, unsigned_abs}
use Rattle.qss_machine.specs.declared.compiled_machine.Machine.{Machine}
use Rattle.mu_num.specs.IndexedSums.{int_at, sum_below, abs_of}
use Rattle.qss_machine.specs.Machines.{state_count, level_unit}
use Rattle.qss_machine.specs.Legitimate.{start_coefficient, start_constant_part}

-- the sum of the absolute values of the numbers in row j of the equation
unfoldable pub row_size : Machine → ℕ → ℤ
row_size m j = sum_below (state_count m) (λ k. abs_of (start_coefficient m j k)) +ℤ level_unit m *ℤ
    abs_of (start_constant_part m j)

-- a Lipschitz constant of the equation: the sum of all rows
unfoldable pub stiffness : Machine → ℕ
stiffness m = unsigned_abs (sum_below (state_count m) (row_size m))

-- a number that is at least 1 and at least the absolute value of each start state
unfoldable pub start_bound : Machine → List ℤ → ℕ
start_bound m start = 1 + unsigned_abs (sum_below (state_count m) (λ j. abs_of (int_at start j)))

-- the factor by which a state may grow in this number of ticks, where (1 + g/r)^r is at most 4^g
abbrev pub growth : ℕ → ℕ → ℕ
growth g ticks = (4 ^ g) ^ ticks

-- up to tick `last`, Euler's values with step size 1/r tick are within value_rate/r of the solution
unfoldable pub value_rate : Machine → List ℤ → ℕ → ℕ
value_rate m start last = growth (stiffness m) last *
    (growth (stiffness m) last * start_bound m start * stiffness m)

-- up to tick `last`, a difference quotient over 1/r tick is within slope_rate/r of the slope
unfoldable pub slope_rate : Machine → List ℤ → ℕ → ℕ
slope_rate m start last = (stiffness m * 4 ^ stiffness m) *
    ((growth (stiffness m) last * start_bound m start) * stiffness m)
