-- States and slopes as fractions, in units of states and of states per tick.
use Rattle.std.specs.Prelude.{ℕ, ◌*◌, ◌^◌, List, [], ℤ, pos, ◌*ℤ◌, ◌≤ℤ◌, slice_index_or}
use Rattle.mu_num.specs.Fraction.{Fraction, difference}
use Rattle.qss_machine.specs.declared.compiled_machine.Machine.{Machine}
use Rattle.mu_num.specs.IndexedSums.{int_at, abs_of}
use Rattle.qss_machine.specs.Legitimate.{scaled_slope}
use Rattle.cert_solution.specs.Euler.{unit_of, step_refinement, euler}

-- |x - y| is at most `far`
abbrev pub DifferByAtMost : Fraction → Fraction → Fraction → Type 0
DifferByAtMost far x y = (abs_of (difference x y).num *ℤ pos far.den) ≤ℤ (far.num *ℤ pos (difference x y).den)

-- the fraction 1/n
abbrev pub reciprocal : ℕ → Fraction
reciprocal n = record { num = pos 1; den = n }

-- state j as a fraction, from whole numbers with this scale
abbrev pub value_of : ℕ → List ℤ → ℕ → Fraction
value_of scale states j = record { num = int_at states j; den = scale }

-- the slope of state j per tick, at levels that equal the states
abbrev pub slope_of : Machine → ℕ → List ℤ → ℕ → Fraction
slope_of m scale states j = record { num = scaled_slope m (unit_of m * scale) j states; den = unit_of m * scale }

-- state j of a run after i of its steps
abbrev pub run_value : ℕ → List (List ℤ) → ℕ → ℕ → Fraction
run_value scale states i j = value_of scale (slice_index_or states i []) j

-- Euler's value of state j after these steps of size 1/r tick, and its slope there
abbrev pub euler_value : Machine → List ℤ → ℕ → ℕ → ℕ → Fraction
euler_value m start r steps j = value_of (step_refinement m r ^ steps) (euler m start r steps) j

abbrev pub euler_slope : Machine → List ℤ → ℕ → ℕ → ℕ → Fraction
euler_slope m start r steps j = slope_of m (step_refinement m r ^ steps) (euler m start r steps) j
