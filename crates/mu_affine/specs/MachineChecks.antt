-- The checks of a machine's limits in their order, and the first check that fails.
use Rattle.std.specs.Prelude.{◌≡◌, ◌⊎◌, ℕ, ◌+◌, ◌^◌, Bool, not, ◌&&◌, ◌||◌, nat_eq, nat_le, List}
use Rattle.std.specs.Prelude.{[], ◌∷◌, ◌++◌, map, length, take, drop, ℤ, pos, int_le, int_lt}
use Rattle.std.specs.Prelude.{unsigned_abs, sum_by, Option, Some, None, if◌then◌else◌}
use Rattle.std.specs.List.{list_all}
use Rattle.std.specs.Ordering.{int_eq}
use Rattle.mu_num.specs.Fraction.{Fraction}
use Rattle.mu_num.specs.Sizes.{exceeds}
use Rattle.mu_affine.specs.declared.exact_form.ExactForm.{ExactForm}
use Rattle.mu_tree.specs.declared.flat.Settings.{Settings}
use Rattle.mu_tree.specs.declared.tree.SettingName.TheVariants.{StartTime, StopTime, CoefBits}
use Rattle.mu_tree.specs.declared.tree.SettingName.TheVariants.{TickBits, LevelBits}
use Rattle.mu_tree.specs.FlatExpression.{FlatVariable, FlatModelTree}
use Rattle.qss_machine.specs.declared.machine_parts.SlopeRow.{SlopeRow}
use Rattle.qss_machine.specs.declared.machine_parts.Form.{Form}
use Rattle.mu_num.specs.Levels.{level_below}
use Rattle.mu_num.specs.Limits.{tick_limit, quantum_limit, bits_of_level, bits_of_state, bits_of_weight}
use Rattle.qss_machine.specs.Slopes.{mode_fits, weight_of}
use Rattle.mu_affine.specs.declared.machine_fault.MachineErr.{MachineErr}
use Rattle.mu_affine.specs.declared.machine_fault.MachineErr.TheVariants.{Setting, Start, Quantum}
use Rattle.mu_affine.specs.declared.machine_fault.MachineErr.TheVariants.{Coefficient, Memory}
use Rattle.mu_affine.specs.Rounded.{rounded, rounded_down, rounded_up, rounded_row, rounded_form}
use Rattle.mu_affine.specs.FormPlaces.{state_count, states_of, discretes_of}

-- a check, with the error that is reported if it fails
pub record Check : Type 0 where
  pub holds : Bool
  pub fault : MachineErr

-- the error of the first check that fails
abbrev pub first_failed : List Check → Option MachineErr
first_failed [] = None
first_failed (c ∷ cs) = if c.holds then first_failed cs else Some c.fault

-- the reported error: that of the first failed check, or an allocation failure
abbrev pub IsRefusal : List Check → MachineErr → Type 0
IsRefusal cs fault = (fault ≡ Memory) ⊎ (first_failed cs ≡ Some fault)

-- one check for each element, numbered from n on
abbrev pub checks : {X : Type 0} → (X → Bool) → (ℕ → MachineErr) → ℕ → List X → List Check
checks holds fault n [] = []
checks holds fault n (x ∷ xs) = record { holds = holds x; fault = fault n } ∷ checks holds fault (n + 1) xs

-- whether the fraction is an integer from 0 to a limit
abbrev pub is_bits : ℕ → Fraction → Bool
is_bits limit r = nat_eq r.den 1 && int_le (pos 0) r.num && int_le r.num (pos limit)

-- the number of binary places that a setting specifies
abbrev pub bits_of : Fraction → ℕ
bits_of r = unsigned_abs r.num

-- the last tick: the stop time in ticks, rounded up
abbrev pub last_of : Settings → ℤ
last_of s = rounded_up (bits_of s.tick_bits) s.stop

-- The checks of the settings: each count of binary places, its sums with the counts before it, and
-- finally the last tick.
abbrev pub setting_checks : Settings → List Check
setting_checks s =
    let p = bits_of s.coef_bits in
    let k = bits_of s.tick_bits in
    let f = bits_of s.level_bits in
    record { holds = int_eq s.start.num (pos 0); fault = Setting StartTime s.start }
    ∷ record { holds = int_le (pos 0) s.stop.num; fault = Setting StopTime s.stop }
    ∷ record { holds = is_bits 32 s.coef_bits; fault = Setting CoefBits s.coef_bits }
    ∷ record { holds = is_bits 20 s.tick_bits && nat_le (p + k) 44; fault = Setting TickBits s.tick_bits }
    ∷ record { holds = is_bits 24 s.level_bits && nat_le (p + k + f) 62; fault = Setting LevelBits s.level_bits }
    ∷ record { holds = int_lt (last_of s) (pos tick_limit); fault = Setting StopTime s.stop }
    ∷ []

-- the initial level of a state with this start value
abbrev pub start_level : (p k f : ℕ) → Fraction → ℤ
start_level p k f start = level_below (pos (2 ^ (p + k))) (rounded (f + p + k) start)

-- whether a state's start value and its level are within their limits
abbrev pub is_start : (p k f : ℕ) → Fraction → Bool
is_start p k f start = not (exceeds bits_of_state (rounded (f + p + k) start)) && not (exceeds bits_of_level (start_level p k f start))

-- whether a discrete variable's start value is within its limit
abbrev pub is_value : (f : ℕ) → Fraction → Bool
is_value f start = not (exceeds bits_of_level (rounded f start))

-- whether a quantum, rounded down, is from 1 to 2 ^ 32
abbrev pub is_quantum : (f : ℕ) → Fraction → Bool
is_quantum f quantum = int_le (pos 1) (rounded_down f quantum) && int_le (rounded_down f quantum) (pos quantum_limit)

-- whether the coefficients and the constant of a right-hand side are within their limits
abbrev pub row_fits : SlopeRow → Bool
row_fits row =
    list_all (λ e. not (exceeds 44 e.coef)) row.entries && list_all (λ e. not (exceeds 44 e.coef)) row.products && not (exceeds 78 row.beta)

-- whether the mode coefficients and the absolute row sum are within their limits at the start; true
-- if row_fits fails
abbrev pub row_fits_at_start : (f : ℕ) → (levels values : List ℤ) → SlopeRow → Bool
row_fits_at_start f levels values row =
    not (row_fits row) || (mode_fits f (length levels) row values && not (exceeds bits_of_weight (weight_of f row levels values)))

-- whether the coefficients, including that of time, and the constant of a form are within their
-- limits
abbrev pub form_fits : Form → Bool
form_fits form = nat_le (sum_by (λ e. unsigned_abs e.coef) form.entries + unsigned_abs form.time) (2 ^ 38) && not (exceeds 78 form.gamma)

-- The checks at the start: all start values, then all absolute row sums. The sums count only if
-- every start value is within its limit, so the first failed check is of the least variable.
abbrev pub start_checks : (p k f : ℕ) → List ExactForm → List FlatVariable → List Check
start_checks p k f forms vars =
    let n = state_count vars in
    let levels = map (λ v. start_level p k f v.start) (states_of vars) in
    let values = map (λ v. rounded f v.start) (discretes_of vars) in
    checks (λ v. is_start p k f v.start) Start 0 (states_of vars)
    ++ checks (λ v. is_value f v.start) Start n (discretes_of vars)
    ++ checks (λ form. row_fits_at_start f levels values (rounded_row p f form)) Start 0 (take n forms)

-- the checks of the states' quanta
abbrev pub quantum_checks : (f : ℕ) → List FlatVariable → List Check
quantum_checks f vars = checks (λ v. is_quantum f v.quantum) Quantum 0 (states_of vars)

-- the checks of right-hand sides, then of forms of conditions and statements, counted from 1
abbrev pub coefficient_checks : (p f n : ℕ) → List ExactForm → List Check
coefficient_checks p f n forms =
    checks (λ form. row_fits (rounded_row p f form)) Coefficient 1 (take n forms)
    ++ checks (λ form. form_fits (rounded_form p f form)) Coefficient (n + 1) (drop n forms)

-- the checks of `count` forms of conditions and statements from index `place` on
abbrev pub form_checks : (p f : ℕ) → List ExactForm → (place count : ℕ) → List Check
form_checks p f forms place count = checks (λ form. form_fits (rounded_form p f form)) Coefficient (place + 1) (take count (drop place forms))

-- all checks in their order
abbrev pub machine_checks : List ExactForm → FlatModelTree → Settings → List Check
machine_checks forms m s =
    let p = bits_of s.coef_bits in
    let k = bits_of s.tick_bits in
    let f = bits_of s.level_bits in
    setting_checks s ++ start_checks p k f forms m.vars ++ quantum_checks f m.vars ++ coefficient_checks p f (state_count m.vars) forms

-- the error that prevents a machine, if there is one
abbrev pub machine_fault : List ExactForm → FlatModelTree → Settings → Option MachineErr
machine_fault forms m s = first_failed (machine_checks forms m s)
