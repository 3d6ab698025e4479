-- A machine's start values keep the limits that its sums ask for.
use Rattle.cert_check.proofs.Common
use Common.{[], ℕ, ℤ, ◌*ℤ◌, ◌+ℤ◌, ◌<◌, ◌∙◌, ◌≡◌, ap₂, arith, constant_part, discrete_count, get_or}
use Common.{int_at, ints, length, length-map, List, Machine, mode_coefficient, pos, refl, replicate}
use Common.{row_at, SlopeRow, start_constant_part, start_discretes, state_count, suc, sum_below}
use Common.{take, zero}
use Rattle.std.specs.Prelude.{IsTrue}
use Rattle.qss_machine.specs.declared.machine_parts.DiscreteInfo.{DiscreteInfo}
use Rattle.qss_machine.specs.Slopes.{mode_fits}
use Rattle.qss_machine.specs.Machines.{slope_at}

pub starts-count : (m : Machine) → length (start_discretes m) ≡ discrete_count m
starts-count m = length-map m.discretes (λ (d : DiscreteInfo). d.d0)

pub starts-fit : (m : Machine) (j : ℕ) → j < state_count m → IsTrue (mode_fits m.f (state_count m) (row_at m j) (start_discretes m))
starts-fit m j h =
    let none : SlopeRow = record { entries = []; products = []; beta = pos 0 } in
    m.has_rows.modes j none (omega (arith, m.has_rows.one_each))

pub zeros-at : (n k i : ℕ) → get_or (take n (replicate k (pos 0))) i (pos 0) ≡ pos 0
zeros-at zero k i = refl
zeros-at (suc n) zero i = refl
zeros-at (suc n) (suc k) zero = refl
zeros-at (suc n) (suc k) (suc i) = zeros-at n k i

sum-zeros : (n : ℕ) (f : ℕ → ℤ) (levels : List ℤ) → ((i : ℕ) → int_at levels i ≡ pos 0) → sum_below n (λ i. f i *ℤ int_at levels i) ≡ pos 0
sum-zeros zero f levels h = refl
sum-zeros (suc n) f levels h =
    let a = sum-zeros n f levels h in
    rw (a, h n) (omega (arith, ints))

pub slope-rest : (m : Machine) (j : ℕ) (levels : List ℤ) → length levels ≡ state_count m → ((i : ℕ) → int_at levels i ≡ pos 0)
    → slope_at m j levels (start_discretes m) ≡ start_constant_part m j
slope-rest m j levels size zeros =
    let d = start_discretes m in
    let sums = sum-zeros (length levels) (mode_coefficient m.f (length levels) (row_at m j) d) levels zeros in
    ap₂ (λ (x : ℤ) (n : ℕ). x +ℤ constant_part n (row_at m j) d) sums size ∙ omega (arith, ints)
