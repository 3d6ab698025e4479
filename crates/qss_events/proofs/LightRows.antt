-- Rows within their limits.
use Rattle.qss_events.proofs.Common
use Common.{ℕ, ℤ, ◌<◌, ◌||◌, ◌≡◌, arith, Bool, exceeds_row_limits, false, ints, IsWithin, length}
use Common.{List, Machine, mode_fits, no_row, None, not, passes-within, position, refl, row_at}
use Common.{slope_at, state_count, true, weight_of}
use Rattle.qss_machine.specs.Machines.{weight_at}
use Rattle.qss_machine.proofs.WeightLaws.{slope-within_weight}
use Rattle.qss_events.proofs.Ranges.{none_passes}

-- the coefficients in the current mode, the absolute row sum and the slope of a row are within
-- their limits
pub record IsLight (m : Machine) (levels discretes : List ℤ) (j : ℕ) : Type 0 where
  pub modes : mode_fits m.f (state_count m) (row_at m j) discretes ≡ true
  pub weight : IsWithin 88 (weight_at m j levels discretes)
  pub slope : IsWithin 88 (slope_at m j levels discretes)

neither : (a b : Bool) → (not a || b) ≡ false → (a ≡ true) × (b ≡ false)
neither true true e = absurd (cc)
neither true false e = (refl, refl)
neither false b e = absurd (cc)

pub light_row : (m : Machine) (levels discretes : List ℤ) (j : ℕ) → exceeds_row_limits m levels discretes (row_at m j) ≡ false → IsLight m levels discretes j
light_row m levels discretes j light =
    let parts = neither _ _ light in
    let small : IsWithin 88 (weight_of m.f (row_at m j) levels discretes) = passes-within 88 (weight_of m.f (row_at m j) levels discretes) parts.1 in
    record { modes = parts.0; weight = small; slope = omega (arith, ints, slope-within_weight m.f (row_at m j) levels discretes, small) }

-- where no row exceeds its limits each is within them
pub row_is_light : (m : Machine) (levels discretes : List ℤ) → position (exceeds_row_limits m levels discretes) m.rows ≡ None → (j : ℕ) → j < state_count m → IsLight m levels discretes j
row_is_light m levels discretes light j h =
    let inside : j < length m.rows = omega (arith, h, m.has_rows.one_each) in
    light_row m levels discretes j (none_passes no_row (exceeds_row_limits m levels discretes) m.rows light j inside)
