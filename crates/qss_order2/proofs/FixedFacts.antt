-- What is read of a machine whose discrete values stay those of the start.
use Rattle.qss_order2.proofs.Common
use Common.{[], ℕ, ℤ, ◌<◌, ◌∙◌, ◌≡◌, ap, AreModes, arith, Bool, column_at, Entry, FitsSigned}
use Common.{FixedMachine, get_or, get_or_default, int_at, int_at-tabulate, ints, IsAnswer}
use Common.{IsPositiveWithin, IsWithin, length, length-map-range_with_len, level_unit, List, of_z}
use Common.{start_constant_part, state_count, to_z, to_z-of_z, unit_fits, vec_len, w128}
use Rattle.qss_order2.specs.SlopeRules.{IsAsked}
use Rattle.qss_order2.proofs.Bounds.{at_index}
use Rattle.qss_order2.proofs.Sizes.{drive_small}

pub wide : (z : ℤ) → IsWithin 126 z → FitsSigned w128 z
wide z small = omega (arith, ints, small)

-- ---- the level unit

module _ (f : FixedMachine) where
  pub unit_small : IsPositiveWithin 44 f.unit
  unit_small = rw f.is_fixed.own_unit (unit_fits f.machine)

  pub unit_wide : FitsSigned w128 f.unit
  unit_wide = wide f.unit (omega (arith, unit_small.within))

  -- a rule may be applied to a slope, and allows its result
  module _ (rise : ℤ) (small : IsWithin 95 rise) where
    fits : FitsSigned w128 rise
    fits = wide rise (omega (arith, small))

    pub asked : IsAsked (to_z w128 (of_z w128 rise)) (to_z w128 (of_z w128 f.unit))
    asked = rw (to_z-of_z w128 rise fits, to_z-of_z w128 f.unit unit_wide) (record {
      small_rise = small;
      small_unit = unit_small;
    })

    pub answered : (nearest : Bool) (z : ℤ) → IsAnswer nearest (to_z w128 (of_z w128 rise))
        (to_z w128 (of_z w128 f.unit)) z → IsAnswer nearest rise (level_unit f.machine) z
    answered nearest z own = rw (
      to_z-of_z w128 rise fits,
      to_z-of_z w128 f.unit unit_wide,
      f.is_fixed.own_unit,
    ) at own

-- ---- the lists

module _ (f : FixedMachine) (j : ℕ) (h : j < state_count f.machine) where
  many_drives : length f.drives.items ≡ state_count f.machine
  many_drives = ap length f.is_fixed.own_drives ∙ length-map-range_with_len
      (start_constant_part f.machine) 0 (state_count f.machine)

  pub in_drives : j < vec_len f.drives
  in_drives = omega (arith, h, many_drives, f.drives.ok.0)

  pub drive_is : (z : ℤ) → z ≡ get_or f.drives.items j z → z ≡ start_constant_part f.machine j
  drive_is z is = at_index f.drives.items j (state_count f.machine) z many_drives h is
      ∙ ap (λ (xs : List ℤ). int_at xs j) f.is_fixed.own_drives
      ∙ int_at-tabulate (state_count f.machine) (start_constant_part f.machine) j h

  drive_within : (z : ℤ) → z ≡ get_or f.drives.items j z → IsWithin 88 z
  drive_within z is = rw (drive_is z is) (drive_small f.machine j h)

  pub drive_wide : (z : ℤ) → z ≡ get_or f.drives.items j z → FitsSigned w128 z
  drive_wide z is = wide z (omega (arith, drive_within z is))

  pub drive_slope : (z : ℤ) → z ≡ get_or f.drives.items j z →
      IsWithin 88 (to_z w128 (of_z w128 z))
  drive_slope z is = rw (to_z-of_z w128 z (drive_wide z is)) (drive_within z is)

  -- the slice of a row that is read
  pub row_is : (xs ys : List Entry) → ys ≡ xs → xs ≡ get_or f.rows.items j xs →
      AreModes f.machine j ys
  row_is xs ys same is = rw (
    same,
    is ∙ get_or_default f.rows.items j xs [] (omega (
      arith,
      h,
      f.is_fixed.own_rows.one_each,
    )),
  ) (f.is_fixed.own_rows.each j h)

  pub column_is : (xs : List Entry) → xs ≡ get_or f.columns.items j xs →
      xs ≡ column_at f.columns.items j
  column_is xs is = is ∙ get_or_default f.columns.items j xs [] (omega (
    arith,
    h,
    f.has_columns.one_each,
  ))
