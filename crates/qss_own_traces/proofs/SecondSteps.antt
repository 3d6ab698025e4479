-- Steps of a second-order run.
use Rattle.qss_own_traces.proofs.Common
use Common.{ℕ, ℤ, ◌*ℤ◌, ◌+ℤ◌, ◌+◌, ◌<◌, ◌^◌, ◌||◌, ◌∙◌, ◌≡◌, abs_of, ap, ap₂, arith, Bool, changed}
use Common.{false, fill_by_all, first_exceeding_limit, flag_at, if◌then◌else◌, int_at, ints}
use Common.{is_limit_check, is_requantization, IsWithin, leaves_quantum, length, level_unit, List}
use Common.{list_any, Machine, nearest_change, next_states, None, Ok, Option, or_parts, pos}
use Common.{range_with_len, refl, Result, rise_at, row_weight, same_table, second_snapshot_unless}
use Common.{second_step, SecondSnapshot, Some, start_coefficient, start_constant_part, state_count}
use Common.{sum_below, sym, tabulate, true, unit_fits}
use Rattle.std.proofs.Common.{◌%◌, ◌==◌}
use Rattle.std.proofs.Math.IntN.{zero-*ℤ}
use Rattle.qss_order2.specs.SecondSteps.{rise_change_weight, next_levels, next_changes}
use Rattle.qss_order2.specs.SecondSteps.{next_snapshot, limit_check_period}
use Rattle.qss_own_traces.proofs.Flags.{any_flag, none_each}
use Rattle.qss_order2.proofs.Bounds.{factor_small}

-- a level slope of which the multiple in units of a state is small
pub change_small : (m : Machine) (z : ℤ) → IsWithin 95 (level_unit m *ℤ z) → IsWithin 95 z
change_small m z held = let u =
    unit_fits m in factor_small (2 ^ (m.p + m.k)) z (omega (arith, ints, u.from_one)) held

-- the absolute row sum of changes
pub undriven : (m : Machine) (changes : List ℤ) → tabulate (state_count m) (row_weight m 0 changes) ≡ tabulate (state_count m) (rise_change_weight m changes)
undriven m changes = same_table (state_count m) (row_weight m 0 changes) (rise_change_weight m changes) (λ j h. none (sum_below (state_count m) (λ i. abs_of (start_coefficient m j i *ℤ int_at changes i))) (abs_of (start_constant_part m j)))
  where
    none : (s d : ℤ) → s +ℤ pos 0 *ℤ d ≡ s
    none s d = let e = zero-*ℤ d in omega (arith, ints, e)

abbrev pub with_changes : List ℤ → List ℤ → List ℤ → SecondSnapshot
with_changes states levels changes = record { states = states; levels = levels; changes = changes }

module _ (m : Machine) (tick : ℕ) (w : SecondSnapshot) where
  -- the requantized states take new changes
  pub changed_are : (left : List Bool) → ((j : ℕ) → j < state_count m → flag_at left j ≡ leaves_quantum m w j) → changed m left (next_levels m w) w.changes ≡ next_changes nearest_change m w (next_levels m w)
  changed_are left flags =
      same_table (state_count m)
      (λ j. if flag_at left j then nearest_change (level_unit m) (rise_at m j (next_levels m w)) else int_at w.changes j)
      (λ j. if leaves_quantum m w j then nearest_change (level_unit m) (rise_at m j (next_levels m w)) else int_at w.changes j)
      (λ j h. ap (λ (b : Bool). if b then nearest_change (level_unit m) (rise_at m j (next_levels m w)) else int_at w.changes j) (flags j h))

  -- some state is requantized
  pub any_left : (left : List Bool) → length left ≡ state_count m →
      ((j : ℕ) → j < state_count m → flag_at left j ≡ leaves_quantum m w j) →
      list_any (λ flag. flag) left ≡ is_requantization m w
  any_left left many flags =
      ap (list_any (λ (flag : Bool). flag))
      (fill_by_all (leaves_quantum m w) left (state_count m) false many flags)
      ∙ any_flag (leaves_quantum m w) (range_with_len 0 (state_count m))

  -- the result of a tick at which the limits are checked, or not
  abbrev result_if : Bool → Result SecondSnapshot ℕ
  result_if looks = second_snapshot_unless (if looks then first_exceeding_limit m (next_levels m w) (next_changes nearest_change m w (next_levels m w)) else None) (next_snapshot m w (next_changes nearest_change m w (next_levels m w)))

  unless_same : (o : Option ℕ) (u v : SecondSnapshot) → (o ≡ None → u ≡ v) → second_snapshot_unless o u ≡ second_snapshot_unless o v
  unless_same None u v same = ap (λ (x : SecondSnapshot). Ok x) (same refl)
  unless_same (Some var) u v same = refl

  pub step_looked : (o : Option ℕ) (v : SecondSnapshot) → is_limit_check m tick (is_requantization m w) ≡ true → o ≡ first_exceeding_limit m (next_levels m w) (next_changes nearest_change m w (next_levels m w)) →
      v.states ≡ next_states m w → v.levels ≡ next_levels m w → (o ≡ None → v.changes ≡ next_changes nearest_change m w (next_levels m w)) → second_step nearest_change m tick w ≡ second_snapshot_unless o v
  step_looked o v looks is states levels changes =
      let new = next_changes nearest_change m w (next_levels m w) in
      ap result_if looks ∙ ap (λ (p : Option ℕ). second_snapshot_unless p (next_snapshot m w new)) (sym is)
      ∙ unless_same o (next_snapshot m w new) v
      (λ e. ap (λ (cs : List ℤ). with_changes (next_states m w) (next_levels m w) cs) (sym (changes e)) ∙ ap₂ (λ (xs ms : List ℤ). with_changes xs ms v.changes) (sym states) (sym levels))

  pub step_calm : (v : SecondSnapshot) → is_limit_check m tick (is_requantization m w) ≡ false → v.states ≡ next_states m w → v.levels ≡ next_levels m w → v.changes ≡ w.changes → length w.changes ≡ state_count m →
      second_step nearest_change m tick w ≡ second_snapshot_unless None v
  step_calm v calm states levels changes many =
      let none : is_requantization m w ≡ false =
      (or_parts (tick % limit_check_period == 0 || tick == m.last)
      (is_requantization m w) calm).1 in
      let same : w.changes ≡ next_changes nearest_change m w (next_levels m w) =
      fill_by_all (λ j. if leaves_quantum m w j then nearest_change (level_unit m) (rise_at m j (next_levels m w)) else int_at w.changes j) w.changes (state_count m) (pos 0) many
      (λ j h. sym (ap (λ (b : Bool). if b then nearest_change (level_unit m) (rise_at m j (next_levels m w)) else int_at w.changes j) (none_each (leaves_quantum m w) (state_count m) j none h))) in
      ap result_if calm
      ∙ ap (λ (cs : List ℤ). Ok (with_changes (next_states m w) (next_levels m w) cs)) (sym same ∙ sym changes)
      ∙ ap₂ (λ (xs ms : List ℤ). Ok (with_changes xs ms v.changes)) (sym states) (sym levels)
