-- Where no function has a sum to send, the sums that were sent are the slopes.
use Rattle.qss_components.proofs.Common
use Common.{ℕ, ◌+◌, ◌<◌, ◌^◌, ◌||◌, ◌∙◌, ◌≡◌, ◌≤◌, Agree, All, ap, arith, Bool, discrete_count}
use Common.{exceeds, exceeds_row_limits, false, FunctionState, HasEach, if-false, if-true}
use Common.{if◌then◌else◌, int_at, int_at-tabulate, IsWithin, length-map-range_with_len, Machine}
use Common.{mode_coefficient, mode_fits, no_row, None, not, pos, Product, refl, row_at, same_lists}
use Common.{slope_at, slope_of, slopes_of, state_count, subst, sum_at, sum_of, SummingAgrees, sym}
use Common.{tabulate-same, true, Values, weight_of}
use Rattle.std.specs.List.{list_all}
use Rattle.qss_events.proofs.Ranges.{position-none}
use Rattle.qss_events.proofs.SameSlopes.{mode_same, slope_same, weight_same}
use Rattle.qss_components.specs.ComponentTheorems.{SettledStand}

module _ (m : Machine) (tick : ℕ) (v : Values) (each : HasEach m v) (j : ℕ) (h : j < state_count m) (s : FunctionState) (a : SummingAgrees m tick v j s) where
  known : All (λ (product : Product). (state_count m ≤ product.discrete) × (product.discrete < state_count m + discrete_count m)) (row_at m j).products
  known = (m.has_rows.each j no_row (omega (arith, h, m.has_rows.one_each))).products.of_discretes

  slope : slope_of m.f (row_at m j) s.levels s.discretes ≡ slope_of m.f (row_at m j) v.levels v.discretes
  slope = slope_same m.f (state_count m) (discrete_count m) (row_at m j) v.levels s.levels v.discretes s.discretes each.levels a.as_many.0 each.discretes a.as_many.1 known a.levels a.discretes

  weight : weight_of m.f (row_at m j) s.levels s.discretes ≡ weight_of m.f (row_at m j) v.levels v.discretes
  weight = weight_same m.f (state_count m) (discrete_count m) (row_at m j) v.levels s.levels v.discretes s.discretes each.levels a.as_many.0 each.discretes a.as_many.1 known a.levels a.discretes

  modes : mode_fits m.f (state_count m) (row_at m j) s.discretes ≡ mode_fits m.f (state_count m) (row_at m j) v.discretes
  modes =
      ap (λ coefficients. list_all (λ coefficient. not (exceeds 44 coefficient)) coefficients)
      (tabulate-same (pos 0) (state_count m) (mode_coefficient m.f (state_count m) (row_at m j) s.discretes) (mode_coefficient m.f (state_count m) (row_at m j) v.discretes)
      (λ i below. mode_same m.f (state_count m) (discrete_count m) (row_at m j) v.levels s.levels v.discretes s.discretes each.levels a.as_many.0 each.discretes a.as_many.1 known a.levels a.discretes i))

  heavy : exceeds_row_limits m s.levels s.discretes (row_at m j) ≡ exceeds_row_limits m v.levels v.discretes (row_at m j)
  heavy =
      ap (λ fits. not fits || exceeds 88 (weight_of m.f (row_at m j) s.levels s.discretes)) modes
      ∙ ap (λ z. not (mode_fits m.f (state_count m) (row_at m j) v.discretes) || exceeds 88 z) weight

  -- its sum is that at the values with which it agrees
  pub sum_same : sum_of m s ≡ sum_at m j v.levels v.discretes
  sum_same =
      ap (λ row. sum_at m row s.levels s.discretes) a.own
      ∙ ap (λ b. if b then pos (2 ^ 88 + 1) else slope_at m j s.levels s.discretes) heavy
      ∙ ap (λ z. if exceeds_row_limits m v.levels v.discretes (row_at m j) then pos (2 ^ 88 + 1) else z) slope

  module _ (none : s.changed ≡ None) (small : IsWithin 88 (int_at v.slopes j)) where
    total : sum_at m j s.levels s.discretes ≡ int_at v.slopes j
    total = ap (λ row. sum_at m row s.levels s.discretes) (sym a.own) ∙ a.own_sum none

    light : exceeds_row_limits m s.levels s.discretes (row_at m j) ≡ false
    light = by (exceeds_row_limits m s.levels s.discretes (row_at m j)) refl
      where
        by : (b : Bool) → exceeds_row_limits m s.levels s.discretes (row_at m j) ≡ b → exceeds_row_limits m s.levels s.discretes (row_at m j) ≡ false
        by false e = e
        by true e =
            let past : sum_at m j s.levels s.discretes ≡ pos (2 ^ 88 + 1) = if-true (exceeds_row_limits m s.levels s.discretes (row_at m j)) _ _ e in
            let within : IsWithin 88 (pos (2 ^ 88 + 1)) = subst (IsWithin 88) (sym total ∙ past) small in
            absurd (omega (arith, within))

    pub still_light : exceeds_row_limits m v.levels v.discretes (row_at m j) ≡ false
    still_light = sym heavy ∙ light

    pub own_slope : int_at v.slopes j ≡ slope_at m j v.levels v.discretes
    own_slope = sym total ∙ if-false (exceeds_row_limits m s.levels s.discretes (row_at m j)) _ _ light ∙ slope

pub settled_stand : SettledStand
settled_stand m tick w slopes line s c each agree sent small = (
  record { agree = subst (λ f. Agree m tick (record { states = w.states; slopes = f; levels = w.levels; discretes = w.discretes }) line s c) same agree; sent = sent },
  position-none no_row (exceeds_row_limits m w.levels w.discretes) m.rows (λ j inside. let h : j < state_count m = omega (arith, inside, m.has_rows.one_each) in still_light m tick (record { states = w.states; slopes = slopes; levels = w.levels; discretes = w.discretes }) each j h (s j) (agree.functions j h) (sent j h) (small j h)),
)
  where
    same : slopes ≡ slopes_of m w
    same =
        same_lists (pos 0) slopes (slopes_of m w)
        (each.slopes ∙ sym (length-map-range_with_len (λ j. slope_at m j w.levels w.discretes) 0 (state_count m)))
        (λ j inside.
        let h : j < state_count m = omega (arith, inside, length-map-range_with_len (λ j. slope_at m j w.levels w.discretes) 0 (state_count m)) in
        own_slope m tick (record { states = w.states; slopes = slopes; levels = w.levels; discretes = w.discretes }) each j h (s j) (agree.functions j h) (sent j h) (small j h)
        ∙ sym (int_at-tabulate (state_count m) (λ j. slope_at m j w.levels w.discretes) j h))
