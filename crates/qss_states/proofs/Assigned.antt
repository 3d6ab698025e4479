-- A row that reads no assigned discrete variable has the same sums.
use Rattle.qss_states.proofs.Common
use Common.{ℕ, ℤ, ◌+◌, ◌<◌, ◌||◌, ◌∙◌, ◌≡◌, ◌≤◌, All, ap, AreAssigned, arith, cases_Bool}
use Common.{discrete_count, exceeds, exceeds_row_limits, false, fill_by_all}
use Common.{get_or-map-range_with_len, inl, inr, int_at, is_listed, length}
use Common.{length-map-range_with_len, List, Machine, mode_coefficient, mode_fits, no_row, not, pos}
use Common.{refl, row_at, row_reads, slope_at, state_count, tabulate, true, unread_at, weight_at}
use Rattle.std.specs.List.{list_all}
use Rattle.qss_states.specs.Variables.{reads_moved}
use Rattle.qss_events.proofs.SameSlopes.{mode_same, slope_same, weight_same}

module _ (m : Machine) (levels pre d : List ℤ) (assigned : List ℕ) (many : length levels ≡ state_count m) (many_pre : length pre ≡ discrete_count m) (many_d : length d ≡ discrete_count m)
    (are : AreAssigned m assigned pre d) (j : ℕ) (known : j < state_count m) (unread : reads_moved m assigned j ≡ false) where
  of_discretes : All (λ product. (state_count m ≤ product.discrete) × (product.discrete < state_count m + discrete_count m)) (row_at m j).products
  of_discretes =
      (m.has_rows.each j no_row (omega (arith, known, m.has_rows.one_each))).products.of_discretes

  value_same : (g : ℕ) → g < discrete_count m → row_reads (state_count m + g) (row_at m j) ≡ true → int_at d g ≡ int_at pre g
  value_same g h reads = elim (cases_Bool (is_listed assigned (state_count m + g))) [
    | inl among ↦ let none : row_reads (state_count m + g) (row_at m j) ≡ false = unread_at assigned (row_at m j) unread (state_count m + g) among in absurd (cc)
    | inr none ↦ are g h none
  ]

  mode : (i : ℕ) → mode_coefficient m.f (state_count m) (row_at m j) d i ≡ mode_coefficient m.f (state_count m) (row_at m j) pre i
  mode =
      mode_same m.f (state_count m) (discrete_count m) (row_at m j) levels levels pre d many many many_pre many_d of_discretes (λ i h e. refl) value_same

  -- its coefficients in the current mode fit as before
  pub modes_stay : mode_fits m.f (state_count m) (row_at m j) d ≡ mode_fits m.f (state_count m) (row_at m j) pre
  modes_stay =
      let n : ℕ = state_count m in
      let old : ℕ → ℤ = mode_coefficient m.f n (row_at m j) pre in
      let new : ℕ → ℤ = mode_coefficient m.f n (row_at m j) d in
      ap (list_all (λ coefficient. not (exceeds 44 coefficient)))
      (fill_by_all old (tabulate n new) n (pos 0) (length-map-range_with_len new 0 n) (λ i h. get_or-map-range_with_len new 0 n i i (pos 0) h (omega arith) ∙ mode i))

  -- it has the same slope, and has the same absolute row sum
  pub slope_stays : slope_at m j levels d ≡ slope_at m j levels pre
  slope_stays =
      slope_same m.f (state_count m) (discrete_count m) (row_at m j) levels levels pre d many many many_pre many_d of_discretes (λ i h e. refl) value_same

  pub weight_stays : weight_at m j levels d ≡ weight_at m j levels pre
  weight_stays =
      weight_same m.f (state_count m) (discrete_count m) (row_at m j) levels levels pre d many many many_pre many_d of_discretes (λ i h e. refl) value_same

  pub overweight_stays : exceeds_row_limits m levels d (row_at m j) ≡ exceeds_row_limits m levels pre (row_at m j)
  overweight_stays =
      ap (λ b. not b || exceeds 88 (weight_at m j levels d)) modes_stay ∙ ap (λ z. not (mode_fits m.f (state_count m) (row_at m j) pre) || exceeds 88 z) weight_stays
