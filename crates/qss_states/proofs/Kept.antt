-- Levels and discrete values that stay within the bound of absolute row sums that are not
-- maintained.
use Rattle.qss_states.proofs.Common
use Common.{ℕ, ℤ, ◌+◌, ◌-◌, ◌<◌, ◌∙◌, ◌≡◌, All, AreAssigned, AreSmall, AreUpToAt, arith, cases_Bool}
use Common.{DiffersOnlyAt, discrete_count, exceeds_row_limits, false, get_or, get_or_default}
use Common.{index_of, inl, inr, int_at, is_listed, IsUpTo, length, List, Machine, no_row, None, pos}
use Common.{position, position-none, state_count, subst, sym, true, Weights, weights_at}
use Common.{with_items_is}
use Rattle.std.specs.Vec.{with_items}
use Rattle.qss_states.specs.KeptWeights.{AreWeights}
use Rattle.mu_num.proofs.InPlace.{same_length}

-- levels of which those of the moved states are new
pub levels_still : (bound : ℕ) (moved : List ℕ) (old new : List ℤ) → DiffersOnlyAt moved old new → All (IsUpTo bound) old → AreUpToAt bound new 0 moved → All (IsUpTo bound) new
levels_still bound moved old new off small here k none h =
    elim (cases_Bool (is_listed moved k)) [
      | inl among ↦
          let found = index_of moved k among in
          let at : get_or moved found.0 0 - 0 ≡ k = omega (arith, found.2) in
          subst (IsUpTo bound) (get_or_default new k (pos 0) none h)
          (subst (λ (j : ℕ). IsUpTo bound (int_at new j)) at (here found.0 0 found.1))
      | inr other ↦
          let inside : k < length old = omega (arith, h, off.as_many) in
          subst (IsUpTo bound) (sym (off.others k other) ∙ get_or_default new k (pos 0) none h) (small k (pos 0) inside)
    ]

-- discrete values of which those of the assigned variables are new
pub values_still : (m : Machine) (bound : ℕ) (assigned : List ℕ) (old new : List ℤ) → length old ≡ discrete_count m → length new ≡ discrete_count m → AreAssigned m assigned old new →
    All (IsUpTo bound) old → AreUpToAt bound new (state_count m) assigned → All (IsUpTo bound) new
values_still m bound assigned old new many_old many_new own small here k none h =
    elim (cases_Bool (is_listed assigned (state_count m + k))) [
      | inl among ↦
          let found = index_of assigned (state_count m + k) among in
          let at : get_or assigned found.0 0 - state_count m ≡ k = omega (arith, found.2) in
          subst (IsUpTo bound) (get_or_default new k (pos 0) none h)
          (subst (λ (j : ℕ). IsUpTo bound (int_at new j)) at (here found.0 0 found.1))
      | inr other ↦
          let known : k < discrete_count m = omega (arith, h, many_new) in
          let inside : k < length old = omega (arith, known, many_old) in
          subst (IsUpTo bound) (sym (own k known other) ∙ get_or_default new k (pos 0) none h) (small k (pos 0) inside)
    ]

-- no row exceeds its limits there
pub light_up_to : (m : Machine) (bound : ℕ) (levels discretes : List ℤ) → length levels ≡ state_count m → length discretes ≡ discrete_count m → AreSmall m bound levels discretes →
    position (exceeds_row_limits m levels discretes) m.rows ≡ None
light_up_to m bound levels discretes many many_d small =
    position-none no_row (exceeds_row_limits m levels discretes) m.rows (λ k h. small.safe k no_row h levels discretes many many_d small.small_levels small.small_discretes)

-- absolute row sums that are not maintained are as they were
pub not_kept : (m : Machine) (levels discretes : List ℤ) (weights : Weights) → weights.kept ≡ false → length weights.of_rows.items ≡ state_count m → AreSmall m weights.bound levels discretes →
    AreWeights m levels discretes weights
not_kept m levels discretes weights off many small = record {
  as_many = many;
  own = λ on. absurd (let no : true ≡ false = sym on ∙ off in cc);
  small = λ e. small;
}

-- absolute row sums that are maintained, recomputed
pub kept_anew : (m : Machine) (levels discretes : List ℤ) (weights : Weights) (sums : List ℤ) → weights.kept ≡ true → length weights.of_rows.items ≡ state_count m → length sums ≡ weights.of_rows.len →
    sums ≡ weights_at m levels discretes → AreWeights m levels discretes (record weights { of_rows = with_items weights.of_rows sums })
kept_anew m levels discretes weights sums on many own_many own = record {
  as_many = same_length weights.of_rows sums ∙ many;
  own = λ e. with_items_is weights.of_rows sums own_many ∙ own;
  small = λ off. absurd (let no : true ≡ false = sym on ∙ off in cc);
}
