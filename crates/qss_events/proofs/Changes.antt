-- Sums in which one term changes.
use Rattle.qss_events.proofs.Common
use Common.{ℕ, ℤ, ◌*ℤ◌, ◌+ℤ◌, ◌+◌, ◌-ℤ◌, ◌<ℤ◌, ◌<◌, ◌^◌, ◌∙◌, ◌≡◌, ◌≤ℤ◌, abs_of, ap, arith}
use Common.{coefficient_of, constant_part, get_or-set_other, get_or-set_same, int_at, int_lt-false}
use Common.{ints, length, length-set, level_unit, List, mode_coefficient, mul-sub, pos, quantum_of}
use Common.{quantum_positive, slice_set, slope_of, SlopeRow, subst, sum_below, sum_changed}
use Common.{unsigned_abs, weight_of}
use Rattle.qss_machine.proofs.Near.{unit_le}
use Rattle.qss_events.specs.SlopeChanges.{SlopesFollowLevels, LeavingChangesLevel}

slope_follows : (bits : ℕ) (row : SlopeRow) (levels discretes : List ℤ) (i : ℕ) (level : ℤ) → i < length levels →
    slope_of bits row (slice_set levels i level) discretes
    ≡ slope_of bits row levels discretes +ℤ mode_coefficient bits (length levels) row discretes i *ℤ (level -ℤ int_at levels i)
slope_follows bits row levels discretes i level h =
    let many : length (slice_set levels i level) ≡ length levels = length-set levels i level in
    let c : ℕ → ℤ = mode_coefficient bits (length levels) row discretes in
    let new = λ (k : ℕ). c k *ℤ int_at (slice_set levels i level) k in
    let old = λ (k : ℕ). c k *ℤ int_at levels k in
    let here : new i ≡ c i *ℤ level = ap (λ z. c i *ℤ z) (get_or-set_same levels i level (pos 0) h) in
    let sum : sum_below (length levels) new ≡ sum_below (length levels) old +ℤ (new i -ℤ old i) =
    sum_changed (length levels) i old new h (λ k below far. ap (λ z. c k *ℤ z) (get_or-set_other levels i k level (pos 0) far)) in
    ap (λ (n : ℕ). sum_below n (λ k. mode_coefficient bits n row discretes k *ℤ int_at (slice_set levels i level) k) +ℤ constant_part n row discretes) many
    ∙ omega (arith, ints, sum, here, mul-sub (c i) level (int_at levels i))

weight_follows : (bits : ℕ) (row : SlopeRow) (levels discretes : List ℤ) (i : ℕ) (level : ℤ) → i < length levels →
    weight_of bits row (slice_set levels i level) discretes
    ≡ weight_of bits row levels discretes +ℤ abs_of (mode_coefficient bits (length levels) row discretes i) *ℤ (abs_of level -ℤ abs_of (int_at levels i))
weight_follows bits row levels discretes i level h =
    let many : length (slice_set levels i level) ≡ length levels = length-set levels i level in
    let c : ℕ → ℤ = λ k. abs_of (mode_coefficient bits (length levels) row discretes k) in
    let rest : ℕ → ℤ = λ n. sum_below (length discretes) (λ g. abs_of (coefficient_of row.entries (n + g)) *ℤ abs_of (int_at discretes g)) +ℤ abs_of row.beta in
    let new = λ (k : ℕ). c k *ℤ abs_of (int_at (slice_set levels i level) k) in
    let old = λ (k : ℕ). c k *ℤ abs_of (int_at levels k) in
    let here : new i ≡ c i *ℤ abs_of level = ap (λ z. c i *ℤ abs_of z) (get_or-set_same levels i level (pos 0) h) in
    let sum : sum_below (length levels) new ≡ sum_below (length levels) old +ℤ (new i -ℤ old i) =
    sum_changed (length levels) i old new h (λ k below far. ap (λ z. c k *ℤ abs_of z) (get_or-set_other levels i k level (pos 0) far)) in
    ap (λ (n : ℕ). sum_below n (λ k. abs_of (mode_coefficient bits n row discretes k) *ℤ abs_of (int_at (slice_set levels i level) k)) +ℤ rest n) many
    ∙ with_rest (sum_below (length levels) new) (sum_below (length levels) old) (new i) (c i) (abs_of level) (abs_of (int_at levels i)) (rest (length levels)) sum here
  where
    with_rest : (s s' n c a b r : ℤ) → s ≡ s' +ℤ (n -ℤ c *ℤ b) → n ≡ c *ℤ a → s +ℤ r ≡ (s' +ℤ r) +ℤ c *ℤ (a -ℤ b)
    with_rest s s' n c a b r e f = omega (arith, ints, e, f, mul-sub c a b)

pub slopes_follow_levels : SlopesFollowLevels
slopes_follow_levels = record { slope = slope_follows; weight = weight_follows }

pub leaving_changes_level : LeavingChangesLevel
leaving_changes_level m j state old new h away free e =
    let far : (level_unit m *ℤ quantum_of m j old) ≤ℤ pos (unsigned_abs (state -ℤ level_unit m *ℤ old)) = int_lt-false _ _ away in
    let close = subst (λ level. pos (unsigned_abs (state -ℤ level_unit m *ℤ level)) <ℤ level_unit m) e free in
    omega (arith, ints, far, close, unit_le (2 ^ (m.p + m.k)) (quantum_of m j old) (quantum_positive m j old h))
