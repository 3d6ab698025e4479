-- The size of a value that has just crossed its bound is at most its speed.
use Rattle.qss_components.proofs.Common
use Common.{ℕ, ℤ, ◌*ℤ◌, ◌+ℤ◌, ◌+◌, ◌-◌, ◌∙◌, ◌≡◌, ◌≢◌, ap, arith, compares, DetectorView, ints}
use Common.{IsCrossingNext, Less, pos, refl, same_flag, Some, subst, suc, sym, value_at, zero}
use Rattle.std.proofs.Common.{◌≤ℤ◌}
use Rattle.std.proofs.lemmas.Int.{by_lt_z}
use Rattle.std.specs.Prelude.{int_le}
use Rattle.qss_machine.specs.declared.machine_parts.Rel.{Rel}
use Rattle.qss_machine.specs.declared.machine_parts.Rel.TheVariants.{LessEq, Greater, GreaterEq}
use Rattle.qss_cross.specs.Crossing.{IsDetectorView, IsSmall, bound_of}
use Rattle.qss_cross.proofs.Across.{at_least, below, differs_to, differs_back}
use Rattle.qss_components.proofs.Ticks.{one_more}

small_across : (b z s t : ℤ) → pos 0 ≤ℤ b → b ≤ℤ pos 1 → t ≡ z +ℤ s → int_le b t ≢ int_le b z → IsSmall s → IsSmall t
small_across b z s t low high e ne small =
    by_lt_z t b
    (λ less. by_lt_z z b (λ both. absurd (ne (below b t less ∙ sym (below b z both)))) (λ up. omega (arith, ints, low, high, e, less, up, small)))
    (λ up. by_lt_z z b (λ less. omega (arith, ints, low, high, e, less, up, small)) (λ both. absurd (ne (at_least b t up ∙ sym (at_least b z both)))))

bound_low : (rel : Rel) → pos 0 ≤ℤ bound_of rel
bound_low Less = omega (arith, ints)
bound_low LessEq = omega (arith, ints)
bound_low Greater = omega (arith, ints)
bound_low GreaterEq = omega (arith, ints)

bound_high : (rel : Rel) → bound_of rel ≤ℤ pos 1
bound_high Less = omega (arith, ints)
bound_high LessEq = omega (arith, ints)
bound_high Greater = omega (arith, ints)
bound_high GreaterEq = omega (arith, ints)

module _ (w : DetectorView) (fits : IsDetectorView w) (tick : ℕ) (next : IsCrossingNext w (Some tick)) where
  abbrev b : ℤ
  b = bound_of w.rel

  abbrev before : ℕ
  before = (tick - w.tick) - 1

  then_value : value_at w tick ≡ (w.value +ℤ pos before *ℤ w.speed) +ℤ w.speed
  then_value =
      let e : tick - w.tick ≡ suc before = omega (arith, next.later) in
      ap (λ n. w.value +ℤ pos n *ℤ w.speed) e ∙ one_more w.value w.speed before

  -- a tick before it was on its old side
  same_side : (k : ℕ) → before ≡ k → int_le b (w.value +ℤ pos k *ℤ w.speed) ≡ int_le b w.value
  same_side zero e = let own : w.value +ℤ pos 0 *ℤ w.speed ≡ w.value = omega (arith, ints) in ap (int_le b) own
  same_side (suc k) e =
      let at : (w.tick + suc k) - w.tick ≡ suc k = omega arith in
      let stays = next.first (w.tick + suc k) (omega arith) (omega (arith, next.later, e)) in
      same_flag _ _ (λ ne. stays (subst (λ n. compares w.rel (w.value +ℤ pos n *ℤ w.speed) ≢ compares w.rel w.value) (sym at) (differs_to w.rel (w.value +ℤ pos (suc k) *ℤ w.speed) w.value ne)))

  pub turned_small : IsSmall (value_at w tick)
  turned_small =
      let differs : int_le b (value_at w tick) ≢ int_le b w.value = differs_back w.rel (value_at w tick) w.value next.holds in
      small_across b (w.value +ℤ pos before *ℤ w.speed) w.speed (value_at w tick) (bound_low w.rel) (bound_high w.rel) then_value
      (λ e. differs (e ∙ same_side before refl)) fits.small_speed
