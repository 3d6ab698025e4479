-- The detector of a condition at a value and a speed.
use Rattle.qss_run.proofs.Common
use Common.{ℕ, ℤ, ◌*ℤ◌, ◌+ℤ◌, ◌-◌, ◌∙◌, ◌≡◌, ◌≢◌, ap, arith, compares, Condition, condition_at}
use Common.{DetectorView, FirstAfter, holds_at, ints, IsDetectorAt, List, Machine, Option, pos}
use Common.{speed_of, subst, truth, value_at, value_of, zero-*ℤ}

-- a detector of a condition, and the first tick at which it changes
pub watch_is : (m : Machine) (tick : ℕ) (x d slopes : List ℤ) (place : ℕ) (condition : Condition) (detector : DetectorView) (found : Option ℕ) →
    detector ≡ record { rel = condition.rel; tick = tick; value = value_of m condition.form x d d tick; speed = speed_of m condition.form slopes } →
    condition ≡ condition_at m place → FirstAfter (λ t. holds_at detector t ≢ compares detector.rel detector.value) detector.tick found →
    IsDetectorAt m tick x d slopes place detector found
watch_is m tick x d slopes place condition detector found is own first =
    let value : ℤ = value_of m (condition_at m place).form x d d tick in
    let speed : ℤ = speed_of m (condition_at m place).form slopes in
    let whole : detector ≡ record { rel = (condition_at m place).rel; tick = tick; value = value; speed = speed } = is ∙ ap (λ (c : Condition). record { rel = c.rel; tick = tick; value = value_of m c.form x d d tick; speed = speed_of m c.form slopes }) own in
    let e : tick - tick ≡ 0 = omega arith in
    let own_rel : detector.rel ≡ (condition_at m place).rel = ap (λ (w : DetectorView). w.rel) whole in
    let own_tick : detector.tick ≡ tick = ap (λ (w : DetectorView). w.tick) whole in
    let held : compares detector.rel detector.value ≡ truth m (condition_at m place) x d tick = ap (λ (w : DetectorView). compares w.rel w.value) whole in
    record {
      not_later = omega (arith, own_tick);
      here = ap (λ (w : DetectorView). value_at w tick) whole ∙ ap (λ (n : ℕ). value +ℤ pos n *ℤ speed) e ∙ omega (arith, ints, zero-*ℤ speed);
      own_speed = ap (λ (w : DetectorView). w.speed) whole;
      own_rel = own_rel;
      is_change = subst (λ t. FirstAfter (λ n. holds_at detector n ≢ truth m (condition_at m place) x d tick) t found) own_tick
          (subst (λ b. FirstAfter (λ n. holds_at detector n ≢ b) detector.tick found) held first);
    }
