-- Lines go on, and so do the forms over them.
use Rattle.qss_components.proofs.Common
use Common.{*ℤ-zero, [], ℕ, ℤ, ◌*ℤ◌, ◌+ℤ◌, ◌+◌, ◌-◌, ◌^◌, ◌∙◌, ◌∷◌, ◌≡◌, ◌≤◌, All, ap, arith}
use Common.{form_at, Input, input_at, ints, line_more, List, Machine, pos, speed_by, suc, sum_over}
use Common.{zero-*ℤ}
use Rattle.mu_num.proofs.Integers.{mul-add}
use Rattle.qss_events.proofs.Lines.{term_line, time_line}

-- a line no ticks on
pub no_ticks : (x s : ℤ) (tick : ℕ) → x +ℤ pos (tick - tick) *ℤ s ≡ x
no_ticks x s tick =
    let none : tick - tick ≡ 0 = omega arith in
    ap (λ n. x +ℤ pos n *ℤ s) none ∙ omega (arith, ints, zero-*ℤ s)

sum_moves : (inputs : List Input) (tick k : ℕ) → All (λ (i : Input). i.tick ≤ tick) inputs →
    sum_over (λ (i : Input). i.coef *ℤ input_at (tick + k) i) inputs
    ≡ sum_over (λ (i : Input). i.coef *ℤ input_at tick i) inputs +ℤ pos k *ℤ sum_over (λ (i : Input). i.coef *ℤ i.speed) inputs
sum_moves [] tick k early = omega (arith, ints, *ℤ-zero (pos k))
sum_moves (i ∷ inputs) tick k early =
    let first : i.tick ≤ tick = early 0 i (omega arith) in
    let term : i.coef *ℤ input_at (tick + k) i ≡ i.coef *ℤ input_at tick i +ℤ pos k *ℤ (i.coef *ℤ i.speed) =
    ap (λ z. i.coef *ℤ z) (line_more i.at i.speed i.tick tick k first) ∙ term_line i.coef (input_at tick i) (pos k) i.speed in
    omega (
      arith,
      ints,
      term,
      sum_moves inputs tick k (λ j d below. early (suc j) d (omega arith)),
      mul-add (pos k) (i.coef *ℤ i.speed) (sum_over (λ (i : Input). i.coef *ℤ i.speed) inputs),
    )

-- the value of a form goes on at its speed while its inputs go on along their lines
pub form_moves : (m : Machine) (inputs : List Input) (time gamma : ℤ) (tick k : ℕ) → All (λ (i : Input). i.tick ≤ tick) inputs →
    form_at m inputs time gamma (tick + k) ≡ form_at m inputs time gamma tick +ℤ pos k *ℤ speed_by m inputs time
form_moves m inputs time gamma tick k early =
    omega (
      arith,
      ints,
      sum_moves inputs tick k early,
      time_line time tick k (2 ^ (m.f + m.p)),
      mul-add (pos k) (sum_over (λ (i : Input). i.coef *ℤ i.speed) inputs) (time *ℤ pos (2 ^ (m.f + m.p))),
    )
