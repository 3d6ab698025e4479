-- States that go on from where they are.
use Rattle.qss_states.proofs.Common
use Common.{ℕ, ℤ, ◌*ℤ◌, ◌+ℤ◌, ◌-◌, ◌<◌, ◌∙◌, ◌≡◌, ◌≤◌, add-mul, ap, AreScheduled, arith, Bool}
use Common.{cases_Bool, cases_eq, goes_from, inl, inr, int_at, ints, is_listed, IsDue, IsWithin}
use Common.{level_unit, Line, line_at, List, Machine, Option, pos, quantum_of, Schedules, state_at}
use Common.{subst, sym, true}
use Rattle.mu_num.proofs.FirstTicks.{first_after-same}
use Rattle.qss_quant.specs.IntegratorLines.{IsAway}
use Rattle.qss_states.specs.SlopeUpdates.{SchedulesStay}

-- ---- one line

-- a line leads on from where it is
leads_on : (line : Line) (tick t : ℕ) → line.tick ≤ tick → tick < t → state_at line t ≡ state_at line tick +ℤ pos (t - tick) *ℤ line.slope
leads_on line tick t begun later =
    let split : pos (t - line.tick) ≡ pos (tick - line.tick) +ℤ pos (t - tick) = omega (arith, ints, begun, later) in
    let product : pos (t - line.tick) *ℤ line.slope ≡ pos (tick - line.tick) *ℤ line.slope +ℤ pos (t - tick) *ℤ line.slope =
    ap (λ z. z *ℤ line.slope) split ∙ add-mul (pos (tick - line.tick)) (pos (t - tick)) line.slope in
    omega (arith, ints, product)

-- lines that go on alike from a tick have the same due tick
pub due_alike : (m : Machine) (tick j : ℕ) (here line : Line) (found : Option ℕ) → here.tick ≤ tick → line.tick ≤ tick → state_at line tick ≡ state_at here tick → line.slope ≡ here.slope →
    line.level ≡ here.level → IsDue m tick j here found → IsDue m tick j line found
due_alike m tick j here line found here_begun begun same_state same_slope same_level due =
    let away : ℤ → ℤ → Type 0 = λ x level. IsAway (level_unit m) x level (quantum_of m j level) in
    let same : (t : ℕ) → tick < t → state_at here t ≡ state_at line t = λ t later.
    leads_on here tick t here_begun later ∙ sym (ap (λ z. z +ℤ pos (t - tick) *ℤ here.slope) same_state) ∙ sym (ap (λ z. state_at line tick +ℤ pos (t - tick) *ℤ z) same_slope)
    ∙ sym (leads_on line tick t begun later) in
    first_after-same (λ t. away (state_at here t) here.level) (λ t. away (state_at line t) line.level) tick found
    (λ t later is. subst (away (state_at line t)) (sym same_level) (subst (λ x. away x here.level) (same t later) is))
    (λ t later is. subst (λ x. away x here.level) (sym (same t later)) (subst (away (state_at line t)) same_level is))
    due

-- ---- the moved states, step by step

module _ (m : Machine) (tick : ℕ) (x levels slopes : List ℤ) where
  -- a line that goes on so already is left, and so it is where one more state goes on
  pub left_more : (j : ℕ) (old between new : Schedules) →
      ((k : ℕ) → goes_from tick (int_at x k) (int_at levels k) (int_at slopes k) (line_at old.lines k) ≡ true → line_at between.lines k ≡ line_at old.lines k) →
      SchedulesStay (λ k. k ≡ j → ⊥) between new →
      (goes_from tick (int_at x j) (int_at levels j) (int_at slopes j) (line_at between.lines j) ≡ true → line_at new.lines j ≡ line_at between.lines j) →
      (k : ℕ) → goes_from tick (int_at x k) (int_at levels k) (int_at slopes k) (line_at old.lines k) ≡ true → line_at new.lines k ≡ line_at old.lines k
  left_more j old between new left others kept k so =
      let before = left k so in
      let goes : ℕ → Line → Bool = λ a l. goes_from tick (int_at x a) (int_at levels a) (int_at slopes a) l in
      elim (cases_eq k j) [
        | inl same ↦ subst (λ (a : ℕ). line_at new.lines a ≡ line_at between.lines a) (sym same)
            (kept (subst (λ (a : ℕ). goes a (line_at between.lines a) ≡ true) same (ap (goes k) before ∙ so)))
        | inr other ↦ others.lines k other
      ] ∙ before

  module _ (moved : List ℕ) (old new : Schedules) (on : AreScheduled m tick levels slopes moved (int_at x) old new) where
    pub still_begun : (j : ℕ) → (line_at old.lines j).tick ≤ tick → (line_at new.lines j).tick ≤ tick
    still_begun j begun = elim (cases_Bool (is_listed moved j)) [
      | inl among ↦ (on.own j among).not_later
      | inr none ↦ omega (arith, begun, ap (λ (l : Line). l.tick) (on.others.lines j none))
    ]

    pub still_small : (j : ℕ) → IsWithin 88 (int_at x j) → IsWithin 89 (state_at (line_at old.lines j) tick) → IsWithin 89 (state_at (line_at new.lines j) tick)
    still_small j small_x small = elim (cases_Bool (is_listed moved j)) [
      | inl among ↦ omega (arith, ints, small_x, (on.own j among).here)
      | inr none ↦ subst (λ (l : Line). IsWithin 89 (state_at l tick)) (sym (on.others.lines j none)) small
    ]
