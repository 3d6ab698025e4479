-- Where the state of a line is up to the tick at which it leaves the quantum of its level.
use Rattle.qss_components.proofs.Common
use Common.{ℕ, ℤ, ◌+ℤ◌, ◌+◌, ◌-◌, ◌<◌, ◌^◌, ◌∙◌, ◌≡◌, ◌≤◌, ap, arith, Bool, cases_lt, false}
use Common.{FirstAfter, inl, inr, int_lt-true, ints, is_within_quantum, IsAllowedLevel, IsAnswer}
use Common.{IsLine, IsLineNext, IsLineWithinQuantum, IsNextLevel, IsWithin, IsWithinOneLevel}
use Common.{LeavesAt, level_unit, Line, Machine, MatchBool, None, Option, quantum_of, refl, Rule}
use Common.{Some, state_at, state_count, subst, suc, sym, tick_limit, true, zero}
use Rattle.mu_num.specs.Ticks.{IsFirstAfter}
use Rattle.mu_num.proofs.Tests.{int_lt-false, int_lt-yes, int_lt-no}
use Rattle.qss_quant.specs.IntegratorLines.{IsAway}
use Rattle.qss_events.proofs.NextLevels.{next_is_near}
use Rattle.qss_events.proofs.Ranges.{near_small}
use Rattle.qss_events.proofs.Lines.{line_here}
use Rattle.qss_components.proofs.Ticks.{one_more, first_one}

sum_small : (x s total : ℤ) → total ≡ x +ℤ s → IsWithin 88 x → IsWithin 88 s → IsWithin 89 total
sum_small x s total e a b = omega (arith, ints, e, a, b)

-- where the tick of a line's next transition is
pub record IsReached (m : Machine) (var : ℕ) (line : Line) (tick : ℕ) : Type 0 where
  pub not_before : line.tick ≤ tick
  pub in_time : tick ≤ tick_limit
  pub away : LeavesAt m var line tick
  pub small : IsWithin 89 (state_at line tick)

module _ (m : Machine) (var : ℕ) (line : Line) (known : var < state_count m) (fits : IsLine line) where
  abbrev near_at : ℕ → Bool
  near_at t = is_within_quantum m var (state_at line t) line.level

  own_state : state_at line line.tick ≡ line.x
  own_state = line_here line.tick line.x line.slope line.level

  near_size : (t : ℕ) → near_at t ≡ true → IsWithin 88 (state_at line t)
  near_size t e = near_small m var (state_at line t) line.level known fits.small_level e

  near_or : (t : ℕ) → ¬ (LeavesAt m var line t) → near_at t ≡ true
  near_or t stays = by (near_at t) refl
    where
      by : (b : Bool) → near_at t ≡ b → near_at t ≡ true
      by true e = e
      by false e = absurd (stays (int_lt-false _ _ e))

  not_both : (t : ℕ) → near_at t ≡ true → ¬ (LeavesAt m var line t)
  not_both t e away = let inside : IsLineWithinQuantum (level_unit m) (state_at line t) line.level (quantum_of m var line.level) = int_lt-true _ _ e in omega (arith, ints, inside, away)

  next_state : (k : ℕ) → state_at line (line.tick + suc k) ≡ state_at line (line.tick + k) +ℤ line.slope
  next_state k =
      let e : (line.tick + suc k) - line.tick ≡ suc k = omega arith in
      let f : (line.tick + k) - line.tick ≡ k = omega arith in
      rw (e, f) (one_more line.x line.slope k)

  -- one tick after it was near
  just_after : (t : ℕ) → line.tick < t → ((k : ℕ) → t ≡ line.tick + suc k → near_at (line.tick + k) ≡ true) → IsWithin 89 (state_at line t)
  just_after t later near =
      let k : ℕ = (t - line.tick) - 1 in
      let same : t ≡ line.tick + suc k = omega (arith, later) in
      sum_small (state_at line (line.tick + k)) line.slope (state_at line t) (ap (state_at line) same ∙ next_state k) (near_size (line.tick + k) (near k same)) fits.small_slope

  own_near : is_within_quantum m var line.x line.level ≡ true → near_at line.tick ≡ true
  own_near e = ap (λ x. is_within_quantum m var x line.level) own_state ∙ e

  pub next_one : (a b : Option ℕ) → IsLineNext m var line a → IsLineNext m var line b → a ≡ b
  next_one a b h k = by (is_within_quantum m var line.x line.level) refl
    where
      by : (t : Bool) → is_within_quantum m var line.x line.level ≡ t → a ≡ b
      by false e =
          let first : a ≡ Some line.tick = subst (λ t. MatchBool t (FirstAfter (LeavesAt m var line) line.tick a) (a ≡ Some line.tick)) e h in
          let second : b ≡ Some line.tick = subst (λ t. MatchBool t (FirstAfter (LeavesAt m var line) line.tick b) (b ≡ Some line.tick)) e k in
          first ∙ sym second
      by true e =
          first_one (LeavesAt m var line) line.tick a b
          (subst (λ t. MatchBool t (FirstAfter (LeavesAt m var line) line.tick a) (a ≡ Some line.tick)) e h)
          (subst (λ t. MatchBool t (FirstAfter (LeavesAt m var line) line.tick b) (b ≡ Some line.tick)) e k)

  pub reached : (tick : ℕ) → IsLineNext m var line (Some tick) → IsReached m var line tick
  reached tick next = by (is_within_quantum m var line.x line.level) refl
    where
      by : (b : Bool) → is_within_quantum m var line.x line.level ≡ b → IsReached m var line tick
      by false e =
          let own : Some tick ≡ Some line.tick = subst (λ b. MatchBool b (FirstAfter (LeavesAt m var line) line.tick (Some tick)) (Some tick ≡ Some line.tick)) e next in
          let same : tick ≡ line.tick = cc in
          let away : LeavesAt m var line line.tick = int_lt-false _ _ (ap (λ x. is_within_quantum m var x line.level) own_state ∙ e) in
          let small : IsWithin 89 (state_at line line.tick) = subst (IsWithin 89) (sym own_state) fits.small_state in
          record { not_before = omega (arith, same); in_time = omega (arith, same, fits.in_time); away = subst (LeavesAt m var line) (sym same) away; small = subst (λ t. IsWithin 89 (state_at line t)) (sym same) small }
      by true e =
          let first : IsFirstAfter (LeavesAt m var line) line.tick tick =
          subst (λ b. MatchBool b (FirstAfter (LeavesAt m var line) line.tick (Some tick)) (Some tick ≡ Some line.tick)) e next in
          record {
            not_before = omega (arith, first.later);
            in_time = first.in_time;
            away = first.holds;
            small = just_after tick first.later (λ k same. near_before e first k same);
          }
        where
          near_before : is_within_quantum m var line.x line.level ≡ true → IsFirstAfter (LeavesAt m var line) line.tick tick → (k : ℕ) → tick ≡ line.tick + suc k → near_at (line.tick + k) ≡ true
          near_before e first zero same = let z : line.tick + 0 ≡ line.tick = omega arith in ap near_at z ∙ own_near e
          near_before e first (suc k) same = near_or (line.tick + suc k) (first.first (line.tick + suc k) (omega arith) (omega (arith, same)))

  -- where it was near at each tick before one that is not past the next transition, it is near there
  near_next : is_within_quantum m var line.x line.level ≡ true → (t : ℕ) → t < 2 ^ 32 → ((next : ℕ) → IsLineNext m var line (Some next) → t ≤ next) →
      (k : ℕ) → line.tick + suc k < t → ((j : ℕ) → j ≤ k → near_at (line.tick + j) ≡ true) → near_at (line.tick + suc k) ≡ true
  near_next e t in_time not_past k below sooner = by (near_at (line.tick + suc k)) refl
    where
      stays : (u : ℕ) → line.tick < u → u < line.tick + suc k → ¬ (LeavesAt m var line u)
      stays u after before =
          let place : u ≡ line.tick + (u - line.tick) = omega (arith, after) in
          not_both u (ap near_at place ∙ sooner (u - line.tick) (omega (arith, before, after)))

      by : (b : Bool) → near_at (line.tick + suc k) ≡ b → near_at (line.tick + suc k) ≡ true
      by true q = q
      by false q =
          let first : IsFirstAfter (LeavesAt m var line) line.tick (line.tick + suc k) =
          record { later = omega arith; in_time = omega (arith, below, in_time); holds = int_lt-false _ _ q; first = stays } in
          let next : IsLineNext m var line (Some (line.tick + suc k)) =
          subst (λ b. MatchBool b (FirstAfter (LeavesAt m var line) line.tick (Some (line.tick + suc k))) (Some (line.tick + suc k) ≡ Some line.tick)) (sym e) first in
          absurd (omega (arith, not_past (line.tick + suc k) next, below))

  -- up to a tick that is not past the next transition it is near
  all_near : is_within_quantum m var line.x line.level ≡ true → (t : ℕ) → t < 2 ^ 32 → ((next : ℕ) → IsLineNext m var line (Some next) → t ≤ next) →
      (k : ℕ) → line.tick + k < t → (j : ℕ) → j ≤ k → near_at (line.tick + j) ≡ true
  all_near e t in_time not_past zero below j le = let z : line.tick + j ≡ line.tick = omega (arith, le) in ap near_at z ∙ own_near e
  all_near e t in_time not_past (suc k) below j le =
      let sooner : (i : ℕ) → i ≤ k → near_at (line.tick + i) ≡ true = all_near e t in_time not_past k (omega (arith, below)) in
      elim (cases_lt j (suc k)) [
        | inl less ↦ sooner j (omega (arith, less))
        | inr past ↦ let same : line.tick + j ≡ line.tick + suc k = omega (arith, past, le) in ap near_at same ∙ near_next e t in_time not_past k below sooner
      ]

  pub timely_small : (t : ℕ) → line.tick ≤ t → t < 2 ^ 32 → ((next : ℕ) → IsLineNext m var line (Some next) → t ≤ next) → IsWithin 89 (state_at line t)
  timely_small t later in_time not_past = by (is_within_quantum m var line.x line.level) refl
    where
      at_own : t ≡ line.tick → IsWithin 89 (state_at line t)
      at_own same = subst (IsWithin 89) (sym (ap (state_at line) same ∙ own_state)) fits.small_state

      by : (b : Bool) → is_within_quantum m var line.x line.level ≡ b → IsWithin 89 (state_at line t)
      by false e =
          let own : IsLineNext m var line (Some line.tick) =
          subst (λ b. MatchBool b (FirstAfter (LeavesAt m var line) line.tick (Some line.tick)) (Some line.tick ≡ Some line.tick)) (sym e) refl in
          at_own (omega (arith, later, not_past line.tick own))
      by true e =
          elim (cases_lt line.tick t) [
            | inl after ↦ just_after t after (λ k same. all_near e t in_time not_past k (omega (arith, same)) k (omega arith))
            | inr past ↦ at_own (omega (arith, later, past))
          ]

-- the next level of a state that has left its quantum is allowed by the rule
pub answer_at : (name : Option Rule) (m : Machine) (var : ℕ) (state old new : ℤ) → IsAway (level_unit m) state old (quantum_of m var old) → IsNextLevel (IsAllowedLevel name) m var state old new →
    IsAnswer name state old (level_unit m) new
answer_at name m var state old new away next = by (is_within_quantum m var state old) refl next
  where
    by : (b : Bool) → is_within_quantum m var state old ≡ b → MatchBool b (new ≡ old) (IsAllowedLevel name (level_unit m) state old new) → IsAnswer name state old (level_unit m) new
    by true e same =
        let inside : IsLineWithinQuantum (level_unit m) state old (quantum_of m var old) = int_lt-true _ _ e in
        absurd (omega (arith, ints, inside, away))
    by false e ruled = ruled

-- a level that the free rule allows is near its state
pub free_near : (m : Machine) (var : ℕ) (state old new : ℤ) → var < state_count m → IsAway (level_unit m) state old (quantum_of m var old) → IsWithinOneLevel (level_unit m) state old new →
    IsLineWithinQuantum (level_unit m) state new (quantum_of m var new)
free_near m var state old new known away free =
    let far : is_within_quantum m var state old ≡ false = int_lt-no _ _ away in
    next_is_near None m var state old new known
    (subst (λ b. MatchBool b (new ≡ old) (IsAllowedLevel None (level_unit m) state old new)) (sym far) (record { close = free; named = λ rule e. absurd (cc) }))

-- a line whose state is near its level leaves it later
pub near_later : (m : Machine) (var : ℕ) (line : Line) → IsLineWithinQuantum (level_unit m) line.x line.level (quantum_of m var line.level) → (next : ℕ) → IsLineNext m var line (Some next) → line.tick < next
near_later m var line near next is =
    let inside : is_within_quantum m var line.x line.level ≡ true = int_lt-yes _ _ near in
    let first : IsFirstAfter (LeavesAt m var line) line.tick next =
    subst (λ b. MatchBool b (FirstAfter (LeavesAt m var line) line.tick (Some next)) (Some next ≡ Some line.tick)) inside is in
    first.later
