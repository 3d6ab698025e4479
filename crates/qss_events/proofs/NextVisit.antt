-- One step of a simulator, up to its next event step.
use Rattle.qss_events.proofs.Common
use Common.{ℕ, ◌+◌, ◌-◌, ◌<◌, ◌∙◌, ◌≡◌, ◌≢◌, ◌≤◌, ap, arith, HasNoEventUpTo, int_at, IsScheduleOf}
use Common.{Option, rows_from, Some, states_after, subst, suc, tick_limit, zero}
use Rattle.qss_events.specs.Schedules.{GoesToNextVisit, OnlyDueStatesPass}
use Rattle.qss_events.proofs.Ranges.{near_small}
use Rattle.qss_events.proofs.Skipped.{skip}
use Rattle.qss_events.proofs.Silence.{silence, stands_still, still_near}

pub goes_to_next_visit : GoesToNextVisit
goes_to_next_visit level m tick w line detector due zero s before nothing =
    let e : tick ≡ tick + zero = omega arith in
    (ap (λ t. rows_from level m (m.last - t) t w) e, subst (λ t. IsScheduleOf m t w line detector due) e s)
goes_to_next_visit level m tick w line detector due (suc more) s before nothing =
    let end : ℕ = tick + suc more in
    let later : tick < end = omega arith in
    let in_time : end ≤ tick_limit = omega (arith, before, m.has_units.last_tick) in
    let up_to : HasNoEventUpTo end due = λ place t e. omega (arith, nothing place t e) in
    let quiet = silence m tick w line detector due end s later in_time up_to in
    let count : m.last - tick ≡ suc more + (m.last - end) = omega (arith, before) in (
      ap (λ n. rows_from level m n tick w) count
          ∙ skip level m tick w (suc more) (m.last - end) s.left quiet.0 (λ ticks positive below. quiet.1 ticks positive (omega (arith, below))),
      stands_still m tick w line detector due end (suc more) s later in_time up_to (omega arith),
    )

pub only_due_states_pass : OnlyDueStatesPass
only_due_states_pass m tick w line detector due visit ticks j s some below in_time nothing inside other =
    near_small m j (int_at (states_after m w ticks) j) (int_at w.levels j) inside (s.left.small_levels j inside)
    (still_near m tick w line detector due visit ticks j s some below (omega (arith, in_time, m.has_units.last_tick)) inside
    (λ u e. elim_not (due j) u visit e (nothing j u e) other))
  where
    elim_not : (d : Option ℕ) (u visit : ℕ) → d ≡ Some u → visit ≤ u → d ≢ Some visit → visit < u
    elim_not d u visit e h not =
        let ne : u ≢ visit = λ q. not (e ∙ ap (λ n. Some n) q) in
        omega (arith, h, ne)
