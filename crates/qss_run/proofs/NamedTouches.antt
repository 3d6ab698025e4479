-- Under a rule with a name the touches of a call are the first of those that were to come.
use Rattle.qss_run.proofs.Common
use Common.{[], ℕ, ℤ, ◌++◌, ◌+◌, ◌-◌, ◌∙◌, ◌∷◌, ◌≡◌, ◌≤◌, ap, arith, Done, Err, Events}
use Common.{IsAllowedLevel, IsNext, IsStep, last_snapshot, length, level_by, List, Machine}
use Common.{MovesTouched, None, Ok, Option, Outcome, Over, Result, Row, Rule, Snapshot, Some}
use Common.{state_count, suc, sym, touches_after, touches_at, touches_left}
use Rattle.std.proofs.Common.{add-one}
use Rattle.qss_machine.specs.Runs.{run_from, run_with}
use Rattle.qss_machine.specs.Ticks.{step}
use Rattle.qss_events.specs.EventFreeRuns.{IsEventFreeExecution}
use Rattle.qss_run.specs.TouchCounts.{touches_from, none_if_ended}
use Rattle.qss_events.proofs.NamedRows.{at}
use Rattle.qss_events.proofs.Silences.{named_step}
use Rattle.qss_run.proofs.Spans.{touches_push, touches_over}

module _ (level : ℤ → ℤ → ℤ → ℤ) (m : Machine) (count tick : ℕ) (w : Snapshot) where
  -- the touches of a result, and then of the ticks after it
  abbrev after_result : Result Snapshot ℕ → ℕ
  after_result result = let run = run_with result (λ next. run_from level m count (tick + 1) next) in touches_after m tick w run.snapshots run.overflow

  -- one tick, and then the others
  one_tick : (next : Snapshot) → step level m (tick + 1) w ≡ Ok next → touches_from level m (count + 1) tick w ≡ touches_at m (tick + 1) w (Ok next) + touches_from level m count (tick + 1) next
  one_tick next e = ap (λ (n : ℕ). touches_from level m n tick w) (add-one count) ∙ ap after_result e

  one_overflow : (var : ℕ) → step level m (tick + 1) w ≡ Err var → touches_from level m (count + 1) tick w ≡ state_count m
  one_overflow var e = ap (λ (n : ℕ). touches_from level m n tick w) (add-one count) ∙ ap after_result e

-- event-free ticks, and then the others
silent_touches : (rule : Rule) (m : Machine) (tick : ℕ) (w : Snapshot) (silent : List Snapshot) (rest : ℕ) → IsEventFreeExecution (IsAllowedLevel (Some rule)) m tick w silent →
    touches_from (level_by rule) m (length silent + rest) tick w ≡ touches_after m tick w silent None + touches_from (level_by rule) m rest (tick + length silent) (last_snapshot w silent)
silent_touches rule m tick w [] rest leads =
    let e : 0 + rest ≡ rest = omega arith in
    let f : tick + 0 ≡ tick = omega arith in
    omega (arith, ap (λ n. touches_from (level_by rule) m n tick w) e, ap (λ t. touches_from (level_by rule) m rest t w) f)
silent_touches rule m tick w (next ∷ silent) rest leads =
    let e : suc (length silent) + rest ≡ (length silent + rest) + 1 = omega arith in
    let f : (tick + 1) + length silent ≡ tick + suc (length silent) = omega arith in
    omega (
      arith,
      ap (λ n. touches_from (level_by rule) m n tick w) e,
      one_tick (level_by rule) m (length silent + rest) tick w next (sym (named_step rule m (tick + 1) w (Ok next) leads.0)),
      silent_touches rule m (tick + 1) next silent rest leads.2,
      ap (λ t. touches_from (level_by rule) m rest t (last_snapshot next silent)) f,
    )

module _ (rule : Rule) (m : Machine) (from : ℕ) (w : Snapshot) (silent : List Snapshot) (leads : IsEventFreeExecution (IsAllowedLevel (Some rule)) m from w silent) where
  skipped : (rest : ℕ) → length silent + rest ≡ m.last - from →
      touches_from (level_by rule) m (m.last - from) from w ≡ touches_after m from w silent None + touches_from (level_by rule) m rest (from + length silent) (last_snapshot w silent)
  skipped rest e = ap (λ n. touches_from (level_by rule) m n from w) (sym e) ∙ silent_touches rule m from w silent rest leads

  event_touches : (tick : ℕ) (next : Snapshot) → tick ≡ from + length silent + 1 → tick ≤ m.last → IsStep (IsAllowedLevel (Some rule)) m tick (last_snapshot w silent) (Ok next) →
      touches_from (level_by rule) m (m.last - from) from w ≡ touches_after m from w (silent ++ next ∷ []) None + touches_from (level_by rule) m (m.last - tick) tick next
  event_touches tick next is in_time stepped =
      let e : length silent + ((m.last - tick) + 1) ≡ m.last - from = omega (arith, is, in_time) in
      let s : step (level_by rule) m (from + length silent + 1) (last_snapshot w silent) ≡ Ok next = ap (λ t. step (level_by rule) m t (last_snapshot w silent)) (sym is) ∙ sym (named_step rule m tick (last_snapshot w silent) (Ok next) stepped) in
      omega (
        arith,
        skipped ((m.last - tick) + 1) e,
        one_tick (level_by rule) m (m.last - tick) (from + length silent) (last_snapshot w silent) next s,
        ap (λ t. touches_at m t (last_snapshot w silent) (Ok next)) is,
        ap (λ t. touches_from (level_by rule) m (m.last - tick) t next) is,
        touches_push m from tick w silent next is,
      )

  over_touches : (tick var : ℕ) → tick ≡ from + length silent + 1 → tick ≤ m.last → IsStep (IsAllowedLevel (Some rule)) m tick (last_snapshot w silent) (Err var) →
      touches_from (level_by rule) m (m.last - from) from w ≡ touches_after m from w silent (Some var)
  over_touches tick var is in_time stepped =
      let e : length silent + ((m.last - tick) + 1) ≡ m.last - from = omega (arith, is, in_time) in
      let s : step (level_by rule) m (from + length silent + 1) (last_snapshot w silent) ≡ Err var = ap (λ t. step (level_by rule) m t (last_snapshot w silent)) (sym is) ∙ sym (named_step rule m tick (last_snapshot w silent) (Err var) stepped) in
      omega (
        arith,
        skipped ((m.last - tick) + 1) e,
        one_overflow (level_by rule) m (m.last - tick) (from + length silent) (last_snapshot w silent) var s,
        touches_over m from tick w silent var,
      )

pub named_touches : (rule : Rule) (m : Machine) (from : ℕ) (w : Snapshot) (r0 : List Row) (outcome : Outcome) (to : ℕ) (next : Snapshot) (r1 : List Row) (end : Option Outcome) (moves : ℕ) →
    IsNext (IsAllowedLevel (Some rule)) (at m from w r0 None) (at m to next r1 end) outcome → MovesTouched (IsAllowedLevel (Some rule)) (at m from w r0 None) (at m to next r1 end) outcome moves →
    moves + touches_left (level_by rule) (at m to next r1 end) ≤ touches_left (level_by rule) (at m from w r0 None)
named_touches rule m from w r0 (Events tick) to next r1 end moves n few =
    let left : touches_left (level_by rule) (at m to next r1 end) ≡ touches_from (level_by rule) m (m.last - tick) tick next = ap (λ (e : Option Outcome). none_if_ended e (touches_from (level_by rule) m (m.last - to) to next)) n.2 ∙ ap (λ t. touches_from (level_by rule) m (m.last - t) t next) n.1.here in
    omega (arith, left, few.2, event_touches rule m from w few.0 few.1.leads tick next few.1.is_next n.1.in_time few.1.is_step)
named_touches rule m from w r0 Done to next r1 end moves n few =
    let left : touches_left (level_by rule) (at m to next r1 end) ≡ 0 = ap (λ (e : Option Outcome). none_if_ended e (touches_from (level_by rule) m (m.last - to) to next)) n.2 in
    omega (arith, left, few.2, skipped rule m from w few.0 few.1.leads 0 (omega (arith, few.1.as_many, n.1.here)))
named_touches rule m from w r0 (Over tick var) to next r1 end moves n few =
    let left : touches_left (level_by rule) (at m to next r1 end) ≡ 0 = ap (λ (e : Option Outcome). none_if_ended e (touches_from (level_by rule) m (m.last - to) to next)) n.2 in
    omega (arith, left, few.2, over_touches rule m from w few.0 few.1.leads tick var few.1.is_next n.1.in_time few.1.is_step)
