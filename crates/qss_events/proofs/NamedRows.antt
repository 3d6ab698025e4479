-- Under a rule with a name the rows of a call are the first of those that were to come.
use Rattle.qss_events.proofs.Common
use Common.{[], ℕ, ℤ, ◌++◌, ◌+◌, ◌-◌, ◌∙◌, ◌∷◌, ◌≡◌, ◌≤◌, ap, arith, Done, Err, Events}
use Common.{IsAllowedLevel, IsEventFreeExecution, IsNext, IsStep, last_snapshot, length, level_by}
use Common.{List, Machine, None, Ok, Option, Outcome, Over, pos, Row, rows_from, rows_left, Rule}
use Common.{RunView, Snapshot, snapshot_rows, Some, step, sym, tick_rows, unless_ended}
use Rattle.std.proofs.Common.{append-nil}
use Rattle.qss_events.proofs.Silences.{silent_rows, named_step}
use Rattle.qss_events.proofs.Skipped.{rows_of_visits}
use Rattle.qss_machine.specs.declared.machine_parts.RowKind.TheVariants as kind

abbrev pub at : Machine → ℕ → Snapshot → List Row → Option Outcome → RunView
at m tick w rows end = record { machine = m; tick = tick; snapshot = w; rows = rows; end = end }

module _ (rule : Rule) (m : Machine) (from : ℕ) (w : Snapshot) (silent : List Snapshot) (leads : IsEventFreeExecution (IsAllowedLevel (Some rule)) m from w silent) where
  level : ℤ → ℤ → ℤ → ℤ
  level = level_by rule

  -- the rows from the tick after event-free ones on
  skipped : (rest : ℕ) → length silent + rest ≡ m.last - from → rows_from (level_by rule) m (m.last - from) from w ≡ rows_from (level_by rule) m rest (from + length silent) (last_snapshot w silent)
  skipped rest e = ap (λ n. rows_from (level_by rule) m n from w) (sym e) ∙ silent_rows rule m from w silent rest leads

  event_rows : (tick : ℕ) (next : Snapshot) → tick ≡ from + length silent + 1 → tick ≤ m.last → IsStep (IsAllowedLevel (Some rule)) m tick (last_snapshot w silent) (Ok next) →
      rows_from (level_by rule) m (m.last - from) from w ≡ tick_rows m tick (last_snapshot w silent) next ++ rows_from (level_by rule) m (m.last - tick) tick next
  event_rows tick next is in_time stepped =
      let e : length silent + ((m.last - tick) + 1) ≡ m.last - from = omega (arith, is, in_time) in
      let s : step (level_by rule) m (from + length silent + 1) (last_snapshot w silent) ≡ Ok next =
      ap (λ t. step (level_by rule) m t (last_snapshot w silent)) (sym is) ∙ sym (named_step rule m tick (last_snapshot w silent) (Ok next) stepped) in
      skipped ((m.last - tick) + 1) e
      ∙ rows_of_visits.goes_on (level_by rule) m (m.last - tick) (from + length silent) (last_snapshot w silent) next s
      ∙ ap (λ t. tick_rows m t (last_snapshot w silent) next ++ rows_from (level_by rule) m (m.last - tick) t next) (sym is)

  over_rows : (tick var : ℕ) → tick ≡ from + length silent + 1 → tick ≤ m.last → IsStep (IsAllowedLevel (Some rule)) m tick (last_snapshot w silent) (Err var) →
      rows_from (level_by rule) m (m.last - from) from w ≡ record { tick = tick; kind = kind.Overflow; var = var; level = pos 0; state = pos 0 } ∷ []
  over_rows tick var is in_time stepped =
      let e : length silent + ((m.last - tick) + 1) ≡ m.last - from = omega (arith, is, in_time) in
      let s : step (level_by rule) m (from + length silent + 1) (last_snapshot w silent) ≡ Err var =
      ap (λ t. step (level_by rule) m t (last_snapshot w silent)) (sym is) ∙ sym (named_step rule m tick (last_snapshot w silent) (Err var) stepped) in
      skipped ((m.last - tick) + 1) e
      ∙ rows_of_visits.overflows (level_by rule) m (m.last - tick) (from + length silent) (last_snapshot w silent) var s
      ∙ ap (λ (t : ℕ). record { tick = t; kind = kind.Overflow; var = var; level = pos 0; state = pos 0 } ∷ []) (sym is)

  done_rows : from + length silent ≡ m.last → rows_from (level_by rule) m (m.last - from) from w ≡ snapshot_rows kind.End m.last (last_snapshot w silent)
  done_rows is =
      let e : length silent + 0 ≡ m.last - from = omega (arith, is) in
      skipped 0 e ∙ ap (λ t. snapshot_rows kind.End t (last_snapshot w silent)) is

pub named_rows : (rule : Rule) (m : Machine) (from : ℕ) (w : Snapshot) (r0 : List Row) (outcome : Outcome) (to : ℕ) (next : Snapshot) (r1 : List Row) (end : Option Outcome) →
    IsNext (IsAllowedLevel (Some rule)) (at m from w r0 None) (at m to next r1 end) outcome →
    rows_left (level_by rule) (at m from w r0 None) ≡ r1 ++ rows_left (level_by rule) (at m to next r1 end)
named_rows rule m from w r0 (Events tick) to next r1 end n =
    let is = n.1 in
    event_rows rule m from w n.0 is.leads tick next is.is_next is.in_time is.is_step
    ∙ ap (λ r. r ++ rows_from (level_by rule) m (m.last - tick) tick next) (sym is.own_rows)
    ∙ ap (λ t. r1 ++ rows_from (level_by rule) m (m.last - t) t next) (sym is.here)
    ∙ ap (λ (e : Option Outcome). r1 ++ unless_ended e (rows_from (level_by rule) m (m.last - to) to next)) (sym n.2)
named_rows rule m from w r0 Done to next r1 end n =
    let is = n.1 in
    done_rows rule m from w n.0 is.leads is.at_last
    ∙ ap (λ v. snapshot_rows kind.End m.last v) (sym is.snapshot)
    ∙ sym is.own_rows
    ∙ sym (append-nil r1)
    ∙ ap (λ (e : Option Outcome). r1 ++ unless_ended e (rows_from (level_by rule) m (m.last - to) to next)) (sym n.2)
named_rows rule m from w r0 (Over tick var) to next r1 end n =
    let is = n.1 in
    over_rows rule m from w n.0 is.leads tick var is.is_next is.in_time is.is_step
    ∙ sym is.own_rows
    ∙ sym (append-nil r1)
    ∙ ap (λ (e : Option Outcome). r1 ++ unless_ended e (rows_from (level_by rule) m (m.last - to) to next)) (sym n.2)
