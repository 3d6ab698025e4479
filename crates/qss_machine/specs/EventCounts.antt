-- The number of event steps of a run and the number of states that are affected by them.
use Rattle.std.specs.Prelude.{ℕ, ◌+◌, ◌-◌, Bool, true, false, not, ◌&&◌, ◌||◌, List, [], ◌∷◌, Option, Some, None, nat_lt, ◌==◌, count_by, if◌then◌else◌}
use Rattle.std.specs.List.{list_any, range_with_len}
use Rattle.std.specs.Ordering.{int_eq}
use Rattle.qss_machine.specs.declared.machine_parts.Row.{Row}
use Rattle.qss_machine.specs.declared.machine_parts.RowKind.{RowKind}
use Rattle.qss_machine.specs.declared.machine_parts.RowKind.TheVariants as kind
use Rattle.qss_machine.specs.declared.machine_parts.SlopeRow.{SlopeRow}
use Rattle.qss_machine.specs.declared.compiled_machine.Machine.{Machine}
use Rattle.mu_num.specs.IndexedSums.{int_at}
use Rattle.qss_machine.specs.Machines.{state_count, discrete_count, row_at}
use Rattle.qss_machine.specs.Ticks.{Snapshot, start_snapshot, handlers_at}
use Rattle.qss_machine.specs.Runs.{Run, tick_rows}
use Rattle.qss_machine.specs.Readers.{row_reads}

-- whether two lists of truth values are equal
abbrev pub are_same_truths : List Bool → List Bool → Bool
are_same_truths [] [] = true
are_same_truths [] (b ∷ bs) = false
are_same_truths (a ∷ as') [] = false
are_same_truths (true ∷ as') (b ∷ bs) = b && are_same_truths as' bs
are_same_truths (false ∷ as') (b ∷ bs) = not b && are_same_truths as' bs

-- whether there are no rows
abbrev pub is_empty : List Row → Bool
is_empty [] = true
is_empty (row ∷ rows) = false

-- A tick is visited (an event step) if it has rows, if a condition's truth value on arrival differs
-- from its value after the previous handlers, or if it is the last tick.
abbrev pub is_visited : Machine → ℕ → Snapshot → Snapshot → Bool
is_visited m tick w next = not (is_empty (tick_rows m tick w next)) || not (are_same_truths next.at_arrival w.after_handlers) || tick == m.last

-- the number of visited ticks after this one; the tick of an overflow is visited
abbrev pub visits_after : Machine → ℕ → Snapshot → List Snapshot → Option ℕ → ℕ
visits_after m tick w [] None = 0
visits_after m tick w [] (Some var) = 1
visits_after m tick w (next ∷ snapshots) overflow =
    (if is_visited m (tick + 1) w next then 1 else 0) + visits_after m (tick + 1) next snapshots overflow

-- whether a level or a discrete value changed in this step
abbrev pub has_changed : Machine → Snapshot → Snapshot → ℕ → Bool
has_changed m w next var =
    if nat_lt var (state_count m) then not (int_eq (int_at w.levels var) (int_at next.levels var))
    else not (int_eq (int_at w.discretes (var - state_count m)) (int_at next.discretes (var - state_count m)))

-- whether a row's kind is Reinit
abbrev pub is_reinit : RowKind → Bool
is_reinit kind.Start = false
is_reinit (kind.When clause branch) = false
is_reinit kind.Set = false
is_reinit kind.Reinit = true
is_reinit kind.Level = false
is_reinit kind.End = false
is_reinit kind.Overflow = false

-- whether a right-hand side reads a level or a discrete value that changed in this step
abbrev pub reads_change : Machine → Snapshot → Snapshot → SlopeRow → Bool
reads_change m w next row =
    list_any (λ var. has_changed m w next var && row_reads var row) (range_with_len 0 (state_count m + discrete_count m))

-- A state is touched (affected) if its level changed, if it was reinitialized, if its right-hand
-- side reads a change, or at the last tick.
abbrev pub is_touched : Machine → ℕ → Snapshot → Snapshot → ℕ → Bool
is_touched m tick w next j =
    has_changed m w next j
    || list_any (λ row. is_reinit row.kind && row.var == j) (handlers_at m tick w).rows
    || reads_change m w next (row_at m j)
    || tick == m.last

-- the number of touched states, summed over the ticks after this one; an overflow touches all
-- states
abbrev pub touches_after : Machine → ℕ → Snapshot → List Snapshot → Option ℕ → ℕ
touches_after m tick w [] None = 0
touches_after m tick w [] (Some var) = state_count m
touches_after m tick w (next ∷ snapshots) overflow =
    count_by (is_touched m (tick + 1) w next) (range_with_len 0 (state_count m)) + touches_after m (tick + 1) next snapshots overflow

-- the number of visited ticks of a run
abbrev pub visits : Machine → Run → ℕ
visits m run = visits_after m 0 (start_snapshot m) run.snapshots run.overflow

-- the number of touched states, summed over all ticks of a run
abbrev pub touches : Machine → Run → ℕ
touches m run = touches_after m 0 (start_snapshot m) run.snapshots run.overflow
