-- The trace of a machine's second-order run under the nearest rule.
use Rattle.std.specs.Prelude.{◌≡◌, ℕ, ◌<◌, ◌||◌, ◌⊎◌, Bool, List, ◌∷◌, length, take, All, slice_index_or, ℤ}
use Rattle.std.specs.Prelude.{position, Option, Some, None}
use Rattle.std.specs.List.{range_with_len}
use Rattle.mu_num.specs.IndexedSums.{int_at}
use Rattle.mu_num.specs.Sizes.{exceeds}
use Rattle.qss_machine.specs.declared.compiled_machine.Machine.{Machine}
use Rattle.qss_order2.specs.SecondSteps.{SecondSnapshot, second_scale}
use Rattle.qss_order2.specs.SecondRunLaws.{states_from2, levels_from2}
use Rattle.qss_trace.specs.declared.trace.Trace.{Trace}
use Rattle.qss_own_traces.specs.declared.own_trace_draft.TraceOver.{TraceOver}
use Rattle.qss_own_traces.specs.declared.own_trace_draft.TraceOver.TheVariants.{Over, Memory}
use Rattle.qss_own_traces.specs.Traces.{IsTraceOf}
use Rattle.qss_order2.specs.SecondRunTexts.{second_order_run}

-- its snapshots from tick 0 on
abbrev pub second_snapshots : Machine → List SecondSnapshot
second_snapshots m = (second_order_run m).start ∷ (second_order_run m).snapshots

-- whether a state or its level exceeds the range of traces
abbrev pub is_wide_at : List ℤ → List ℤ → ℕ → Bool
is_wide_at states levels j = exceeds 108 (int_at states j) || exceeds 64 (int_at levels j)

abbrev pub is_wide : SecondSnapshot → ℕ → Bool
is_wide w j = is_wide_at w.states w.levels j

-- the least state that does, itself or by its level
abbrev pub first_wide : SecondSnapshot → Option ℕ
first_wide w = position (is_wide w) (range_with_len 0 (length w.states))

-- a snapshot within the range of traces
abbrev pub IsNarrow : SecondSnapshot → Type 0
IsNarrow w = first_wide w ≡ None

-- the run reaches the last tick, and the trace has its states and levels from tick 0 on, in units
-- 64 times finer than the machine's
pub record IsSecondTrace (m : Machine) (t : Trace) : Type 0 where
  pub reaches_end : (second_order_run m).overflow ≡ None
  pub is_trace : IsTraceOf m second_scale (states_from2 (second_order_run m).start (second_order_run m).snapshots) (levels_from2 (second_order_run m).start (second_order_run m).snapshots) t

-- the run overflows at the tick by this state, and all snapshots before are within the range of
-- traces
pub record IsOverflow (m : Machine) (tick var : ℕ) : Type 0 where
  pub overflow : (second_order_run m).overflow ≡ Some (record { tick = tick; var = var })
  pub before : All IsNarrow (second_snapshots m)

-- the snapshot at the tick is the first that exceeds the range of traces, and `var` is its least
-- state that does
pub record IsTooWide (m : Machine) (tick var : ℕ) : Type 0 where
  pub inside : tick < length (second_snapshots m)
  pub least : first_wide (slice_index_or (second_snapshots m) tick (second_order_run m).start) ≡ Some var
  pub before : All IsNarrow (take tick (second_snapshots m))

-- the reason why the run has no trace
abbrev pub IsSecondRefusal : Machine → TraceOver → Type 0
IsSecondRefusal m (Over tick var) = IsOverflow m tick var ⊎ IsTooWide m tick var
IsSecondRefusal m Memory = Unit {0}
