-- The names of other crates that the clauses of this crate cite, passed on from one place. Declares nothing.
pub use Rattle.std.specs.Io.KnownBytes.{Appends}
pub use Rattle.std.specs.List.{filter, list_any}
pub use Rattle.mu_io.specs.Sinks.{AppendsPrefix, EndsByFault}
pub use Rattle.mu_num.specs.IndexedSums.{int_at, tabulate}
pub use Rattle.mu_num.specs.Levels.{level_below}
pub use Rattle.mu_num.specs.Limits.{AreLevels, AreSlopes, AreStates, IsLevel, IsSlope, IsState, condition_limit, tick_limit, variable_limit}
pub use Rattle.mu_num.specs.ListedPlaces.{AreRisingBelow, flag_at, is_listed}
pub use Rattle.mu_num.specs.Writes.{IsWritten}
pub use Rattle.qss_cross.specs.Crossing.{IsSmall, holds_at, value_at}
pub use Rattle.qss_events.specs.AllowedLevels.{IsAllowedLevel}
pub use Rattle.qss_events.specs.EventFreeRuns.{AreEventFree, IsVisit}
pub use Rattle.qss_events.specs.Events.{IsNext, rows_left}
pub use Rattle.qss_events.specs.HandlerRows.{assigned_of, is_set, reinitialized_of}
pub use Rattle.qss_events.specs.Outcomes.{end_of, tick_of}
pub use Rattle.qss_events.specs.RemainingRows.{EndsFrom, first_view, outcome_of, remaining_rows, remaining_run, row_lines}
pub use Rattle.qss_events.specs.RunTexts.{IsRunCutShort, IsRunResult, IsRunWritten, run_by_rule, run_text}
pub use Rattle.qss_events.specs.RunViews.{RunView}
pub use Rattle.qss_events.specs.Schedules.{IsDue, became_true, condition_at}
pub use Rattle.qss_events.specs.declared.event_outcome.Outcome.{Outcome}
pub use Rattle.qss_hand.specs.Works.{AreValuesOf, branch_at, clause_at, handling_of, overflow_of, row_room, values_after}
pub use Rattle.qss_machine.specs.EventCounts.{is_reinit, is_touched}
pub use Rattle.qss_machine.specs.Handlers.{conditions, firing_flags, run_clauses, truths}
pub use Rattle.qss_machine.specs.MachineLimits.{IsBounded, form_of}
pub use Rattle.qss_machine.specs.Machines.{discrete_count, level_unit, quantum_of, slope_at, speed_of, start_discretes, start_states, state_count, truth, value_of}
pub use Rattle.qss_machine.specs.Readers.{has_entry, uses_of}
pub use Rattle.qss_machine.specs.Runs.{discrete_rows, last_snapshot, snapshot_rows, state_rows, tick_rows}
pub use Rattle.qss_machine.specs.Ticks.{Snapshot, exceeds_row_limits, start_snapshot}
pub use Rattle.qss_machine.specs.declared.machine_parts.Rel.TheVariants.{Less}
pub use Rattle.qss_quant.specs.IntegratorLines.{IsLineWithinQuantum, state_at}
pub use Rattle.qss_quant.specs.LevelRules.{level_by}
pub use Rattle.qss_quant.specs.declared.quantizer.Rule.{Rule}
pub use Rattle.qss_quant.specs.declared.quantizer.Rule.TheVariants.{Floor}
pub use Rattle.qss_rows.specs.RowTexts.{HasVariable}
pub use Rattle.qss_rows.specs.Simulations.{is_whole}
pub use Rattle.qss_sched.specs.Ranks.{HasNone, due_at}
pub use Rattle.qss_states.specs.EventContexts.{HasOneEach}
pub use Rattle.qss_states.specs.LineReplacements.{goes_from, replaced_lines_from}
pub use Rattle.qss_states.specs.StateLines.{AreLinesAt, CanArriveWithin, HaveArrivedWithin, MayArrive, line_at, states_at, states_with}
pub use Rattle.qss_states.specs.Variables.{AreDiscretes, AreSlopesOf, AreVariablesOf, AreWithin}
