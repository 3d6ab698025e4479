-- Definitions of other crates that clauses of this crate cite. Declares nothing.
pub use Rattle.std.specs.Io.KnownBytes.{Appends}
pub use Rattle.mu_io.specs.Sinks.{AppendsPrefix, EndsByFault}
pub use Rattle.mu_num.specs.IndexedSums.{first_exceeding, int_at, tabulate}
pub use Rattle.mu_num.specs.Levels.{level_below}
pub use Rattle.mu_num.specs.Limits.{IsState, bits_of_state, condition_limit, tick_limit, variable_limit}
pub use Rattle.mu_num.specs.ListedPlaces.{AreRisingBelow, flag_at}
pub use Rattle.mu_num.specs.Writes.{IsWritten}
pub use Rattle.qss_components.specs.Agreement.{AreNext, HasEach, Values}
pub use Rattle.qss_components.specs.ComponentModels.{crossing_of, function_state_of}
pub use Rattle.qss_components.specs.ComponentPlaces.{EachAt}
pub use Rattle.qss_components.specs.ComponentTheorems.{values_after_row, values_after_rows}
pub use Rattle.qss_components.specs.Crossings.{AreParts, IsCrossingNext, IsInput, IsRead, StaysIfDiscrete, crossing_after_message, form_at, input_at, speed_by}
pub use Rattle.qss_components.specs.FunctionInputs.{AreInputs, input_discretes, input_levels}
pub use Rattle.qss_components.specs.Functions.{function_after_message}
pub use Rattle.qss_components.specs.Integrators.{IsLineNext}
pub use Rattle.qss_components.specs.Messages.{IsMessage, IsTimely}
pub use Rattle.qss_components.specs.declared.atomic.Message.TheVariants.{Discrete, Level, Slope, State, Truth}
pub use Rattle.qss_components.specs.declared.crossing_model.CrossingModel.{CrossingModel}
pub use Rattle.qss_cross.specs.Crossing.{holds_at}
pub use Rattle.qss_events.specs.AllowedLevels.{IsAllowedLevel}
pub use Rattle.qss_events.specs.EventFreeRuns.{AreEventFree, IsVisit}
pub use Rattle.qss_events.specs.Events.{IsNext, rows_left}
pub use Rattle.qss_events.specs.Outcomes.{end_of, tick_of}
pub use Rattle.qss_events.specs.RemainingRows.{EndsFrom, outcome_of, remaining_rows, remaining_run, row_lines}
pub use Rattle.qss_events.specs.RunTexts.{IsRunCutShort, IsRunResult, run_by_rule, run_text}
pub use Rattle.qss_events.specs.Schedules.{HasNoEventBefore, no_line}
pub use Rattle.qss_events.specs.declared.event_outcome.Outcome.{Outcome}
pub use Rattle.qss_hand.specs.Rooms.{clause_room}
pub use Rattle.qss_hand.specs.Works.{AreValuesOf, branch_at, clause_at, handling_of, overflow_of, row_room, values_after}
pub use Rattle.qss_machine.specs.Firing.{first_place}
pub use Rattle.qss_machine.specs.Handlers.{conditions, firing_flags, run_clauses, run_first_due}
pub use Rattle.qss_machine.specs.MachineLimits.{IsForm}
pub use Rattle.qss_machine.specs.Machines.{compares, discrete_count, level_unit, slope_at, start_discretes, start_states, state_count}
pub use Rattle.qss_machine.specs.Readers.{uses_of}
pub use Rattle.qss_machine.specs.Runs.{discrete_rows, last_snapshot, snapshot_rows, state_rows, tick_rows}
pub use Rattle.qss_machine.specs.Ticks.{IsStep, Snapshot, handlers_at, snapshot_unless, start_snapshot}
pub use Rattle.qss_quant.specs.IntegratorLines.{state_at}
pub use Rattle.qss_quant.specs.LevelRules.{level_by}
pub use Rattle.qss_quant.specs.declared.quantizer.Rule.{Rule}
pub use Rattle.qss_quant.specs.declared.quantizer.Rule.TheVariants.{Floor}
pub use Rattle.qss_rows.specs.RowTexts.{HasVariable}
pub use Rattle.qss_rows.specs.Simulations.{is_whole}
