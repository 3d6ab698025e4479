-- Names from outside the lemmas of this crate that several of its proofs cite, passed on from one place.
pub use Rattle.std.proofs.Common.{[], ℕ, ℤ, ◌&&◌, ◌*ℤ◌, ◌*◌, ◌++◌, ◌+ℤ◌, ◌+◌, ◌-ℤ◌, ◌-◌, ◌<ℤ◌, ◌<◌}
pub use Rattle.std.proofs.Common.{◌^◌, ◌∙◌, ◌∷◌, ◌≡◌, ◌≢◌, ◌≤ℤ◌, ◌≤◌, ap, arith, Bool, cond, drop}
pub use Rattle.std.proofs.Common.{false, fold, get_or, inl, inr, length, List, map, pos, refl}
pub use Rattle.std.proofs.Common.{subst, suc, sym, take, true, zero}
pub use Rattle.std.proofs.Math.IntN.{zero-*ℤ}
pub use Rattle.std.proofs.Math.ListN.{length-set}
pub use Rattle.std.proofs.lemmas.Bool.{cases_Bool, cases_lt}
pub use Rattle.std.proofs.lemmas.Bool.Decides.{Decides-int_eq, nat_tests}
pub use Rattle.std.proofs.lemmas.Int.{ints, to_z-of_z}
pub use Rattle.std.proofs.lemmas.List.{get_or-map, get_or-set_other, get_or-set_same, length-map}
pub use Rattle.std.proofs.lemmas.List.Elements.{All-head, All-tail}
pub use Rattle.std.proofs.lemmas.List.FromFn.{fill_by_all, length-map-range_with_len}
pub use Rattle.std.specs.Int.RustNames.{FitsSigned, unsigned_abs}
pub use Rattle.std.specs.List.{flat_map, list_any, range_with_len}
pub use Rattle.std.specs.Option.{option_or}
pub use Rattle.std.specs.Ordering.{int_eq}
pub use Rattle.std.specs.Prelude.{◌==◌, ◌||◌, All, Err, if◌then◌else◌, is_some, MatchBool, nat_lt}
pub use Rattle.std.specs.Prelude.{None, not, Ok, Option, position, Result, slice_set, Some}
pub use Rattle.std.specs.Prelude.{vec_capacity, vec_len}
pub use mir.Syntax.{w128, w64}
pub use Rattle.mu_num.proofs.Integers.{mul-sub, one-mul}
pub use Rattle.mu_num.proofs.SizeTests.{passes-within, within-passes}
pub use Rattle.mu_num.proofs.Sums.{sum_below-same, sum_changed}
pub use Rattle.mu_num.proofs.Tables.{int_at-tabulate, tabulate-int_at, tabulate-same}
pub use Rattle.mu_num.proofs.Tests.{eqb-false, if_cases, int_lt-false, int_lt-true}
pub use Rattle.mu_num.specs.IndexedSums.{abs_of, first_exceeding, int_at, sum_below, tabulate}
pub use Rattle.mu_num.specs.Levels.{level_below}
pub use Rattle.mu_num.specs.Limits.{tick_limit}
pub use Rattle.mu_num.specs.ListedPlaces.{AreRisingBelow, flag_at, is_listed}
pub use Rattle.mu_num.specs.Rounding.{nearest_of}
pub use Rattle.mu_num.specs.Sizes.{exceeds, IsPositiveWithin, IsWithin}
pub use Rattle.mu_num.specs.Ticks.{FirstAfter}
pub use Rattle.qss_machine.proofs.Near.{quantum_positive, unit_fits}
pub use Rattle.qss_machine.specs.Handlers.{assign, assigned_value, conditions, fire_row}
pub use Rattle.qss_machine.specs.Handlers.{firing_flags, HandlerState, run_action, run_clauses}
pub use Rattle.qss_machine.specs.Handlers.{run_first_due, truths}
pub use Rattle.qss_machine.specs.MachineLimits.{IsAction, IsBranch, IsClause}
pub use Rattle.qss_machine.specs.Machines.{discrete_count, level_unit, quantum_of, row_at, slope_at}
pub use Rattle.qss_machine.specs.Machines.{state_count, truth, value_of}
pub use Rattle.qss_machine.specs.Runs.{last_snapshot, level_rows, rows_after, Run, run_from}
pub use Rattle.qss_machine.specs.Runs.{run_rows, run_with, snapshot_rows, tick_rows}
pub use Rattle.qss_machine.specs.Slopes.{coefficient_of, constant_part, mode_coefficient, mode_fits}
pub use Rattle.qss_machine.specs.Slopes.{products_of, slope_of, weight_of}
pub use Rattle.qss_machine.specs.Ticks.{exceeds_row_limits, finish_tick, handlers_at}
pub use Rattle.qss_machine.specs.Ticks.{is_within_quantum, IsNextLevel, IsStep, moved_states}
pub use Rattle.qss_machine.specs.Ticks.{next_levels, Snapshot, snapshot_unless, start_snapshot}
pub use Rattle.qss_machine.specs.Ticks.{step}
pub use Rattle.qss_machine.specs.declared.compiled_machine.Machine.{Machine}
pub use Rattle.qss_machine.specs.declared.machine_parts.Action.{Action}
pub use Rattle.qss_machine.specs.declared.machine_parts.BranchInfo.{BranchInfo}
pub use Rattle.qss_machine.specs.declared.machine_parts.ClauseInfo.{ClauseInfo}
pub use Rattle.qss_machine.specs.declared.machine_parts.Condition.{Condition}
pub use Rattle.qss_machine.specs.declared.machine_parts.Product.{Product}
pub use Rattle.qss_machine.specs.declared.machine_parts.Rel.TheVariants.{Less}
pub use Rattle.qss_machine.specs.declared.machine_parts.Row.{Row}
pub use Rattle.qss_machine.specs.declared.machine_parts.RowKind.{RowKind}
pub use Rattle.qss_machine.specs.declared.machine_parts.SlopeRow.{SlopeRow}
pub use Rattle.qss_machine.specs.declared.machine_parts.StateInfo.{StateInfo}
pub use Rattle.qss_quant.specs.IntegratorLines.{IsAway, IsLineWithinQuantum, Line, state_at}
pub use Rattle.qss_quant.specs.LevelRules.{IsAnswer, level_by}
pub use Rattle.qss_quant.specs.declared.quantizer.Rule.{Rule}
pub use Rattle.qss_rows.specs.Filters.{passes}
pub use Rattle.qss_rows.specs.RowTexts.{HasVariable, line_of}
pub use Rattle.qss_rows.specs.Simulations.{text_in}
pub use Rattle.qss_events.specs.AllowedLevels.{IsAllowedLevel}
pub use Rattle.qss_events.specs.EventFreeRuns.{AreEventFree, IsEventFreeExecution}
pub use Rattle.qss_events.specs.EventFreeTicks.{IsEventFree, MayFollowTick, NoneRises, rows_from}
pub use Rattle.qss_events.specs.EventFreeTicks.{snapshot_after, states_after}
pub use Rattle.qss_events.specs.Events.{IsNext, rows_left, unless_ended}
pub use Rattle.qss_events.specs.RemainingRows.{EndsFrom, first_view, remaining_rows, remaining_run}
pub use Rattle.qss_events.specs.RemainingRows.{row_lines}
pub use Rattle.qss_events.specs.RunTexts.{run_by_rule}
pub use Rattle.qss_events.specs.RunViews.{RunView}
pub use Rattle.qss_events.specs.Schedules.{became_true, condition_at, HasNoEventUpTo, IsScheduleOf}
pub use Rattle.qss_events.specs.Schedules.{no_row}
pub use Rattle.qss_events.specs.declared.event_outcome.Outcome.{Outcome}
pub use Rattle.qss_events.specs.declared.event_outcome.Outcome.TheVariants.{Done, Events, Over}
