-- Names from outside the lemmas of this crate that several of its proofs cite, passed on from one place.
pub use Rattle.std.proofs.Common.{[], ℕ, ℤ, ◌&&◌, ◌*ℤ◌, ◌*◌, ◌++◌, ◌+ℤ◌, ◌+◌, ◌-◌, ◌<◌, ◌==◌, ◌^◌}
pub use Rattle.std.proofs.Common.{◌||◌, ◌∙◌, ◌∷◌, ◌≡◌, ◌≢◌, ◌≤◌, ◌⊎◌, ap, append-nil, arith, Bool}
pub use Rattle.std.proofs.Common.{cond, drop, eqb, false, flat_map, fold, get_or, Global, inl, inr}
pub use Rattle.std.proofs.Common.{length, List, map, of_z, pos, refl, rules, set, subst, suc, sym}
pub use Rattle.std.proofs.Common.{take, to_z, true, Vec, zero}
pub use Rattle.std.proofs.Math.IntN.{zero-*ℤ}
pub use Rattle.std.proofs.lemmas.Bool.{both_ways, cases_Bool, cases_eq, cases_lt, eqb-false}
pub use Rattle.std.proofs.lemmas.Bool.{eqb-true, false_from_ne_true, or_cases, or_left, or_parts}
pub use Rattle.std.proofs.lemmas.Bool.{or_right}
pub use Rattle.std.proofs.lemmas.Bool.Decides.{nat_tests}
pub use Rattle.std.proofs.lemmas.Int.{ints, to_z-of_z}
pub use Rattle.std.proofs.lemmas.List.{get_or-append_right, get_or-drop, get_or-map}
pub use Rattle.std.proofs.lemmas.List.{get_or-set_other, get_or-set_same, get_or-take}
pub use Rattle.std.proofs.lemmas.List.{get_or_append_left, get_or_default, get_or_past}
pub use Rattle.std.proofs.lemmas.List.{length-append, length-map, length-set, take_all, take_more}
pub use Rattle.std.proofs.lemmas.List.{with_items_is}
pub use Rattle.std.proofs.lemmas.List.Elements.{All-append, All-cons, All-nil}
pub use Rattle.std.proofs.lemmas.List.Folds.{Any-from_list_any, list_any-append, list_any_at}
pub use Rattle.std.proofs.lemmas.List.Folds.{list_any_more}
pub use Rattle.std.proofs.lemmas.List.FromFn.{fill_by_all, get_or-map-range_with_len}
pub use Rattle.std.proofs.lemmas.List.FromFn.{length-map-range_with_len, map-range_with_len_more}
pub use Rattle.std.proofs.lemmas.List.Sums.{sum_by-cons, sum_by_more}
pub use Rattle.std.specs.Int.RustNames.{FitsSigned, unsigned_abs}
pub use Rattle.std.specs.List.{filter, list_any, range_with_len, sum_by}
pub use Rattle.std.specs.Option.{option_or}
pub use Rattle.std.specs.Prelude.{All, Err, if◌then◌else◌, is_some, None, not, Ok, Option, position}
pub use Rattle.std.specs.Prelude.{Result, Some, vec_capacity, vec_len}
pub use Rattle.std.specs.Vec.{with_items}
pub use mir.Syntax.{w128, w64}
pub use Rattle.mu_num.proofs.InPlace.{same_length}
pub use Rattle.mu_num.proofs.Tables.{int_at-tabulate, tabulate-same}
pub use Rattle.mu_num.proofs.Tests.{eqb-yes, if_cases}
pub use Rattle.mu_num.proofs.Writes.{among_at, index_of, written_all}
pub use Rattle.mu_num.specs.IndexedSums.{first_exceeding, int_at, sum_over, tabulate}
pub use Rattle.mu_num.specs.Limits.{tick_limit}
pub use Rattle.mu_num.specs.ListedPlaces.{AreRisingBelow, DiffersOnlyAt, flag_at, is_listed}
pub use Rattle.mu_num.specs.Sizes.{exceeds, IsWithin}
pub use Rattle.mu_num.specs.Ticks.{FirstAfter}
pub use Rattle.mu_num.specs.Writes.{IsWritten}
pub use Rattle.qss_sched.specs.PlaceSets.{PlaceList}
pub use Rattle.qss_sched.specs.Ranks.{due_at}
pub use Rattle.qss_machine.proofs.Among.{lists_more}
pub use Rattle.qss_machine.proofs.KeptReaders.{conditions_below, conditions_kept, conditions_many}
pub use Rattle.qss_machine.proofs.KeptReaders.{rows_below, rows_kept, rows_many}
pub use Rattle.qss_machine.proofs.Loops.{product_bound}
pub use Rattle.qss_machine.proofs.StartValues.{discretes_start, states_start}
pub use Rattle.qss_machine.proofs.SumLaws.{weighted_sum-entries}
pub use Rattle.qss_machine.specs.EventCounts.{is_reinit, touches_after}
pub use Rattle.qss_machine.specs.Firing.{first_place}
pub use Rattle.qss_machine.specs.Handlers.{assign, assigned_value, conditions, fire_row}
pub use Rattle.qss_machine.specs.Handlers.{firing_flags, HandlerState, run_action, run_branch}
pub use Rattle.qss_machine.specs.Handlers.{run_clauses, run_first_due, truths}
pub use Rattle.qss_machine.specs.MachineLimits.{IsBounded}
pub use Rattle.qss_machine.specs.Machines.{compares, discrete_count, inputs, level_unit, quantum_of}
pub use Rattle.qss_machine.specs.Machines.{row_at, slope_at, speed_of, start_discretes}
pub use Rattle.qss_machine.specs.Machines.{start_states, state_count, truth, value_of}
pub use Rattle.qss_machine.specs.Readers.{condition_reads, has_entry, reading_conditions}
pub use Rattle.qss_machine.specs.Readers.{reading_rows, row_reads}
pub use Rattle.qss_machine.specs.Runs.{discrete_rows, last_snapshot, level_rows, snapshot_rows}
pub use Rattle.qss_machine.specs.Runs.{state_rows, tick_rows}
pub use Rattle.qss_machine.specs.Ticks.{AreNextLevels, exceeds_row_limits, handlers_at}
pub use Rattle.qss_machine.specs.Ticks.{is_within_quantum, IsStep, moved_states, Snapshot}
pub use Rattle.qss_machine.specs.Ticks.{snapshot_unless}
pub use Rattle.qss_machine.specs.declared.compiled_machine.Machine.{Machine}
pub use Rattle.qss_machine.specs.declared.machine_parts.Action.{Action}
pub use Rattle.qss_machine.specs.declared.machine_parts.Action.TheVariants.{Reinit, Set}
pub use Rattle.qss_machine.specs.declared.machine_parts.BranchInfo.{BranchInfo}
pub use Rattle.qss_machine.specs.declared.machine_parts.ClauseInfo.{ClauseInfo}
pub use Rattle.qss_machine.specs.declared.machine_parts.Condition.{Condition}
pub use Rattle.qss_machine.specs.declared.machine_parts.DiscreteInfo.{DiscreteInfo}
pub use Rattle.qss_machine.specs.declared.machine_parts.Entry.{Entry}
pub use Rattle.qss_machine.specs.declared.machine_parts.Form.{Form}
pub use Rattle.qss_machine.specs.declared.machine_parts.Rel.TheVariants.{Less}
pub use Rattle.qss_machine.specs.declared.machine_parts.Row.{Row}
pub use Rattle.qss_machine.specs.declared.machine_parts.StateInfo.{StateInfo}
pub use Rattle.qss_quant.specs.IntegratorLines.{IsLineWithinQuantum, Line, state_at}
pub use Rattle.qss_quant.specs.LevelRules.{level_by}
pub use Rattle.qss_quant.specs.declared.quantizer.Rule.{Rule}
pub use Rattle.qss_quant.specs.declared.quantizer.Rule.TheVariants.{Floor}
pub use Rattle.qss_cross.specs.Crossing.{DetectorView, holds_at, IsSmall, value_at}
pub use Rattle.qss_hand.proofs.Branches.{no_branch, width_of}
pub use Rattle.qss_hand.proofs.Turns.{clauses_few, clauses_stay, conditions_few, length-conditions}
pub use Rattle.qss_hand.proofs.Turns.{rows_clauses}
pub use Rattle.qss_hand.specs.Values.{Values}
pub use Rattle.qss_hand.specs.Works.{AreValuesOf, branch_at, clause_at, handling_of, overflow_of}
pub use Rattle.qss_hand.specs.Works.{row_room, values_after}
pub use Rattle.qss_events.proofs.EndRows.{state_row}
pub use Rattle.qss_events.proofs.Firsts.{same_lists}
pub use Rattle.qss_events.proofs.Flags.{truths_are}
pub use Rattle.qss_events.proofs.Overs.{all_within, clash}
pub use Rattle.qss_events.proofs.Quiet.{moved_is}
pub use Rattle.qss_events.proofs.Readers.{among_conditions}
pub use Rattle.qss_events.proofs.RunEnds.{call_of, done_end, done_left, over_end, over_left}
pub use Rattle.qss_events.proofs.SameSlopes.{level_stays}
pub use Rattle.qss_events.proofs.Silence.{from_later, line_state_at}
pub use Rattle.qss_events.proofs.Silences.{arrived_then, quiet_worlds}
pub use Rattle.qss_events.proofs.Skipped.{settled_twice}
pub use Rattle.qss_events.proofs.Starts.{count_start, levels_start, light_at}
pub use Rattle.qss_events.specs.AllowedLevels.{IsAllowedLevel}
pub use Rattle.qss_events.specs.EventFreeRuns.{AreEventFree, IsVisit}
pub use Rattle.qss_events.specs.Events.{IsNext, rows_left}
pub use Rattle.qss_events.specs.HandlerRows.{assigned_of, reinitialized_of}
pub use Rattle.qss_events.specs.RunViews.{RunView}
pub use Rattle.qss_events.specs.Schedules.{became_true, condition_at, HasNoEventBefore, IsChange}
pub use Rattle.qss_events.specs.Schedules.{IsDue, IsScheduleOf, no_detector, no_row, rises}
pub use Rattle.qss_events.specs.declared.event_outcome.Outcome.{Outcome}
pub use Rattle.qss_events.specs.declared.event_outcome.Outcome.TheVariants.{Done, Events, Over}
pub use Rattle.qss_states.proofs.DueLevels.{int_at-states_at, length-states_at, may_arrive}
pub use Rattle.qss_states.proofs.GoingOn.{slopes_small}
pub use Rattle.qss_states.specs.EventContexts.{AreMovedTo, HasLeft, HaveLeft}
pub use Rattle.qss_states.specs.KeptWeights.{AreWeights}
pub use Rattle.qss_states.specs.LineReplacements.{goes_from, replaced_lines_from}
pub use Rattle.qss_states.specs.RowSums.{AreSumsBefore}
pub use Rattle.qss_states.specs.StateLines.{AreLinesAt, IsRestartedFrom, line_at, states_at}
pub use Rattle.qss_states.specs.StateLines.{states_with}
pub use Rattle.qss_states.specs.Variables.{reads_moved}
pub use Rattle.qss_states.specs.declared.row_sum_changes.RowSum.TheVariants.{Slope}
pub use Rattle.qss_states.specs.declared.states.States.{States}
pub use Rattle.qss_run.specs.ConditionPlaces.{AreBranches, AreConditionsOf, detector_at, IsBranchOf}
pub use Rattle.qss_run.specs.ConditionPlaces.{IsDetectorAt, ListsFlipped}
pub use Rattle.qss_run.specs.DetectorUpdates.{AreSettled, AreSettledAlong, detector_states_of}
pub use Rattle.qss_run.specs.DetectorUpdates.{DetectorStates, IsSettled, readers_before, readers_of}
pub use Rattle.qss_run.specs.DetectorUpdates.{touched_after, touched_by, touched_of}
pub use Rattle.qss_run.specs.DueLists.{AreAlikeBut, AreDue, AreRisenDue, differ, IsWithout}
pub use Rattle.qss_run.specs.HandlerReads.{action_reads, AreArrived, fired_reads}
pub use Rattle.qss_run.specs.HandlerResults.{AreDetectorsUpTo, flags_of, handling_from}
pub use Rattle.qss_run.specs.HandlerResults.{handling_of_fired, is_reinitialized, IsHandlerEffect}
pub use Rattle.qss_run.specs.RunSummaries.{end_level, end_sum, IsCountFrom, level_count}
pub use Rattle.qss_run.specs.SpeedUpdates.{AreDetectorsUpdated, AreSlopesBefore, AreSpeedsUpdated}
pub use Rattle.qss_run.specs.SpeedUpdates.{GoesOn, HasSpeed}
pub use Rattle.qss_run.specs.Stores.{CanStart, FitsMachine, HasDueRemovedFrom, IsStoreAt}
pub use Rattle.qss_run.specs.Stores.{snapshot_of}
pub use Rattle.qss_run.specs.TouchCounts.{MovesTouched, touches_at, touches_left}
pub use Rattle.qss_run.specs.declared.run_conditions.BranchPlace.{BranchPlace}
pub use Rattle.qss_run.specs.declared.run_conditions.Conditions.{Conditions}
pub use Rattle.qss_run.specs.declared.run_conditions.StatesAt.{StatesAt}
pub use Rattle.qss_run.specs.declared.run_start.Store.{Store}
