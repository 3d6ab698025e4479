-- Names from outside the lemmas of this crate that several of its proofs cite, passed on from one place.
pub use Rattle.std.proofs.Common.{[], ℕ, ℤ, ◌*ℤ◌, ◌++◌, ◌+ℤ◌, ◌+◌, ◌-◌, ◌<◌, ◌^◌, ◌∙◌, ◌∷◌, ◌≡◌}
pub use Rattle.std.proofs.Common.{◌≢◌, ◌≤◌, All, ap, append-nil, arith, Bool, drop, false, get_or}
pub use Rattle.std.proofs.Common.{Global, inl, inr, length, List, map, pos, refl, rules, set, subst}
pub use Rattle.std.proofs.Common.{suc, sym, take, true, Vec, zero}
pub use Rattle.std.proofs.lemmas.Bool.{cases_Bool, cases_eq, cases_lt}
pub use Rattle.std.proofs.lemmas.Bool.Decides.{nat_tests}
pub use Rattle.std.proofs.lemmas.Int.{ints, to_z-of_z}
pub use Rattle.std.proofs.lemmas.List.{get_or-map, get_or-set_other, get_or-set_same}
pub use Rattle.std.proofs.lemmas.List.{get_or_append_left, get_or_default, get_or_past}
pub use Rattle.std.proofs.lemmas.List.{length-append, length-map, length-set, map-set, set-get_or}
pub use Rattle.std.proofs.lemmas.List.{take_all, with_items_is}
pub use Rattle.std.proofs.lemmas.List.Elements.{All-push, All-set}
pub use Rattle.std.proofs.lemmas.List.FromFn.{fill_by_all, length-map-range_with_len}
pub use Rattle.std.proofs.lemmas.List.Sums.{sum_by_more}
pub use Rattle.std.specs.Int.RustNames.{FitsSigned}
pub use Rattle.std.specs.List.{range_with_len, sum_by}
pub use Rattle.std.specs.Option.{option_or}
pub use Rattle.std.specs.Ordering.{int_eq}
pub use Rattle.std.specs.Prelude.{◌==◌, ◌||◌, Err, if◌then◌else◌, MatchBool, nat_lt, None, Option}
pub use Rattle.std.specs.Prelude.{position, Result, Some, vec_capacity, vec_len}
pub use Rattle.std.specs.Vec.{with_items}
pub use mir.Syntax.{w128, w64}
pub use Rattle.mu_num.proofs.RisingNumbers.{not_before}
pub use Rattle.mu_num.proofs.SizeTests.{passes-within, within-passes}
pub use Rattle.mu_num.proofs.Tables.{int_at-tabulate}
pub use Rattle.mu_num.proofs.Tests.{eqb-no, eqb-yes, if-false, if-true, if_cases, int_lt-true}
pub use Rattle.mu_num.specs.IndexedSums.{first_exceeding, int_at, tabulate}
pub use Rattle.mu_num.specs.Levels.{IsWithinOneLevel}
pub use Rattle.mu_num.specs.Limits.{tick_limit}
pub use Rattle.mu_num.specs.ListedPlaces.{AreRisingBelow, flag_at, is_listed}
pub use Rattle.mu_num.specs.Sizes.{exceeds, IsWithin}
pub use Rattle.mu_num.specs.Ticks.{IsFirstAfter}
pub use Rattle.mu_num.specs.Writes.{IsWritten}
pub use Rattle.qss_machine.proofs.Among.{among_rows}
pub use Rattle.qss_machine.proofs.KeptReaders.{conditions_kept, conditions_many, reading_numbers}
pub use Rattle.qss_machine.proofs.KeptReaders.{rows_kept, rows_many}
pub use Rattle.qss_machine.proofs.StartValues.{discretes_start}
pub use Rattle.qss_machine.specs.Firing.{first_place}
pub use Rattle.qss_machine.specs.Handlers.{conditions, firing_flags, HandlerState, run_clauses}
pub use Rattle.qss_machine.specs.Handlers.{run_first_due, truths}
pub use Rattle.qss_machine.specs.Machines.{compares, discrete_count, level_unit, row_at}
pub use Rattle.qss_machine.specs.Machines.{row_coefficient, slope_at, state_count}
pub use Rattle.qss_machine.specs.Readers.{reading_rows, row_reads}
pub use Rattle.qss_machine.specs.Runs.{snapshot_rows, tick_rows}
pub use Rattle.qss_machine.specs.Ticks.{AreNextLevels, exceeds_row_limits, handlers_at}
pub use Rattle.qss_machine.specs.Ticks.{is_within_quantum, IsStep, moved_states, Snapshot}
pub use Rattle.qss_machine.specs.Ticks.{snapshot_unless}
pub use Rattle.qss_machine.specs.declared.compiled_machine.Machine.{Machine}
pub use Rattle.qss_machine.specs.declared.machine_parts.Action.{Action}
pub use Rattle.qss_machine.specs.declared.machine_parts.Condition.{Condition}
pub use Rattle.qss_machine.specs.declared.machine_parts.DiscreteInfo.{DiscreteInfo}
pub use Rattle.qss_machine.specs.declared.machine_parts.Entry.{Entry}
pub use Rattle.qss_machine.specs.declared.machine_parts.Rel.TheVariants.{Less}
pub use Rattle.qss_machine.specs.declared.machine_parts.Row.{Row}
pub use Rattle.qss_machine.specs.declared.machine_parts.RowKind.{RowKind}
pub use Rattle.qss_machine.specs.declared.machine_parts.StateInfo.{StateInfo}
pub use Rattle.qss_quant.specs.IntegratorLines.{Line, state_at}
pub use Rattle.qss_quant.specs.LevelRules.{level_by}
pub use Rattle.qss_quant.specs.declared.quantizer.Quantizer.{Quantizer}
pub use Rattle.qss_quant.specs.declared.quantizer.Rule.{Rule}
pub use Rattle.qss_quant.specs.declared.quantizer.Rule.TheVariants.{Floor}
pub use Rattle.qss_cross.specs.Crossing.{DetectorView, holds_at}
pub use Rattle.qss_hand.proofs.Branches.{width_of}
pub use Rattle.qss_hand.proofs.Turns.{clauses_stay, conditions_few, length-conditions}
pub use Rattle.qss_hand.specs.Works.{AreValuesOf, branch_at, clause_at, handling_of, overflow_of}
pub use Rattle.qss_hand.specs.Works.{row_room, values_after}
pub use Rattle.qss_events.proofs.EndRows.{state_row}
pub use Rattle.qss_events.proofs.Firsts.{first_is, one_more, same_lists}
pub use Rattle.qss_events.proofs.Flags.{truths_are}
pub use Rattle.qss_events.proofs.LightRows.{light_row}
pub use Rattle.qss_events.proofs.Overs.{all_within}
pub use Rattle.qss_events.proofs.Ranges.{none_passes, position-none}
pub use Rattle.qss_events.proofs.Readers.{condition_numbers}
pub use Rattle.qss_events.proofs.Silences.{arrived_then, quiet_worlds}
pub use Rattle.qss_events.proofs.Starts.{count_start, levels_start}
pub use Rattle.qss_events.specs.AllowedLevels.{IsAllowedLevel}
pub use Rattle.qss_events.specs.EventFreeRuns.{AreEventFree}
pub use Rattle.qss_events.specs.EventFreeTicks.{snapshot_after}
pub use Rattle.qss_events.specs.RunViews.{RunView}
pub use Rattle.qss_events.specs.Schedules.{condition_at, LeavesAt, no_line, no_row, rises}
pub use Rattle.qss_events.specs.Schedules.{slopes_of}
pub use Rattle.qss_components.proofs.Inputs.{IsGiven}
pub use Rattle.qss_components.proofs.Leaving.{near_later}
pub use Rattle.qss_components.proofs.Moving.{no_ticks}
pub use Rattle.qss_components.proofs.Places.{each_more, each_none}
pub use Rattle.qss_components.proofs.Sent.{sum_same}
pub use Rattle.qss_components.proofs.Standing.{components_move, crossings_tell}
pub use Rattle.qss_components.proofs.Variables.{moving_state}
pub use Rattle.qss_components.specs.Agreement.{ComponentsRepresent, CrossingAgrees, HasEach}
pub use Rattle.qss_components.specs.Agreement.{LineAgrees, Moving, SummingAgrees, Values}
pub use Rattle.qss_components.specs.ComponentModels.{crossing_of, function_state_of, IsGivenLine}
pub use Rattle.qss_components.specs.ComponentPlaces.{EachAt}
pub use Rattle.qss_components.specs.ComponentTheorems.{functions_given, lines_given}
pub use Rattle.qss_components.specs.ComponentTheorems.{values_after_row, values_after_rows}
pub use Rattle.qss_components.specs.Crossings.{AreSmallAt, Crossing, crossing_after_message}
pub use Rattle.qss_components.specs.Crossings.{input_at, IsCrossingNext}
pub use Rattle.qss_components.specs.FunctionInputs.{AreInputs}
pub use Rattle.qss_components.specs.Functions.{function_after_message, FunctionState, sum_at}
pub use Rattle.qss_components.specs.Functions.{sum_of, summing_sent}
pub use Rattle.qss_components.specs.Integrators.{IsLineNext, line_after_message, line_moved}
pub use Rattle.qss_components.specs.Messages.{HasSmallLevel, IsMessage, IsTimely, passes_limit}
pub use Rattle.qss_components.specs.declared.atomic.Message.{Message}
pub use Rattle.qss_components.specs.declared.atomic.Message.TheVariants.{Discrete, Level, Slope}
pub use Rattle.qss_components.specs.declared.atomic.Message.TheVariants.{State, Truth}
pub use Rattle.qss_components.specs.declared.crossing_model.CrossingModel.{CrossingModel}
pub use Rattle.qss_components.specs.declared.crossing_model.Input.{Input}
pub use Rattle.qss_components.specs.declared.function_inputs.FunctionInput.{FunctionInput}
pub use Rattle.qss_components.specs.declared.function_model.FunctionModel.{FunctionModel}
pub use Rattle.qss_components.specs.declared.integrator_model.IntegratorModel.{IntegratorModel}
pub use Rattle.qss_devs.specs.CoupledEvents.{arrived_values, CrossingsLater, FitsMachine}
pub use Rattle.qss_devs.specs.CoupledEvents.{IsAfterHandlers, levels_of, snapshot_of, states_at}
pub use Rattle.qss_devs.specs.CoupledEvents.{StoreRepresents, view_of}
pub use Rattle.qss_devs.specs.CoupledSteps.{Agrees, AreSent, AreSentUpTo, AreTaken, AreTakenUpTo}
pub use Rattle.qss_devs.specs.CoupledSteps.{AreValues, AreWithinQuanta, IsLevelTaken, IsSlopeSent}
pub use Rattle.qss_devs.specs.CoupledSteps.{level_after, leveled, row_after, sloped}
pub use Rattle.qss_devs.specs.Coupling.{AllLinesLater, AreComponents, AreGiven, AreReady, AreRuled}
pub use Rattle.qss_devs.specs.Coupling.{crossing_at, function_state_at, HaveReceived}
pub use Rattle.qss_devs.specs.Coupling.{IsCrossingReady, IsIntegratorOf, IsSummingReady, line_at}
pub use Rattle.qss_devs.specs.Coupling.{no_crossing, no_summing}
pub use Rattle.qss_devs.specs.Flags.{due_flags, flags_from}
pub use Rattle.qss_devs.specs.Starts.{AreFirstInputs, first_input, first_line, IsFirstCrossing}
pub use Rattle.qss_devs.specs.Starts.{IsFirstFunction, IsFirstIntegrator, start_values}
pub use Rattle.qss_devs.specs.declared.coupled_messages.Components.{Components}
pub use Rattle.qss_devs.specs.declared.coupled_start.Store.{Store}
