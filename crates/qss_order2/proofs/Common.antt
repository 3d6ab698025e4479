-- Names from outside the lemmas of this crate that several of its proofs cite, passed on from one place.
pub use Rattle.std.proofs.Common.{[], ℕ, ℤ, ◌%◌, ◌*ℤ◌, ◌*◌, ◌++◌, ◌+ℤ◌, ◌+◌, ◌-ℤ◌, ◌-◌, ◌<ℤ◌, ◌<◌}
pub use Rattle.std.proofs.Common.{◌^◌, ◌||◌, ◌∙◌, ◌∷◌, ◌≡◌, ◌≢◌, ◌≤ℤ◌, ◌≤◌, ◌⊎◌, ap, append_assoc}
pub use Rattle.std.proofs.Common.{arith, Bool, eqb, false, get_or, Global, inl, inr, length}
pub use Rattle.std.proofs.Common.{length-append, List, map, negsuc, pos, refl, rules, set, subst}
pub use Rattle.std.proofs.Common.{suc, sym, take, true, unsigned_abs, Vec, zero}
pub use Rattle.std.proofs.Math.IntN.{*ℤ_comm, zero-*ℤ}
pub use Rattle.std.proofs.Math.Nat.{mul-le-mul_left, mul-le-mul_right}
pub use Rattle.std.proofs.lemmas.Bool.{cases_Bool, cases_eq, cases_lt, or_cases, or_left, or_right}
pub use Rattle.std.proofs.lemmas.Bool.Decides.{nat_tests}
pub use Rattle.std.proofs.lemmas.Int.{ints, to_z-of_z, unsigned_abs-mul}
pub use Rattle.std.proofs.lemmas.List.{get_or-map, get_or-set_other, get_or-set_same}
pub use Rattle.std.proofs.lemmas.List.{get_or_default, length-map, length-replicate, length-set}
pub use Rattle.std.proofs.lemmas.List.{map-append, take_all, with_items_is}
pub use Rattle.std.proofs.lemmas.List.Elements.{All-append, All-from_recursion}
pub use Rattle.std.proofs.lemmas.List.FromFn.{fill_by_all, get_or-map-range_with_len}
pub use Rattle.std.proofs.lemmas.List.FromFn.{length-map-range_with_len, map-range_with_len_more}
pub use Rattle.std.proofs.lemmas.List.Sorted.{IsPartitionPoint-from_clause}
pub use Rattle.std.proofs.lemmas.Nat.{mul-le}
pub use Rattle.std.specs.Int.{int_wrap}
pub use Rattle.std.specs.Int.RustNames.{FitsSigned, int_lt}
pub use Rattle.std.specs.List.{flat_map, list_any, range_with_len}
pub use Rattle.std.specs.List.Sorted.{IsNonDecreasingBy, IsPartitionPoint, IsStrictlyIncreasing}
pub use Rattle.std.specs.Option.{option_or}
pub use Rattle.std.specs.Prelude.{◌==◌, All, Err, if◌then◌else◌, MatchBool, nat_lt, None, not, Ok}
pub use Rattle.std.specs.Prelude.{Option, replicate, Result, Some, vec_capacity, vec_len}
pub use Rattle.std.specs.Vec.{with_items}
pub use mir.Syntax.{w128, w64}
pub use mir.Val.{of_z, to_z}
pub use Rattle.mu_num.proofs.CurveLaws.{curve_more, curve_zero}
pub use Rattle.mu_num.proofs.Integers.{add-mul, mul-add, mul-sub, mul_assoc}
pub use Rattle.mu_num.proofs.Quotients.{floor_meets}
pub use Rattle.mu_num.proofs.SizeTests.{within-passes}
pub use Rattle.mu_num.proofs.Sums.{sum_below-same, sum_below-zero, sum_over_more}
pub use Rattle.mu_num.proofs.Tables.{int_at-tabulate}
pub use Rattle.mu_num.proofs.Tests.{eqb-false, eqb-no, eqb-yes, if-false, if-true, if_cases}
pub use Rattle.mu_num.proofs.Tests.{int_lt-false, int_lt-true, int_lt-yes}
pub use Rattle.mu_num.proofs.Writes.{among_at, among_more, index_of, written_all, written_more}
pub use Rattle.mu_num.specs.Curves.{curve_at}
pub use Rattle.mu_num.specs.IndexedSums.{abs_of, first_exceeding, int_at, sum_below, sum_over}
pub use Rattle.mu_num.specs.IndexedSums.{tabulate}
pub use Rattle.mu_num.specs.ListedPlaces.{AreRisingBelow, is_listed}
pub use Rattle.mu_num.specs.Rounding.{floor_of}
pub use Rattle.mu_num.specs.Sizes.{exceeds, IsPositiveWithin, IsWithin}
pub use Rattle.mu_num.specs.Writes.{IsWritten}
pub use Rattle.qss_sched.specs.PlaceSets.{PlaceList}
pub use Rattle.qss_machine.proofs.Distinct.{none_at}
pub use Rattle.qss_machine.proofs.Loops.{fits_below, product_bound, product_is, sum_done, sum_step}
pub use Rattle.qss_machine.proofs.ModeTests.{mode_small}
pub use Rattle.qss_machine.proofs.Near.{option_or-None, unit_fits, unit_positive}
pub use Rattle.qss_machine.proofs.Ranges.{none_past}
pub use Rattle.qss_machine.proofs.StartValues.{discretes_start}
pub use Rattle.qss_machine.proofs.SumLaws.{weighted_sum-is}
pub use Rattle.qss_machine.proofs.WeightLaws.{size-mul}
pub use Rattle.qss_machine.specs.Legitimate.{start_coefficient, start_constant_part}
pub use Rattle.qss_machine.specs.Machines.{discrete_count, level_unit, row_at, start_discretes}
pub use Rattle.qss_machine.specs.Machines.{start_states, state_count}
pub use Rattle.qss_machine.specs.Slopes.{coefficient_of, mode_coefficient}
pub use Rattle.qss_machine.specs.declared.compiled_machine.Machine.{Machine}
pub use Rattle.qss_machine.specs.declared.machine_parts.DiscreteInfo.{DiscreteInfo}
pub use Rattle.qss_machine.specs.declared.machine_parts.Entry.{Entry}
pub use Rattle.qss_machine.specs.declared.machine_parts.Product.{Product}
pub use Rattle.qss_machine.specs.declared.machine_parts.SlopeRow.{SlopeRow}
pub use Rattle.qss_machine.specs.declared.machine_parts.StateInfo.{StateInfo}
pub use Rattle.qss_hand.specs.Works.{overflow_of}
pub use Rattle.qss_rows.specs.Simulations.{text_in}
pub use Rattle.qss_order2.specs.Calls.{AreSilent2, end_of, tick_of, view_of}
pub use Rattle.qss_order2.specs.Events.{IsNext2, IsStarted, IsVisit2, LeadsSilently2, Overflows}
pub use Rattle.qss_order2.specs.Events.{rows2_left, SecondRunView}
pub use Rattle.qss_order2.specs.Fixed.{AreColumnsBelow, AreModes, AreModesBelow, column_at}
pub use Rattle.qss_order2.specs.Fixed.{IsColumn, rows_in}
pub use Rattle.qss_order2.specs.Places.{CanRead, floor_place, IsLineWithin, IsSmallPlace, level_on}
pub use Rattle.qss_order2.specs.Places.{level_shift, no_place, place_at, place_in, rise_on}
pub use Rattle.qss_order2.specs.Places.{state_on}
unfoldable pub use Rattle.qss_order2.specs.Places.{levels_on, rises_on, states_on}
pub use Rattle.qss_order2.specs.RemainingSecondRows.{EndsAs, IsAble, overflow_ahead, row2_lines}
pub use Rattle.qss_order2.specs.SecondRowLines.{HasVariable2, line2_of}
pub use Rattle.qss_order2.specs.SecondRunLaws.{AreEventFree2, bend_at, gap_after, HasEach}
pub use Rattle.qss_order2.specs.SecondRunLaws.{second_snapshot_after}
pub use Rattle.qss_order2.specs.SecondRunLimits.{IsSafeBound, past_levels}
pub use Rattle.qss_order2.specs.SecondRunTexts.{second_order_run}
pub use Rattle.qss_order2.specs.SecondRuns.{discrete_rows2, end_rows, last_second_snapshot, Leads2}
pub use Rattle.qss_order2.specs.SecondRuns.{level_row, overflow_row, Past, rows2_after, run2_by}
pub use Rattle.qss_order2.specs.SecondRuns.{run2_rows, slope_row, snapshots_from, snapshots_unless}
pub use Rattle.qss_order2.specs.SecondRuns.{snapshots_with, start_rows, tick_rows2}
pub use Rattle.qss_order2.specs.SecondSteps.{AreChanges, fine_levels, fine_states}
pub use Rattle.qss_order2.specs.SecondSteps.{finish_second_tick, first_exceeding_limit, FreeChange}
pub use Rattle.qss_order2.specs.SecondSteps.{is_limit_check, is_requantization, IsSecondStep}
pub use Rattle.qss_order2.specs.SecondSteps.{IsStart2, leaves_quantum, limit_check_period}
pub use Rattle.qss_order2.specs.SecondSteps.{moved_level, moved_state, nearest_change, next_changes}
pub use Rattle.qss_order2.specs.SecondSteps.{next_levels, next_snapshot, next_states, reach_of}
pub use Rattle.qss_order2.specs.SecondSteps.{rise_at, rise_change_weight, rise_weight, second_scale}
pub use Rattle.qss_order2.specs.SecondSteps.{second_snapshot_unless, second_start, second_step}
pub use Rattle.qss_order2.specs.SecondSteps.{SecondSnapshot, SlopeRuleOf}
pub use Rattle.qss_order2.specs.SlopeRules.{IsAnswer, IsRuled2}
pub use Rattle.qss_order2.specs.Stores.{AreMovableUntil, AreQuiet, due_at, HasDues, HasLists}
pub use Rattle.qss_order2.specs.Stores.{HasNewLevels, is_due, IsAdvanced, IsDue2, IsMovedOn}
pub use Rattle.qss_order2.specs.Stores.{IsNear2, IsNextEvent, IsQuiet, IsRuleApplied, IsSized}
pub use Rattle.qss_order2.specs.Stores.{IsStoreAt, IsWindow, levels_after, motion_at, MotionAt}
pub use Rattle.qss_order2.specs.Stores.{Moves, place_rows, place_there, rows_of_left, snapshot_of}
pub use Rattle.qss_order2.specs.Stores.{start_place, until}
pub use Rattle.qss_order2.specs.declared.fixed_machine.FixedMachine.{FixedMachine}
pub use Rattle.qss_order2.specs.declared.order2_motion.Motion.{Motion}
pub use Rattle.qss_order2.specs.declared.order2_motion.Place.{Place}
pub use Rattle.qss_order2.specs.declared.order2_rows.Kind2.{Kind2}
pub use Rattle.qss_order2.specs.declared.order2_rows.Row2.{Row2}
pub use Rattle.qss_order2.specs.declared.order2_start.Store.{Store}
pub use Rattle.qss_order2.specs.declared.outcome2.Outcome2.{Outcome2}
pub use Rattle.qss_order2.specs.declared.outcome2.Outcome2.TheVariants.{Done, Events, Over}
