-- Names from outside the lemmas of this crate that several of its proofs cite, passed on from one place.
pub use Rattle.std.proofs.Common.{[], ℕ, ℤ, ◌*ℤ◌, ◌*◌, ◌++◌, ◌+ℤ◌, ◌+◌, ◌-ℤ◌, ◌-◌, ◌<◌, ◌==◌, ◌^◌}
pub use Rattle.std.proofs.Common.{◌∙◌, ◌∷◌, ◌≡◌, ◌≢◌, ◌≤◌, ◌⊎◌, ap, append-nil, append_assoc, ap₂}
pub use Rattle.std.proofs.Common.{arith, below_more, Bool, count_by, eqb, false, flat_map, get_or}
pub use Rattle.std.proofs.Common.{inl, inr, length, List, not, pos, refl, rules, set, subst, sym}
pub use Rattle.std.proofs.Common.{take, true}
pub use Rattle.std.proofs.lemmas.Bool.{and_parts, cases_Bool, cases_eq, cases_lt, eqb-false}
pub use Rattle.std.proofs.lemmas.Bool.{iff_false, or_cases, or_parts}
pub use Rattle.std.proofs.lemmas.Bool.Decides.{Decides-int_eq, nat_tests}
pub use Rattle.std.proofs.lemmas.Int.{ints, to_z-of_z}
pub use Rattle.std.proofs.lemmas.List.{get_or-set_other, get_or-set_same, get_or_default}
pub use Rattle.std.proofs.lemmas.List.{length-map, length-set, take_all, take_more, with_items_is}
pub use Rattle.std.proofs.lemmas.List.Folds.{list_any-append}
pub use Rattle.std.proofs.lemmas.List.FromFn.{fill_by_all, get_or-map-range_with_len}
pub use Rattle.std.proofs.lemmas.List.FromFn.{length-map-range_with_len}
pub use Rattle.std.proofs.lemmas.List.Sums.{sum_by-cons}
pub use Rattle.std.proofs.lemmas.Nat.{mul-le, shr_le}
pub use Rattle.std.specs.Int.RustNames.{FitsSigned, unsigned_abs}
pub use Rattle.std.specs.List.{position, range_with_len, sum_by}
pub use Rattle.std.specs.List.Sorted.{IsStrictlyIncreasing}
pub use Rattle.std.specs.Option.{option_or}
pub use Rattle.std.specs.Ordering.{int_eq}
pub use Rattle.std.specs.Prelude.{◌||◌, All, if◌then◌else◌, None, Option, Some, vec_capacity}
pub use Rattle.std.specs.Prelude.{vec_len}
pub use mir.Syntax.{w128, w64}
pub use mir.Val.{of_z, to_z}
pub use Rattle.mu_num.proofs.Integers.{add-mul}
pub use Rattle.mu_num.proofs.RisingNumbers.{few_numbers, not_before}
pub use Rattle.mu_num.proofs.Tables.{int_at-tabulate}
pub use Rattle.mu_num.proofs.Tests.{eqb-true, if-false}
pub use Rattle.mu_num.proofs.Writes.{among_at, among_more, index_of, written_all, written_more}
pub use Rattle.mu_num.proofs.Writes.{written_on}
pub use Rattle.mu_num.specs.IndexedSums.{abs_of, first_exceeding, int_at, tabulate}
pub use Rattle.mu_num.specs.ListedPlaces.{AreRisingBelow, DiffersOnlyAt, is_listed}
pub use Rattle.mu_num.specs.Sizes.{exceeds, IsWithin}
pub use Rattle.mu_num.specs.Writes.{IsFirstOf, IsWritten}
pub use Rattle.qss_sched.specs.Ranks.{due_at}
pub use Rattle.qss_machine.proofs.Among.{among_readers, lists_more}
pub use Rattle.qss_machine.proofs.KeptReaders.{rows_below, rows_kept, rows_kept_all, rows_many}
pub use Rattle.qss_machine.proofs.Unread.{unread_at, unread_slope}
pub use Rattle.qss_machine.specs.MachineLimits.{IsRow}
pub use Rattle.qss_machine.specs.Machines.{discrete_count, level_unit, mode_coefficient_at}
pub use Rattle.qss_machine.specs.Machines.{quantum_of, row_at, row_coefficient, slope_at}
pub use Rattle.qss_machine.specs.Machines.{state_count, weight_at}
pub use Rattle.qss_machine.specs.Readers.{reading_coefficients, reading_rows, row_reads}
pub use Rattle.qss_machine.specs.Runs.{level_rows}
pub use Rattle.qss_machine.specs.Slopes.{mode_coefficient, mode_fits}
pub use Rattle.qss_machine.specs.Ticks.{exceeds_row_limits, IsNextLevel}
pub use Rattle.qss_machine.specs.declared.compiled_machine.Machine.{Machine}
pub use Rattle.qss_machine.specs.declared.machine_parts.Entry.{Entry}
pub use Rattle.qss_machine.specs.declared.machine_parts.Product.{Product}
pub use Rattle.qss_machine.specs.declared.machine_parts.Row.{Row}
pub use Rattle.qss_machine.specs.declared.machine_parts.SlopeRow.{SlopeRow}
pub use Rattle.qss_quant.specs.IntegratorLines.{IsLineWithinQuantum, Line, state_at}
pub use Rattle.qss_hand.specs.Works.{overflow_of}
pub use Rattle.qss_events.proofs.Firsts.{first_is}
pub use Rattle.qss_events.proofs.LevelRows.{row_of}
pub use Rattle.qss_events.proofs.LightRows.{row_is_light}
pub use Rattle.qss_events.proofs.Lines.{line_here}
pub use Rattle.qss_events.proofs.Overs.{all_within}
pub use Rattle.qss_events.proofs.Ranges.{position-none}
pub use Rattle.qss_events.specs.AllowedLevels.{IsAllowedLevel}
pub use Rattle.qss_events.specs.Schedules.{IsDue, no_line, no_row, weights_at}
pub use Rattle.qss_states.specs.EventContexts.{CanRestart, CanSchedule, HasLeft, IsResultOf}
pub use Rattle.qss_states.specs.LevelChanges.{AreRequantized}
pub use Rattle.qss_states.specs.LineReplacements.{goes_from, has_level_and_slope, IsCounted}
pub use Rattle.qss_states.specs.LineReplacements.{replaced_lines}
pub use Rattle.qss_states.specs.RowLimits.{IsLeastPast, IsWeighed}
pub use Rattle.qss_states.specs.RowSums.{AreSumsBefore, IsSumAfterLevelChange, sum_at, taken_by}
pub use Rattle.qss_states.specs.SafeBounds.{AllowsBound, AreSmall, AreUpToAt, excess, half_limit}
pub use Rattle.qss_states.specs.SafeBounds.{IsSafeBound, IsUpTo}
pub use Rattle.qss_states.specs.SlopeUpdates.{AreScheduled, HaveSlopesUpdated, MayUpdateSlope}
pub use Rattle.qss_states.specs.SlopeUpdates.{Schedules}
pub use Rattle.qss_states.specs.StateLines.{IsRestartedFrom, line_at, states_at, states_with}
pub use Rattle.qss_states.specs.SumMarks.{AreMarked, AreReaderSums, IsSlopeAt, listed_rows}
pub use Rattle.qss_states.specs.Variables.{AreAssigned}
pub use Rattle.qss_states.specs.declared.event_contexts.HandlerArrival.{HandlerArrival}
pub use Rattle.qss_states.specs.declared.event_contexts.HandlerResult.{HandlerResult}
pub use Rattle.qss_states.specs.declared.event_contexts.NewLevels.{NewLevels}
pub use Rattle.qss_states.specs.declared.event_contexts.NewSlopes.{NewSlopes}
pub use Rattle.qss_states.specs.declared.kept_weights.Weights.{Weights}
pub use Rattle.qss_states.specs.declared.row_sum_changes.RowSum.TheVariants.{Slope}
pub use Rattle.qss_states.specs.declared.sum_marks.TheConstants.{SUM_MARK}
