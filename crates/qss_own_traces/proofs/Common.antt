-- Names from outside the lemmas of this crate that several of its proofs cite, passed on from one place.
pub use Rattle.std.proofs.Common.{[], ℕ, ℤ, ◌*ℤ◌, ◌*◌, ◌++◌, ◌+ℤ◌, ◌+◌, ◌-ℤ◌, ◌-◌, ◌/◌, ◌<ℤ◌, ◌<◌}
pub use Rattle.std.proofs.Common.{◌^◌, ◌||◌, ◌∙◌, ◌∷◌, ◌≡◌, ◌≤◌, ap, append_assoc, ap₂, arith, Bool}
pub use Rattle.std.proofs.Common.{cond, false, get_or, Global, inl, inr, length, List, map, pos}
pub use Rattle.std.proofs.Common.{refl, replicate, rules, subst, suc, sym, take, tests, true}
pub use Rattle.std.proofs.Common.{unsigned_abs, Vec, zero}
pub use Rattle.std.proofs.Math.Seq.{take-append_seam}
pub use Rattle.std.proofs.lemmas.Bool.{or_parts}
pub use Rattle.std.proofs.lemmas.Int.{ints, to_z-of_z}
pub use Rattle.std.proofs.lemmas.Iterator.{YieldsList-from_range}
pub use Rattle.std.proofs.lemmas.Iterator.Adapters.{position_from-zero}
pub use Rattle.std.proofs.lemmas.Iterator.Search.{position_from_yields_List}
pub use Rattle.std.proofs.lemmas.List.{append-nil, get_or-map, get_or_read, length-append}
pub use Rattle.std.proofs.lemmas.List.{length-map}
pub use Rattle.std.proofs.lemmas.List.Elements.{All-append, All-cons, All-nil, All-tail}
pub use Rattle.std.proofs.lemmas.List.FromFn.{fill_by_all, length-map-range_with_len}
pub use Rattle.std.specs.Int.RustNames.{FitsSigned, int_lt}
pub use Rattle.std.specs.List.{list_any, position_from, range_with_len}
pub use Rattle.std.specs.Option.{option_or}
pub use Rattle.std.specs.Prelude.{All, Err, flat_map, if◌then◌else◌, IsTrue, None, not, Ok, Option}
pub use Rattle.std.specs.Prelude.{position, Result, Some}
pub use mir.Syntax.{w128}
pub use Rattle.mu_num.proofs.SizeTests.{within-passes}
pub use Rattle.mu_num.specs.IndexedSums.{abs_of, first_exceeding, int_at, sum_below, tabulate}
pub use Rattle.mu_num.specs.Levels.{floor_level}
pub use Rattle.mu_num.specs.ListedPlaces.{flag_at}
pub use Rattle.mu_num.specs.Rounding.{floor_of}
pub use Rattle.mu_num.specs.Sizes.{exceeds, IsWithin}
pub use Rattle.qss_machine.proofs.Admitted.{run_clauses-none}
pub use Rattle.qss_machine.proofs.Near.{unit_fits, unit_positive}
pub use Rattle.qss_machine.proofs.OneRun.{runs_are_unique}
pub use Rattle.qss_machine.proofs.Ranges.{start_small}
pub use Rattle.qss_machine.proofs.StartValues.{discretes_start, states_start}
pub use Rattle.qss_machine.specs.Handlers.{HandlerState}
pub use Rattle.qss_machine.specs.Legitimate.{IsLegitimate, start_coefficient, start_constant_part}
pub use Rattle.qss_machine.specs.Machines.{level_unit, quanta, row_at, slope_at, start_discretes}
pub use Rattle.qss_machine.specs.Machines.{start_states, state_count}
pub use Rattle.qss_machine.specs.RunLaws.{levels_from, states_from}
pub use Rattle.qss_machine.specs.Runs.{Run, run_from}
pub use Rattle.qss_machine.specs.Slopes.{mode_fits}
pub use Rattle.qss_machine.specs.Ticks.{exceeds_row_limits, is_within_quantum, next_levels}
pub use Rattle.qss_machine.specs.Ticks.{Snapshot, snapshot_unless, start_snapshot, step}
pub use Rattle.qss_machine.specs.declared.compiled_machine.Machine.{Machine}
pub use Rattle.qss_machine.specs.declared.machine_parts.StateInfo.{StateInfo}
pub use Rattle.cert_matrix.specs.Matrix.{table, vector, weight}
pub use Rattle.qss_hand.specs.Works.{overflow_of}
pub use Rattle.cert_check.proofs.Starts.{starts-fit}
pub use Rattle.cert_check.specs.CertificateLimits.{IsSize}
pub use Rattle.qss_order2.proofs.Starts.{fine_count}
pub use Rattle.qss_order2.proofs.Tables.{all_of, filled_more, filled_table, IsFilled, same_table}
pub use Rattle.qss_order2.proofs.Uniqueness.{second_runs_are_unique}
pub use Rattle.qss_order2.specs.SecondRunLaws.{levels_from2, states_from2}
pub use Rattle.qss_order2.specs.SecondRunLimits.{AreHeld}
pub use Rattle.qss_order2.specs.SecondRunTexts.{second_order_run}
pub use Rattle.qss_order2.specs.SecondRuns.{Past, Run2}
pub use Rattle.qss_order2.specs.SecondSteps.{fine_levels, fine_states, first_exceeding_limit}
pub use Rattle.qss_order2.specs.SecondSteps.{is_limit_check, is_requantization, leaves_quantum}
pub use Rattle.qss_order2.specs.SecondSteps.{moved_state, nearest_change, next_states, rise_at}
pub use Rattle.qss_order2.specs.SecondSteps.{second_scale, second_snapshot_unless, second_start}
pub use Rattle.qss_order2.specs.SecondSteps.{second_step, SecondSnapshot, SlopeRuleOf}
pub use Rattle.qss_trace.proofs.Placing.{length-places}
pub use Rattle.qss_trace.specs.Trace.{IsRunOf}
pub use Rattle.qss_trace.specs.TraceLimits.{ArePlaces, AreQuanta, place_count}
pub use Rattle.qss_trace.specs.TracePlaces.{places}
pub use Rattle.qss_trace.specs.declared.trace.Trace.{Trace}
pub use Rattle.qss_own_traces.specs.FirstRuns.{first_run, IsFirstRefusal}
pub use Rattle.qss_own_traces.specs.RecordedTraces.{Holds}
pub use Rattle.qss_own_traces.specs.SecondPlaces.{change_after, changed, changes_after, level_after}
pub use Rattle.qss_own_traces.specs.SecondPlaces.{snapshot_of}
pub use Rattle.qss_own_traces.specs.SecondRuns.{first_wide, is_wide, IsNarrow, IsSecondRefusal}
pub use Rattle.qss_own_traces.specs.SecondRuns.{second_snapshots}
pub use Rattle.qss_own_traces.specs.TraceSnapshots.{plain_world}
pub use Rattle.qss_own_traces.specs.TraceSystems.{row_weight, system_weight}
pub use Rattle.qss_own_traces.specs.Traces.{IsTraceOf}
pub use Rattle.qss_own_traces.specs.declared.own_trace_draft.Draft.{Draft}
pub use Rattle.qss_own_traces.specs.declared.own_trace_draft.TraceOver.TheVariants.{Over}
