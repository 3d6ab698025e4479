-- Names from outside the lemmas of this crate that several of its proofs cite, passed on from one place.
pub use Rattle.std.proofs.Common.{[], ℕ, ℤ, ◌&&◌, ◌*ℤ◌, ◌*◌, ◌++◌, ◌+ℤ◌, ◌+◌, ◌-ℤ◌, ◌-◌, ◌/◌, ◌<ℤ◌}
pub use Rattle.std.proofs.Common.{◌<◌, ◌==◌, ◌^◌, ◌∙◌, ◌∷◌, ◌≡◌, ◌≢◌, ◌≤ℤ◌, ◌≤◌, ◌⊎◌, add-one}
pub use Rattle.std.proofs.Common.{add-zero, ap, append-nil, arith, Bool, drop, Err, false, fold}
pub use Rattle.std.proofs.Common.{get_or, Global, inl, inr, length, length-append, List, map}
pub use Rattle.std.proofs.Common.{negsuc, not, pos, refl, rules, set, subst, suc, sym, take, true}
pub use Rattle.std.proofs.Common.{Vec, zero, zero-add}
pub use Rattle.std.proofs.Math.IntN.{+ℤ_idl, +ℤ_idr, zero-*ℤ}
pub use Rattle.std.proofs.Math.Nat.{mul-le-mul, mul-le-mul_left, mul-le-mul_right}
pub use Rattle.std.proofs.Math.Pow.{pow_mono}
pub use Rattle.std.proofs.lemmas.Bool.{cases_eq, cases_lt}
pub use Rattle.std.proofs.lemmas.Bool.Decides.{nat_tests}
pub use Rattle.std.proofs.lemmas.Grind.{flat_map-append}
pub use Rattle.std.proofs.lemmas.Int.{clamps, ints, to_z-of_z, unsigned_abs-mul}
pub use Rattle.std.proofs.lemmas.List.{get_or-append-add, get_or-map, get_or_append_left}
pub use Rattle.std.proofs.lemmas.List.{length-map, map-append, take_all, take_more}
pub use Rattle.std.proofs.lemmas.List.Elements.{All-cons, All-get_or, All-head, All-nil, All-tail}
pub use Rattle.std.proofs.lemmas.List.Folds.{list_any-append, list_any_more}
pub use Rattle.std.proofs.lemmas.List.FromFn.{fill_by_all, get_or-map-range_with_len}
pub use Rattle.std.proofs.lemmas.List.FromFn.{length-map-range_with_len}
pub use Rattle.std.proofs.lemmas.List.Sums.{sum_by-cons}
pub use Rattle.std.specs.Int.{int_max}
pub use Rattle.std.specs.Int.RustNames.{FitsSigned, unsigned_abs}
pub use Rattle.std.specs.List.{list_any}
pub use Rattle.std.specs.List.Sorted.{IsStrictlyIncreasing}
pub use Rattle.std.specs.Option.{option_or}
pub use Rattle.std.specs.Prelude.{◌||◌, All, flat_map, if◌then◌else◌, is_some, MatchBool, nat_lt}
pub use Rattle.std.specs.Prelude.{None, Ok, Option, Result, slice_index, Some, sum_by, vec_capacity}
pub use Rattle.std.specs.Prelude.{vec_len}
pub use mir.Syntax.{w128, w64}
pub use mir.Val.{of_z, to_z}
pub use Rattle.mu_num.proofs.Integers.{add-mul}
pub use Rattle.mu_num.proofs.Quotients.{nearest-zero}
pub use Rattle.mu_num.proofs.Sums.{sum_below-add, sum_below-same, sum_below-split, sum_below-zero}
pub use Rattle.mu_num.proofs.Sums.{sum_over_more}
pub use Rattle.mu_num.proofs.Tests.{eqb-no, eqb-true, eqb-yes, if-false, if-true, if_cases}
pub use Rattle.mu_num.specs.IndexedSums.{abs_of, first_exceeding, int_at, sum_below, sum_over}
pub use Rattle.mu_num.specs.IndexedSums.{tabulate}
pub use Rattle.mu_num.specs.Levels.{IsWithinOneLevel, level_below}
pub use Rattle.mu_num.specs.ListedPlaces.{is_listed}
pub use Rattle.mu_num.specs.Rounding.{nearest_of}
pub use Rattle.mu_num.specs.Sizes.{exceeds, IsWithin}
pub use Rattle.qss_machine.specs.Handlers.{assign, assigned_value, conditions, firing_flags}
pub use Rattle.qss_machine.specs.Handlers.{HandlerState, run_action, run_clauses, run_first_due}
pub use Rattle.qss_machine.specs.Handlers.{truths}
pub use Rattle.qss_machine.specs.MachineLimits.{AreProducts, IsRow, IsStateInfo}
pub use Rattle.qss_machine.specs.Machines.{discrete_count, level_unit, quanta, quantum_of, row_at}
pub use Rattle.qss_machine.specs.Machines.{row_coefficient, slope_at, start_discretes, start_states}
pub use Rattle.qss_machine.specs.Machines.{state_count}
pub use Rattle.qss_machine.specs.Marks.{Collects, IsConditionOf, MarksBy}
pub use Rattle.qss_machine.specs.Readers.{condition_reads, has_entry, places_from}
pub use Rattle.qss_machine.specs.Readers.{reading_coefficients, reading_conditions, reading_rows}
pub use Rattle.qss_machine.specs.Readers.{row_reads, uses_of}
pub use Rattle.qss_machine.specs.RunLaws.{HasSmallLevels, IsWithinQuantum}
pub use Rattle.qss_machine.specs.Runs.{IsExecution, IsFreeExecution, last_snapshot, Run, run_by}
pub use Rattle.qss_machine.specs.Runs.{RunEndsBy}
pub use Rattle.qss_machine.specs.Slopes.{coefficient_of, constant_part, mode_coefficient, mode_fits}
pub use Rattle.qss_machine.specs.Slopes.{products_of, slope_of, weight_of, weighted_sum}
pub use Rattle.qss_machine.specs.Ticks.{handlers_at, is_within_quantum, IsFreeLevel, IsNextLevel}
pub use Rattle.qss_machine.specs.Ticks.{IsStep, IsStepBy, moved_states, RuleOf, Snapshot}
pub use Rattle.qss_machine.specs.Ticks.{snapshot_unless, start_snapshot}
pub use Rattle.qss_machine.specs.declared.compiled_machine.Machine.{Machine}
pub use Rattle.qss_machine.specs.declared.machine_parts.Action.{Action}
pub use Rattle.qss_machine.specs.declared.machine_parts.Action.TheVariants.{Reinit, Set}
pub use Rattle.qss_machine.specs.declared.machine_parts.BranchInfo.{BranchInfo}
pub use Rattle.qss_machine.specs.declared.machine_parts.ClauseInfo.{ClauseInfo}
pub use Rattle.qss_machine.specs.declared.machine_parts.Condition.{Condition}
pub use Rattle.qss_machine.specs.declared.machine_parts.DiscreteInfo.{DiscreteInfo}
pub use Rattle.qss_machine.specs.declared.machine_parts.Entry.{Entry}
pub use Rattle.qss_machine.specs.declared.machine_parts.Product.{Product}
pub use Rattle.qss_machine.specs.declared.machine_parts.Row.{Row}
pub use Rattle.qss_machine.specs.declared.machine_parts.SlopeRow.{SlopeRow}
pub use Rattle.qss_machine.specs.declared.machine_parts.StateInfo.{StateInfo}
