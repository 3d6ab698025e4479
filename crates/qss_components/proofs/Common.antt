-- Names from outside the lemmas of this crate that several of its proofs cite, passed on from one place.
pub use Rattle.std.proofs.Common.{[], ℕ, ℤ, ◌&&◌, ◌*ℤ◌, ◌*◌, ◌++◌, ◌+ℤ◌, ◌+◌, ◌-ℤ◌, ◌-◌, ◌<◌, ◌^◌}
pub use Rattle.std.proofs.Common.{◌∙◌, ◌∷◌, ◌≡◌, ◌≢◌, ◌≤◌, ◌⊎◌, All, ap, arith, Bool, Err, false}
pub use Rattle.std.proofs.Common.{get_or, inl, inr, length, List, map, Ok, pos, refl, rules, set}
pub use Rattle.std.proofs.Common.{subst, suc, sym, take, true, zero}
pub use Rattle.std.proofs.Math.IntN.{*ℤ-zero, +ℤ_idr, zero-*ℤ}
pub use Rattle.std.proofs.Math.ListN.{length-set}
pub use Rattle.std.proofs.Math.Nat.{mul-le-mul_left}
pub use Rattle.std.proofs.lemmas.Bool.{cases_Bool, cases_eq, cases_lt}
pub use Rattle.std.proofs.lemmas.Bool.Decides.{Decides-int_eq, nat_tests}
pub use Rattle.std.proofs.lemmas.Int.{ints, to_z-of_z, unsigned_abs-mul}
pub use Rattle.std.proofs.lemmas.List.{get_or-map, get_or-set_other, get_or-set_same}
pub use Rattle.std.proofs.lemmas.List.{get_or_append_left, get_or_at, get_or_default, length-append}
pub use Rattle.std.proofs.lemmas.List.{length-map, take_all, with_items_is}
pub use Rattle.std.proofs.lemmas.List.Elements.{All-head, All-tail}
pub use Rattle.std.proofs.lemmas.List.Folds.{list_any_at}
pub use Rattle.std.proofs.lemmas.List.FromFn.{length-map-range_with_len}
pub use Rattle.std.specs.Int.RustNames.{FitsSigned, int_lt, unsigned_abs}
pub use Rattle.std.specs.List.Sorted.{IsStrictlyIncreasing}
pub use Rattle.std.specs.Ordering.{int_eq}
pub use Rattle.std.specs.Prelude.{◌==◌, ◌||◌, if◌then◌else◌, MatchBool, nat_lt, None, not, Option}
pub use Rattle.std.specs.Prelude.{Some, sum_by}
pub use mir.Syntax.{w128, w64}
pub use mir.Val.{of_z, to_z}
pub use Rattle.mu_num.proofs.Tables.{int_at-tabulate, tabulate-same}
pub use Rattle.mu_num.proofs.Tests.{eqb-false, eqb-no, eqb-true, eqb-yes, if-false, if-true}
pub use Rattle.mu_num.proofs.Tests.{if_cases, int_lt-true}
pub use Rattle.mu_num.specs.IndexedSums.{abs_of, int_at, sum_over}
pub use Rattle.mu_num.specs.Levels.{IsWithinOneLevel}
pub use Rattle.mu_num.specs.Limits.{tick_limit}
pub use Rattle.mu_num.specs.ListedPlaces.{is_listed}
pub use Rattle.mu_num.specs.Sizes.{exceeds, IsWithin}
pub use Rattle.mu_num.specs.Ticks.{FirstAfter}
pub use Rattle.qss_machine.proofs.Loops.{fits_below, product_bound, sum_done, sum_step, two_fit}
pub use Rattle.qss_machine.proofs.Loops.{two_sum, weighed_bound, weighed_fits, weighed_sum}
pub use Rattle.qss_machine.specs.Machines.{compares, discrete_count, level_unit, quantum_of, row_at}
pub use Rattle.qss_machine.specs.Machines.{slope_at, state_count}
pub use Rattle.qss_machine.specs.Readers.{row_reads}
pub use Rattle.qss_machine.specs.Slopes.{coefficient_of, mode_coefficient, mode_fits, products_of}
pub use Rattle.qss_machine.specs.Slopes.{slope_of, weight_of}
pub use Rattle.qss_machine.specs.Ticks.{exceeds_row_limits, is_within_quantum, IsNextLevel}
pub use Rattle.qss_machine.specs.declared.compiled_machine.Machine.{Machine}
pub use Rattle.qss_machine.specs.declared.machine_parts.Condition.{Condition}
pub use Rattle.qss_machine.specs.declared.machine_parts.Entry.{Entry}
pub use Rattle.qss_machine.specs.declared.machine_parts.Product.{Product}
pub use Rattle.qss_machine.specs.declared.machine_parts.Rel.TheVariants.{Less}
pub use Rattle.qss_machine.specs.declared.machine_parts.SlopeRow.{SlopeRow}
pub use Rattle.qss_quant.specs.IntegratorLines.{IsLine, IsLineWithinQuantum, Line, state_at}
pub use Rattle.qss_quant.specs.LevelRules.{IsAnswer}
pub use Rattle.qss_quant.specs.declared.quantizer.Rule.{Rule}
pub use Rattle.qss_cross.specs.Crossing.{DetectorView, holds_at, value_at}
pub use Rattle.qss_events.proofs.Firsts.{same_lists}
pub use Rattle.qss_events.proofs.Silence.{line_more, same_flag}
pub use Rattle.qss_events.specs.AllowedLevels.{IsAllowedLevel}
pub use Rattle.qss_events.specs.Schedules.{condition_at, LeavesAt, no_row, slopes_of}
pub use Rattle.qss_components.specs.Agreement.{Agree, CrossingAgrees, HasEach, InputAgrees}
pub use Rattle.qss_components.specs.Agreement.{LineAgrees, Moving, moving_of, SummingAgrees, Values}
pub use Rattle.qss_components.specs.ComponentPlaces.{EachAt}
pub use Rattle.qss_components.specs.ComponentTheorems.{values_after, values_after_message}
pub use Rattle.qss_components.specs.Crossings.{AreParts, Crossing, crossing_after_message, entry_of}
pub use Rattle.qss_components.specs.Crossings.{form_at, input_after_message, input_at}
pub use Rattle.qss_components.specs.Crossings.{IsCrossingNext, IsInput, speed_by, StaysIfDiscrete}
pub use Rattle.qss_components.specs.FunctionInputs.{AreInputs, input_discretes, input_levels}
pub use Rattle.qss_components.specs.FunctionInputs.{input_value, input_vars}
pub use Rattle.qss_components.specs.Functions.{discretes_after_message, function_after_message}
pub use Rattle.qss_components.specs.Functions.{FunctionState, levels_after_message, sum_at, sum_of}
pub use Rattle.qss_components.specs.Integrators.{IsLineNext, line_told}
pub use Rattle.qss_components.specs.Messages.{HasSmallLevel, IsMessage, passes_limit}
pub use Rattle.qss_components.specs.declared.atomic.Message.{Message}
pub use Rattle.qss_components.specs.declared.atomic.Message.TheVariants.{Discrete, Level, Slope}
pub use Rattle.qss_components.specs.declared.atomic.Message.TheVariants.{State, Truth}
pub use Rattle.qss_components.specs.declared.crossing_model.Input.{Input}
pub use Rattle.qss_components.specs.declared.function_inputs.FunctionInput.{FunctionInput}
pub use Rattle.qss_components.specs.declared.integrator_model.IntegratorModel.{IntegratorModel}
