-- Names from outside the lemmas of this crate that several of its proofs cite, passed on from one place.
pub use Rattle.std.proofs.Common.{[], ℕ, ℤ, ◌&&◌, ◌*◌, ◌++◌, ◌+◌, ◌-◌, ◌<◌, ◌^◌, ◌∙◌, ◌∷◌, ◌≡◌}
pub use Rattle.std.proofs.Common.{◌≤ℤ◌, ◌≤◌, add-one, add-zero, ap, arith, Bool, cond, drop, false}
pub use Rattle.std.proofs.Common.{get_or, inl, inr, length, length-set, List, map, None, not, pos}
pub use Rattle.std.proofs.Common.{refl, set, subst, sym, take, true}
pub use Rattle.std.proofs.Math.IntN.{*ℤ-zero, zero-*ℤ}
pub use Rattle.std.proofs.Math.Path.{fun_ext}
pub use Rattle.std.proofs.Math.Seq.{drop-cons}
pub use Rattle.std.proofs.lemmas.Bool.{and_from, and_parts, cases_Bool, cases_eq, cases_lt}
pub use Rattle.std.proofs.lemmas.Bool.{false≢true, leb-true}
pub use Rattle.std.proofs.lemmas.Bool.Decides.{nat_tests}
pub use Rattle.std.proofs.lemmas.Int.{ints, to_z-of_z, unsigned_abs-mul}
pub use Rattle.std.proofs.lemmas.List.{drop_more, get_or-map, get_or_default, length-drop}
pub use Rattle.std.proofs.lemmas.List.{length-map, length-take-le, length_push, map-append}
pub use Rattle.std.proofs.lemmas.List.{take-map, take_all, take_more}
pub use Rattle.std.proofs.lemmas.List.Elements.{All-cons, All-head, All-map, All-nil, All-push}
pub use Rattle.std.proofs.lemmas.List.Elements.{All-tail, All-weaker}
pub use Rattle.std.proofs.lemmas.List.Sums.{sum_by-cons}
pub use Rattle.std.proofs.lemmas.Map.Keys.{IsStrictlyIncreasing-from_sorted, sorted_head}
pub use Rattle.std.proofs.lemmas.Map.Keys.{sorted_tail}
pub use Rattle.std.proofs.lemmas.Option.{slice_get-get_or, slice_get_within}
pub use Rattle.std.proofs.lemmas.Result.{err_from_is_err_and}
pub use Rattle.std.specs.BTreeMap.{is_at}
pub use Rattle.std.specs.Cmp.{ranked}
pub use Rattle.std.specs.Int.RustNames.{FitsSigned, int_le, unsigned_abs}
pub use Rattle.std.specs.List.{AllByRecursion, filter, list_all}
pub use Rattle.std.specs.List.Sorted.{IsNonDecreasing, IsStrictlyIncreasing}
unfoldable pub use Rattle.std.specs.List.Sorted.{IsStrictlySortedBy}
pub use Rattle.std.specs.Map.{keys_of, lookup}
pub use Rattle.std.specs.Ordering.{is_eq, nat_cmp, ordering_reverse, ordering_then}
pub use Rattle.std.specs.Prelude.{◌*ℤ◌, ◌+ℤ◌, ◌==◌, ◌||◌, ◌≢◌, ◌⊎◌, All, Err, if◌then◌else◌, IsTrue}
pub use Rattle.std.specs.Prelude.{nat_eq, nat_le, nat_lt, negsuc, Ok, Option, Result, slice_get}
pub use Rattle.std.specs.Prelude.{Some, sum_by, unwrap_or}
pub use Rattle.std.specs.declared.cmp.Ordering.{Ordering}
pub use Rattle.std.specs.declared.cmp.Ordering.TheVariants.{Equal, Greater, Less}
pub use Prim.Native.Nat.{suc, zero}
pub use mir.Syntax.{w128, w64}
pub use mir.Val.{of_z, to_z}
pub use Rattle.mu_num.specs.Fraction.{difference, Fraction, is_small, IsReduced, lowest, product}
pub use Rattle.mu_num.specs.Fraction.{sum, whole}
unfoldable pub use Rattle.mu_num.specs.Fraction.{checked}
pub use Rattle.mu_num.specs.Sizes.{exceeds, IsWithin}
pub use Rattle.mu_num.specs.declared.NumErr.{NumErr}
pub use Rattle.mu_num.specs.declared.NumErr.TheVariants.{Range}
pub use Rattle.mu_tree.specs.FlatExpression.{Assign, Constant, factor, flat_action, flat_branch}
pub use Rattle.mu_tree.specs.FlatExpression.{flat_clause, flat_equation, flat_expression}
pub use Rattle.mu_tree.specs.FlatExpression.{flat_factors_of, flat_model, flat_scaled, flat_signed}
pub use Rattle.mu_tree.specs.FlatExpression.{flat_terms_of, flat_variable, FlatAction}
pub use Rattle.mu_tree.specs.FlatExpression.{FlatBranchTree, FlatEquationTree, FlatExpression}
pub use Rattle.mu_tree.specs.FlatExpression.{FlatFactors, FlatModelTree, FlatTerms, FlatVariable}
pub use Rattle.mu_tree.specs.FlatExpression.{no_factors, no_terms, Now, Power, Previous, Restart}
pub use Rattle.mu_tree.specs.FlatExpression.{Sum, term, Variable}
pub use Rattle.mu_tree.specs.FlatModels.{AreFlatFactors, AreFlatTerms, IsFlatAction, IsFlatBranch}
pub use Rattle.mu_tree.specs.FlatModels.{IsFlatClause, IsFlatEquation, IsFlatExpression}
pub use Rattle.mu_tree.specs.FlatModels.{IsFlatModel, rank}
pub use Rattle.mu_tree.specs.declared.flat.FlatBranch.{FlatBranch}
pub use Rattle.mu_tree.specs.declared.flat.FlatClause.{FlatClause}
pub use Rattle.mu_tree.specs.declared.flat.FlatEquation.{FlatEquation}
pub use Rattle.mu_tree.specs.declared.flat.FlatExpr.{FlatExpr}
pub use Rattle.mu_tree.specs.declared.flat.FlatFactor.{FlatFactor, out-FlatFactor}
pub use Rattle.mu_tree.specs.declared.flat.FlatModel.{FlatModel}
pub use Rattle.mu_tree.specs.declared.flat.FlatRole.{FlatRole}
pub use Rattle.mu_tree.specs.declared.flat.FlatRole.TheVariants.{Algebraic, Discrete, State}
pub use Rattle.mu_tree.specs.declared.flat.FlatStatement.{FlatStatement}
pub use Rattle.mu_tree.specs.declared.flat.FlatTerm.{FlatTerm, out-FlatTerm}
pub use Rattle.mu_tree.specs.declared.flat.FlatVar.{FlatVar}
pub use Rattle.mu_tree.specs.declared.flat.Settings.{Settings}
pub use Rattle.qss_machine.specs.MachineLimits.{AreClauses, AreRows, AreVariables, IsForm, IsRow}
pub use Rattle.qss_machine.specs.declared.compiled_machine.Machine.{Machine}
pub use Rattle.qss_machine.specs.declared.machine_parts.BranchInfo.{BranchInfo}
pub use Rattle.qss_machine.specs.declared.machine_parts.ClauseInfo.{ClauseInfo}
pub use Rattle.qss_machine.specs.declared.machine_parts.DiscreteInfo.{DiscreteInfo}
pub use Rattle.qss_machine.specs.declared.machine_parts.Entry.{Entry}
pub use Rattle.qss_machine.specs.declared.machine_parts.Product.{Product}
pub use Rattle.qss_machine.specs.declared.machine_parts.SlopeRow.{SlopeRow}
pub use Rattle.qss_machine.specs.declared.machine_parts.StateInfo.{StateInfo}
pub use Rattle.mu_causal.specs.Causality.{Follow, IsOrder}
pub use Rattle.mu_causal.specs.Dependencies.{DependsOn, IsAlgebraic}
pub use Rattle.mu_affine.specs.AffineForm.{AffineForm, checked_form, coefficient_count, combined}
pub use Rattle.mu_affine.specs.AffineForm.{constant_form, has_coefficient, has_discretes_alone}
pub use Rattle.mu_affine.specs.AffineForm.{has_pairs, has_states_alone, is_nonzero, is_pair}
pub use Rattle.mu_affine.specs.AffineForm.{lowest_form, none, product_form}
unfoldable pub use Rattle.mu_affine.specs.AffineForm.{any_from}
pub use Rattle.mu_affine.specs.FinishedForms.{AreFinished, Finishes, form_meaning, IsCoefficient}
pub use Rattle.mu_affine.specs.FinishedForms.{IsFinished, IsName, IsOver, IsPair, IsReducedSum}
pub use Rattle.mu_affine.specs.FinishedForms.{MayStand, sum_meaning}
pub use Rattle.mu_affine.specs.FormOf.{Context, form_of, product_of, sum_form}
pub use Rattle.mu_affine.specs.FormParts.{IsAnswer, join_forms, kept, multiply_forms, raise_form}
pub use Rattle.mu_affine.specs.FormParts.{then_form}
pub use Rattle.mu_affine.specs.FormPlaces.{action_of, actions_of, branch_forms, branch_of}
pub use Rattle.mu_affine.specs.FormPlaces.{clause_forms, clause_of, clauses_of, discrete_count}
pub use Rattle.mu_affine.specs.FormPlaces.{discretes_of, form_at, placed, state_count, states_of}
pub use Rattle.mu_affine.specs.FormRows.{AreReduced, ChangesAt, IsRising, joined, JoinsAll, named}
pub use Rattle.mu_affine.specs.FormRows.{pair_cmp, paired, SomeFails, value_at}
pub use Rattle.mu_affine.specs.FormSequence.{action_form, condition_form, counted, forms_of}
pub use Rattle.mu_affine.specs.FormSequence.{FormsSoFar, keep, keep_actions, keep_branches}
pub use Rattle.mu_affine.specs.FormSequence.{keep_clauses, keep_states, nothing_taken, right_side}
pub use Rattle.mu_affine.specs.FormSequence.{solve, solve_all, then_take}
pub use Rattle.mu_affine.specs.KeptForms.{AreForms, clause_place, equation_place, IsAffineFault}
pub use Rattle.mu_affine.specs.Kinds.{IsConstant, IsOfDiscretes, IsOfStates}
pub use Rattle.mu_affine.specs.MachineChecks.{bits_of, Check, checks, first_failed, form_checks}
pub use Rattle.mu_affine.specs.MachineChecks.{form_fits, is_quantum, is_start, is_value, IsRefusal}
pub use Rattle.mu_affine.specs.MachineChecks.{last_of, machine_checks, machine_fault, row_fits}
pub use Rattle.mu_affine.specs.MachineChecks.{row_fits_at_start, setting_checks, start_level}
pub use Rattle.mu_affine.specs.ProductRows.{beside, IsPairSet, IsSet, ListFails, SetsAll}
pub use Rattle.mu_affine.specs.ProductRows.{TableFails}
pub use Rattle.mu_affine.specs.Rounded.{entry_of, is_some_number, rounded, rounded_discrete}
pub use Rattle.mu_affine.specs.Rounded.{rounded_down, rounded_entries, rounded_form}
pub use Rattle.mu_affine.specs.Rounded.{rounded_products, rounded_row, rounded_state}
pub use Rattle.mu_affine.specs.RoundedMachines.{AreFormsFor, AreNamed, IsMachineOf, IsRightSide}
pub use Rattle.mu_affine.specs.Scaling.{scaled_form, Scales}
pub use Rattle.mu_affine.specs.Solution.{clause_context, count_of_role, equation_context, sizes_of}
pub use Rattle.mu_affine.specs.Takings.{AreKept, AreZeros, IsFaultOf, IsKept, IsNumberedBranch}
pub use Rattle.mu_affine.specs.Takings.{IsSolved, IsZero, kept_so_far, of_clauses, of_equations}
pub use Rattle.mu_affine.specs.Takings.{side_at, solved_so_far, with_more}
pub use Rattle.mu_affine.specs.Walks.{AreNumbered, AreNumberedFactors, AreSolved, context_of}
pub use Rattle.mu_affine.specs.Walks.{forms_in, IsNumbered, IsNumberedAction}
pub use Rattle.mu_affine.specs.declared.affine_fault.AffineErr.{AffineErr}
pub use Rattle.mu_affine.specs.declared.affine_fault.AffineErr.TheVariants.{ConstFault, Memory}
pub use Rattle.mu_affine.specs.declared.affine_fault.AffineErr.TheVariants.{NotAffine, TimeHere}
pub use Rattle.mu_affine.specs.declared.affine_fault.AffineErr.TheVariants.{TooDense}
pub use Rattle.mu_affine.specs.declared.exact_form.ExactEntry.{ExactEntry}
pub use Rattle.mu_affine.specs.declared.exact_form.ExactForm.{ExactForm}
pub use Rattle.mu_affine.specs.declared.exact_form.ExactProduct.{ExactProduct}
pub use Rattle.mu_affine.specs.declared.exact_form.Forms.{Forms}
pub use Rattle.mu_affine.specs.declared.exact_form.Place.{Place}
pub use Rattle.mu_affine.specs.declared.exact_form.Sizes.{Sizes}
pub use Rattle.mu_affine.specs.declared.form_sum.RunningForm.{RunningForm}
pub use Rattle.mu_affine.specs.declared.machine_fault.MachineErr.{MachineErr}
pub use Rattle.mu_affine.specs.declared.machine_fault.MachineErr.TheVariants.{Coefficient, Quantum}
pub use Rattle.mu_affine.specs.declared.machine_fault.MachineErr.TheVariants.{Start}
pub use Rattle.mu_affine.specs.declared.normal_forms.CountedForms.{CountedForms}
