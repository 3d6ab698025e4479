-- Names from outside the lemmas of this crate that several of its proofs cite, passed on from one place.
pub use Rattle.std.proofs.Common.{[], ℕ, ℤ, ◌&&◌, ◌*ℤ◌, ◌*◌, ◌+ℤ◌, ◌+◌, ◌<◌, ◌^◌, ◌∙◌, ◌∷◌, ◌≡◌}
pub use Rattle.std.proofs.Common.{◌≤◌, ap, arith, Bool, false, get_or, IfOk, inl, inr, length, List}
pub use Rattle.std.proofs.Common.{map, negsuc, not, pos, refl, subst, sym, true}
pub use Rattle.std.proofs.Math.IntN.{*ℤ_comm, zero-*ℤ}
pub use Rattle.std.proofs.Math.Nat.{one-le-pow}
pub use Rattle.std.proofs.lemmas.Bool.{cases_lt}
pub use Rattle.std.proofs.lemmas.Bool.Decides.{nat_tests}
pub use Rattle.std.proofs.lemmas.Int.{ints}
pub use Rattle.std.proofs.lemmas.List.Elements.{All-contains, All-head, All-tail}
pub use Rattle.std.specs.List.{AllByRecursion}
pub use Rattle.std.specs.Prelude.{◌++◌, All, bytes_eq, Contains, Err, IfSome, if◌then◌else◌, nat_eq}
pub use Rattle.std.specs.Prelude.{nat_lt, None, Ok, Option, Result, slice_get, Some, unsigned_abs}
pub use Rattle.std.specs.Prelude.{unwrap_or}
pub use Prim.Native.Nat.{suc, zero}
pub use Rattle.mu_num.proofs.Integers.{mul-neg, mul_assoc, one-mul}
unfoldable pub use Rattle.mu_num.specs.Decimal.{decimal_value}
pub use Rattle.mu_num.specs.Fraction.{checked, difference, Fraction, lowest, product, quotient}
pub use Rattle.mu_num.specs.Fraction.{sign, sum, whole}
unfoldable pub use Rattle.mu_num.specs.Fraction.{power}
pub use Rattle.mu_num.specs.declared.NumErr.{NumErr}
pub use Rattle.mu_num.specs.declared.NumErr.TheVariants.{Range, ZeroDivisor}
pub use Rattle.mu_tree.specs.Expression.{Element, Expression, Factors, Number, Reference, Terms}
pub use Rattle.mu_tree.specs.Expression.{Whole}
pub use Rattle.mu_tree.specs.FlatExpression.{Assign, Constant, factor, FlatAction, FlatBranchTree}
pub use Rattle.mu_tree.specs.FlatExpression.{FlatEquationTree, FlatExpression, FlatFactors}
pub use Rattle.mu_tree.specs.FlatExpression.{FlatModelTree, FlatTerms, FlatVariable, no_factors}
pub use Rattle.mu_tree.specs.FlatExpression.{no_terms, Now, Power, Previous, Product, Restart, Sum}
pub use Rattle.mu_tree.specs.FlatExpression.{term, Variable}
pub use Rattle.mu_tree.specs.FlatModels.{HasRole, IsFlatAction, IsFlatBranch, IsFlatClause}
pub use Rattle.mu_tree.specs.FlatModels.{IsFlatEquation, IsFlatModel, target_role}
pub use Rattle.mu_tree.specs.ModelTree.{ModelTree}
pub use Rattle.mu_tree.specs.declared.flat.FlatRole.TheVariants.{State}
pub use Rattle.mu_tree.specs.declared.flat.Settings.{Settings}
pub use Rattle.qss_machine.specs.Machines.{row_at}
pub use Rattle.qss_machine.specs.Slopes.{coefficient_of}
pub use Rattle.qss_machine.specs.declared.machine_parts.SlopeRow.{SlopeRow}
pub use Rattle.mu_names.specs.Constant.{multiplied}
pub use Rattle.mu_names.specs.Roles.{scope_of}
pub use Rattle.mu_names.specs.declared.declared_scope.Known.{Known}
pub use Rattle.mu_causal.proofs.Elements.{contained_first, none_contained}
pub use Rattle.mu_causal.specs.Dependencies.{wants_equation}
pub use Rattle.mu_unroll.specs.declared.unroll_fault.UnrollErr.{UnrollErr}
pub use Rattle.mu_affine.proofs.Bridges.{state_place}
pub use Rattle.mu_affine.proofs.Fractions.{nonzero_from_size, nonzero_size, passed}
pub use Rattle.mu_affine.proofs.Fractions.{positive_product, zero_num}
pub use Rattle.mu_affine.proofs.Solutions.{actions_same, branches_same, clauses_same, keep_same}
pub use Rattle.mu_affine.proofs.Solutions.{right_is}
pub use Rattle.mu_affine.proofs.Steps.{parts_of, same_ok}
pub use Rattle.mu_affine.specs.AffineForm.{AffineForm, checked_form, combined, constant_form}
pub use Rattle.mu_affine.specs.AffineForm.{has_coefficient, has_pairs, is_nonzero, lowest_form}
pub use Rattle.mu_affine.specs.AffineForm.{may_multiply, name_form, none, product_form}
pub use Rattle.mu_affine.specs.AffineForm.{quotient_form, time_form}
pub use Rattle.mu_affine.specs.FinishedForms.{form_meaning}
pub use Rattle.mu_affine.specs.FormOf.{Context, form_of, product_of, sum_form, variable_form}
pub use Rattle.mu_affine.specs.FormParts.{join_forms, kept, multiply_forms, placed, raise_form}
pub use Rattle.mu_affine.specs.FormParts.{then_form}
pub use Rattle.mu_affine.specs.FormRows.{joined}
pub use Rattle.mu_affine.specs.FormSequence.{action_form, condition_form, counted, forms_of}
pub use Rattle.mu_affine.specs.FormSequence.{FormsSoFar, keep, keep_actions, keep_branches}
pub use Rattle.mu_affine.specs.FormSequence.{keep_clauses, nothing_taken, right_side, solve}
pub use Rattle.mu_affine.specs.FormSequence.{solve_all, then_take}
pub use Rattle.mu_affine.specs.Rounded.{rounded_entries, rounded_form, rounded_products}
pub use Rattle.mu_affine.specs.Rounded.{rounded_row}
pub use Rattle.mu_affine.specs.Solution.{clause_context, equation_context, sizes_of}
pub use Rattle.mu_affine.specs.declared.affine_fault.AffineErr.{AffineErr}
pub use Rattle.mu_affine.specs.declared.affine_fault.AffineErr.TheVariants.{ConstFault, NotAffine}
pub use Rattle.mu_affine.specs.declared.affine_fault.AffineErr.TheVariants.{TimeHere}
pub use Rattle.mu_affine.specs.declared.exact_form.ExactForm.{ExactForm}
pub use Rattle.mu_affine.specs.declared.exact_form.Place.{Place}
pub use Rattle.mu_affine.specs.declared.exact_form.Sizes.{Sizes}
pub use Rattle.mu_meaning.specs.MachineNumbers.{IsFormOf, IsRounded, IsRowOf, product_coefficient}
pub use Rattle.mu_meaning.specs.Meaning.{AreSoundFactors, AreSoundTerms, completed, HasDenominators}
pub use Rattle.mu_meaning.specs.Meaning.{HasProperAction, HasProperBranch, HasProperConstants}
pub use Rattle.mu_meaning.specs.Meaning.{HasProperNumbers, HaveProperFactors, HaveProperTerms}
pub use Rattle.mu_meaning.specs.Meaning.{IsPositive, IsProperVariable, IsSound, IsValuation}
pub use Rattle.mu_meaning.specs.Values.{both, discrete_part, Equals, form_value, inverted, IsNumber}
pub use Rattle.mu_meaning.specs.Values.{pair_part, previous_part, product_value, raised, signed}
pub use Rattle.mu_meaning.specs.Values.{state_part, sum_value, total, Valuation, value}
