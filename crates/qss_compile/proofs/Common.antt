-- Names from outside the lemmas of this crate that several of its proofs cite, passed on from one place.
pub use Rattle.std.proofs.Common.{[], ℕ, ◌++◌, ◌+◌, ◌<◌, ◌∙◌, ◌∷◌, ◌≡◌, ◌≢◌, ◌≤◌, ◌⊎◌, ap, arith}
pub use Rattle.std.proofs.Common.{Bool, drop, Err, false, get_or, inl, inr, length, List, map}
pub use Rattle.std.proofs.Common.{nat_le, None, Ok, pos, refl, Result, Some, subst, suc, sym, take}
pub use Rattle.std.proofs.Common.{true, zero}
pub use Rattle.std.proofs.lemmas.Bool.{cases_Bool, cases_eq, cases_lt}
pub use Rattle.std.proofs.lemmas.Bool.Decides.{nat_tests}
pub use Rattle.std.proofs.lemmas.Result.{err_from_is_err_and, IfOk-weaker}
pub use Rattle.std.specs.List.{AllByRecursion}
pub use Rattle.std.specs.Map.{keys_of}
pub use Rattle.std.specs.Ordering.{is_eq}
pub use Rattle.std.specs.Prelude.{◌&&◌, All, Contains, if◌then◌else◌, nat_eq, nat_lt, slice_get}
pub use Rattle.std.specs.Prelude.{sum_by, unsigned_abs}
pub use Rattle.std.specs.declared.cmp.Ordering.{Ordering}
pub use Rattle.std.specs.declared.cmp.Ordering.TheVariants.{Equal, Greater, Less}
pub use Rattle.std.specs.declared.option.Option.{Option}
pub use Rattle.mu_num.specs.Fraction.{difference, Fraction, is_small, IsReduced, power, product}
pub use Rattle.mu_num.specs.Fraction.{quotient, sum, whole}
unfoldable pub use Rattle.mu_num.specs.Fraction.{checked, least_denominator, least_multiplier}
unfoldable pub use Rattle.mu_num.specs.Fraction.{lowest}
pub use Rattle.mu_num.specs.declared.NumErr.{NumErr}
pub use Rattle.mu_num.specs.declared.NumErr.TheVariants.{Range, ZeroDivisor}
pub use Rattle.mu_lexer.specs.Tokens.{AreTokens, IsFirstFault}
pub use Rattle.mu_lexer.specs.declared.lexer.LexErr.{LexErr}
pub use Rattle.mu_lexer.specs.declared.token.Token.{Token}
pub use Rattle.mu_tree.specs.Expression.{Expression, Sum}
pub use Rattle.mu_tree.specs.FlatExpression.{flat_model, FlatAction, FlatBranchTree}
pub use Rattle.mu_tree.specs.FlatExpression.{FlatEquationTree, FlatModelTree, FlatVariable}
pub use Rattle.mu_tree.specs.FlatModels.{IsFlatModel}
pub use Rattle.mu_tree.specs.ModelTree.{model, ModelTree}
pub use Rattle.mu_tree.specs.declared.flat.Settings.{Settings}
pub use Rattle.mu_grammar.proofs.ModelDecides.{model_decides}
pub use Rattle.mu_grammar.specs.ModelGrammar.{SpellsModel}
pub use Rattle.mu_grammar.specs.ModelMachine.{model_machine}
pub use Rattle.mu_grammar.specs.Symbols.{symbols}
pub use Rattle.mu_grammar.specs.declared.parse_fault.ParseErr.{ParseErr}
pub use Rattle.mu_names.specs.Roles.{model_faults, scope_of, settings_in}
pub use Rattle.mu_names.specs.declared.name_fault.NameErr.{NameErr}
pub use Rattle.mu_causal.specs.Causality.{IsCycle, IsOrder}
pub use Rattle.mu_causal.specs.Dependencies.{DependsOn, EachBelowHasOneEquation, EachHasOneEquation}
pub use Rattle.mu_causal.specs.Dependencies.{equation_numbers, HasOneEquation, IsAlgebraic}
pub use Rattle.mu_causal.specs.Dependencies.{WantsEquation}
pub use Rattle.mu_causal.specs.OrderResults.{IsCausalFault}
pub use Rattle.mu_causal.specs.declared.causal_outcome.CausalErr.{CausalErr}
pub use Rattle.mu_unroll.specs.Unrolling.{unrolled}
pub use Rattle.mu_unroll.specs.declared.unroll_fault.UnrollErr.{UnrollErr}
pub use Rattle.mu_affine.proofs.RowForms.{IsKeyOrder, level_self, nat_order, pair_order}
pub use Rattle.mu_affine.proofs.Turns.{map_twice}
pub use Rattle.mu_affine.specs.AffineForm.{AffineForm, is_nonzero, none}
pub use Rattle.mu_affine.specs.FinishedForms.{form_meaning, IsFinished, IsOver}
pub use Rattle.mu_affine.specs.FormOf.{form_of}
pub use Rattle.mu_affine.specs.FormRows.{IsRising, named, paired, value_at}
pub use Rattle.mu_affine.specs.FormSequence.{action_form, condition_form, counted, forms_of}
pub use Rattle.mu_affine.specs.FormSequence.{FormsSoFar, keep, keep_actions, keep_branches}
pub use Rattle.mu_affine.specs.FormSequence.{keep_states, right_side, solve, solve_all, then_take}
pub use Rattle.mu_affine.specs.KeptForms.{AreForms, clause_place, equation_place}
pub use Rattle.mu_affine.specs.MachineChecks.{machine_fault}
pub use Rattle.mu_affine.specs.RoundedMachines.{IsMachineOf}
pub use Rattle.mu_affine.specs.Solution.{clause_context, equation_context, sizes_of}
pub use Rattle.mu_affine.specs.Walks.{IsNumbered}
pub use Rattle.mu_affine.specs.declared.affine_fault.AffineErr.{AffineErr}
pub use Rattle.mu_affine.specs.declared.exact_form.ExactEntry.{ExactEntry}
pub use Rattle.mu_affine.specs.declared.exact_form.ExactForm.{ExactForm}
pub use Rattle.mu_affine.specs.declared.exact_form.ExactProduct.{ExactProduct}
pub use Rattle.mu_affine.specs.declared.exact_form.Forms.{Forms}
pub use Rattle.mu_affine.specs.declared.exact_form.Place.{Place}
pub use Rattle.mu_affine.specs.declared.exact_form.Sizes.{Sizes}
pub use Rattle.mu_affine.specs.declared.machine_fault.MachineErr.{MachineErr}
pub use Rattle.qss_compile.specs.Causes.{of_forms, of_lexer, of_names, of_order, of_parser}
pub use Rattle.qss_compile.specs.Causes.{of_rounding, of_unrolling, with_names, without_names}
pub use Rattle.qss_compile.specs.Compilation.{CompilesTo, FlatCompilesTo, FlatSource, IsErr}
pub use Rattle.qss_compile.specs.Compilation.{IsFirstRefusal, IsFlatOf, IsFlatRefused, IsNotFlat}
pub use Rattle.qss_compile.specs.Compilation.{IsParseRefusal, IsRefused, IsTreeRefused}
pub use Rattle.qss_compile.specs.Compilation.{SourceParsesAs, Through, TreeCompilesTo}
pub use Rattle.qss_compile.specs.Fields.{field_text}
pub use Rattle.qss_compile.specs.Flats.{flat_source}
pub use Rattle.qss_compile.specs.Phases.{AreFaultless, FormsRefuse, HasOrder, LexerRefuses}
pub use Rattle.qss_compile.specs.Phases.{OrderRefuses, ParserRefuses, RoundingRefuses, Spells}
pub use Rattle.qss_compile.specs.SourceLaws.{AreAlike}
pub use Rattle.qss_compile.specs.declared.model_refusal.ModelErr.{ModelErr}
pub use Rattle.qss_compile.specs.declared.model_refusal.Refused.{Refused}
