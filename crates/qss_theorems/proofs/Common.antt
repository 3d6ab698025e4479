-- Names from outside the lemmas of this crate that several of its proofs cite, passed on from one place.
pub use Rattle.csv.specs.Writing.{default_writer, needs_quotes, row_text}
unfoldable pub use Rattle.csv.specs.Writing.{fields_text, is_blank}
pub use Rattle.std.proofs.Common.{[], ℕ, ℤ, ◌*◌, ◌++◌, ◌+◌, ◌<◌, ◌==◌, ◌||◌, ◌∙◌, ◌∷◌, ◌≡◌, ◌≤◌, ap}
pub use Rattle.std.proofs.Common.{append-nil, arith, cond, decimal, drop, false, get_or, IfOk, inl}
pub use Rattle.std.proofs.Common.{inr, length, length-append, List, map, negsuc, not, pos, refl}
pub use Rattle.std.proofs.Common.{subst, suc, sym, zero}
pub use Rattle.std.proofs.lemmas.List.{length-map}
pub use Rattle.std.specs.Fmt.{signed_decimal}
pub use Rattle.std.specs.List.{AllByRecursion}
pub use Rattle.std.specs.Prelude.{◌&&◌, Bool, bytes_eq, codes, Err, if◌then◌else◌, is_some, IsTrue}
pub use Rattle.std.specs.Prelude.{nat_lt, None, Ok, Option, Result, Some, take, true}
pub use Rattle.mu_num.specs.Fraction.{Fraction, whole}
pub use Rattle.mu_num.specs.IndexedSums.{int_at}
pub use Rattle.mu_lexer.specs.Spelling.{is_name}
pub use Rattle.mu_tree.specs.Expression.{Element, Expression, factor, Factors, no_factors, no_terms}
pub use Rattle.mu_tree.specs.Expression.{Now, Number, Power, Previous, Product, Reference, Sum}
pub use Rattle.mu_tree.specs.Expression.{term, Terms, Variable, Whole}
pub use Rattle.mu_tree.specs.FlatExpression.{FlatModelTree}
pub use Rattle.mu_tree.specs.ModelTree.{Assign, Branches, BranchTree, clause_then, clauses_of}
pub use Rattle.mu_tree.specs.ModelTree.{ClauseTree, ClauseTrees, Declaration, Derivative}
pub use Rattle.mu_tree.specs.ModelTree.{EachClause, EachEquation, EachStatement, equation_then}
pub use Rattle.mu_tree.specs.ModelTree.{equations_of, EquationTree, EquationTrees, ModelTree}
pub use Rattle.mu_tree.specs.ModelTree.{no_clauses, no_equations, no_statements, Restart}
pub use Rattle.mu_tree.specs.ModelTree.{statement_then, statements_of, StatementTree}
pub use Rattle.mu_tree.specs.ModelTree.{StatementTrees}
pub use Rattle.mu_tree.specs.declared.flat.FlatRole.{FlatRole}
pub use Rattle.qss_machine.proofs.Admitted.{runs_are_legitimate}
pub use Rattle.qss_machine.proofs.Near.{runs_stay_near}
pub use Rattle.qss_machine.specs.Machines.{discrete_count, state_count}
pub use Rattle.qss_machine.specs.Runs.{IsFreeExecution, last_snapshot}
pub use Rattle.qss_machine.specs.Ticks.{handlers_at, IsFreeLevel, IsStep, IsStepBy, Snapshot}
pub use Rattle.qss_machine.specs.Ticks.{start_snapshot}
pub use Rattle.qss_machine.specs.declared.compiled_machine.Machine.{Machine}
pub use Rattle.qss_machine.specs.declared.machine_parts.DiscreteInfo.{DiscreteInfo}
pub use Rattle.qss_machine.specs.declared.machine_parts.Row.{Row}
pub use Rattle.qss_machine.specs.declared.machine_parts.StateInfo.{StateInfo}
pub use Rattle.qss_quant.specs.declared.quantizer.Rule.{Rule}
pub use Rattle.mu_grammar.proofs.SourceTokens.{are_tokens}
pub use Rattle.mu_grammar.specs.Symbols.{symbols}
pub use Rattle.mu_names.specs.DeclarationFaults.{constants_with, declaration_faults}
pub use Rattle.mu_names.specs.DeclarationFaults.{declarations_faults, is_constant, meaning_after}
pub use Rattle.mu_names.specs.DeclarationFaults.{no_constants, repeated_faults}
pub use Rattle.mu_names.specs.DeclaredRoles.{derived_in, name_kind_in}
pub use Rattle.mu_names.specs.Naming.{branch_faults, branches_faults, clause_faults, clauses_faults}
pub use Rattle.mu_names.specs.Naming.{equation_faults, equations_faults, expression_faults, is_same}
pub use Rattle.mu_names.specs.Naming.{is_wanted, named_faults, range_faults, reference_faults}
pub use Rattle.mu_names.specs.Naming.{sides_faults, start_faults, starts_faults, statement_faults}
pub use Rattle.mu_names.specs.Naming.{statements_faults}
pub use Rattle.mu_names.specs.Roles.{all_known, meaning_in, scope_of, settings_faults, settings_in}
pub use Rattle.mu_names.specs.declared.declared_scope.Known.{Known}
pub use Rattle.mu_names.specs.declared.name_fault.NameErr.{NameErr}
pub use Rattle.mu_names.specs.declared.name_fault.NameErr.TheVariants.{EndName, Misused}
pub use Rattle.mu_names.specs.declared.name_kind.NameContext.{NameContext}
pub use Rattle.mu_names.specs.declared.name_kind.NameKind.{NameKind}
pub use Rattle.mu_names.specs.declared.name_kind.NameKind.TheVariants.{Declared, Loop, Missing}
pub use Rattle.mu_names.specs.declared.name_kind.NameRequirement.{NameRequirement}
pub use Rattle.mu_names.specs.declared.name_kind.Role.{Role}
pub use Rattle.mu_names.specs.declared.name_kind.Role.TheVariants.{Algebraic, Discrete, Parameter}
pub use Rattle.mu_names.specs.declared.name_kind.Role.TheVariants.{State}
pub use Rattle.qss_rows.specs.RowTexts.{header, name_of, plain_line}
pub use Rattle.cert_check.specs.declared.certificate.Certificate.{Certificate}
pub use Rattle.mu_unroll.proofs.Stepping.{each_then}
pub use Rattle.mu_unroll.specs.ConstantValues.{bind_result, constant_value, whole_at}
pub use Rattle.mu_unroll.specs.Flattening.{constants_in, element_found, found, index_in}
pub use Rattle.mu_unroll.specs.Flattening.{whole_found}
pub use Rattle.mu_unroll.specs.Listing.{listed}
pub use Rattle.mu_unroll.specs.Unrolling.{declared_in, inside}
pub use Rattle.mu_unroll.specs.VariablePlaces.{kind_of, meant_in}
pub use Rattle.mu_unroll.specs.declared.environment.LoopVar.{LoopVar}
pub use Rattle.mu_unroll.specs.declared.environment.NameDenotation.{NameDenotation}
pub use Rattle.mu_unroll.specs.declared.environment.ResolvedReference.{ResolvedReference}
pub use Rattle.mu_unroll.specs.declared.unroll_fault.UnrollErr.{UnrollErr}
pub use Rattle.qss_events.specs.AllowedLevels.{IsAllowedLevel}
pub use Rattle.qss_events.specs.EventFreeRuns.{IsEventFreeExecution}
pub use Rattle.qss_events.specs.RunTexts.{run_by_rule}
pub use Rattle.qss_compile.specs.Compilation.{CompilesTo}
pub use Rattle.qss_theorems.specs.CommaLines.{IsVariableName}
