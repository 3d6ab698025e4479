-- Names from outside the lemmas of this crate that several of its proofs cite, passed on from one place.
pub use Rattle.std.proofs.Common.{[], ℕ, ◌*◌, ◌++◌, ◌+◌, ◌-◌, ◌<◌, ◌^◌, ◌∙◌, ◌∷◌, ◌≡◌, ◌≤ℤ◌, ◌≤◌}
pub use Rattle.std.proofs.Common.{add-one, All, ap, append-nil, append_assoc, ap₂, arith, drop}
pub use Rattle.std.proofs.Common.{get_or, IfOk, length, length-append, List, map, min, refl, rules}
pub use Rattle.std.proofs.Common.{subst, sym, take}
pub use Rattle.std.proofs.Math.Seq.{take-suc}
pub use Rattle.std.proofs.lemmas.Bool.Decides.{nat_tests}
pub use Rattle.std.proofs.lemmas.Int.{ints}
pub use Rattle.std.proofs.lemmas.List.{length-map, map-append}
pub use Rattle.std.proofs.lemmas.List.Elements.{All-nil}
pub use Rattle.std.specs.Prelude.{ℤ, ⊤, ◌+ℤ◌, Bool, bytes_eq, Err, false, IfErr, IfSome}
pub use Rattle.std.specs.Prelude.{if◌then◌else◌, int_le, is_some, nat_lt, None, Ok, Option, pos}
pub use Rattle.std.specs.Prelude.{Result, slice_get, Some, true, unsigned_abs, unwrap_or}
pub use Prim.Native.Nat.{suc, zero}
pub use Rattle.mu_num.specs.Fraction.{Fraction, whole}
pub use Rattle.mu_tree.proofs.Nesting.{item_within, loop_size}
pub use Rattle.mu_tree.specs.Expression.{Expression, expression, Factors, factors_of, Reference}
pub use Rattle.mu_tree.specs.Expression.{scaled, signed, Terms, terms_of}
pub use Rattle.mu_tree.specs.FlatExpression.{flat_branch, flat_expression, flat_scaled, flat_signed}
pub use Rattle.mu_tree.specs.FlatExpression.{flat_variable, FlatAction, FlatBranchTree}
pub use Rattle.mu_tree.specs.FlatExpression.{FlatEquationTree, FlatExpression, FlatModelTree}
pub use Rattle.mu_tree.specs.FlatExpression.{FlatScaled, FlatSigned, FlatVariable}
pub use Rattle.mu_tree.specs.FlatModels.{HasRole, IsFlatClause, IsFlatExpression, IsFlatModel}
pub use Rattle.mu_tree.specs.FlatModels.{target_role}
pub use Rattle.mu_tree.specs.ModelTree.{branch, BranchTree, clauses_of, ClauseTrees, equations_of}
pub use Rattle.mu_tree.specs.ModelTree.{EquationTrees, model, ModelTree, Range, range, statement}
pub use Rattle.mu_tree.specs.ModelTree.{statements_of, StatementTrees}
pub use Rattle.mu_tree.specs.Nests.{Each, equation_items, item_size, item_then, list_size, NestTree}
pub use Rattle.mu_tree.specs.Nests.{NestTrees, no_items, One, range_of, statement_items}
pub use Rattle.mu_tree.specs.declared.flat.FlatRole.{FlatRole}
pub use Rattle.mu_tree.specs.declared.flat.FlatRole.TheVariants.{Algebraic, Discrete, State}
pub use Rattle.mu_tree.specs.declared.flat.FlatVar.{FlatVar}
pub use Rattle.mu_tree.specs.declared.tree.Branch.{Branch}
pub use Rattle.mu_tree.specs.declared.tree.Statement.{Statement}
pub use Rattle.mu_names.specs.NameTables.{added_at}
pub use Rattle.mu_names.specs.declared.declared_scope.Known.{Known}
pub use Rattle.mu_causal.specs.Dependencies.{IsNumbered}
pub use Rattle.mu_unroll.specs.ConstantFolding.{IsSameBranches, IsSameConstant, IsSameExpression}
pub use Rattle.mu_unroll.specs.ConstantFolding.{IsSameFactors, IsSameStatements, IsSameStep}
pub use Rattle.mu_unroll.specs.ConstantFolding.{IsSameTerms}
pub use Rattle.mu_unroll.specs.ConstantValues.{bind_result, constant_value, product_value}
pub use Rattle.mu_unroll.specs.ConstantValues.{sum_value, whole_at, zero_value}
pub use Rattle.mu_unroll.specs.Counting.{factor_nodes, no_counts, node_count, term_nodes, with_item}
pub use Rattle.mu_unroll.specs.Counting.{with_round}
pub use Rattle.mu_unroll.specs.Environments.{progress_of}
pub use Rattle.mu_unroll.specs.Flattening.{constants_in, flattened, flattened_factors}
pub use Rattle.mu_unroll.specs.Flattening.{flattened_terms, found, number_of_kind}
pub use Rattle.mu_unroll.specs.ListUnrolling.{in_order, in_rounds}
pub use Rattle.mu_unroll.specs.Listing.{listed}
pub use Rattle.mu_unroll.specs.LoopBounds.{AreRoundsBounded, bounds_of}
pub use Rattle.mu_unroll.specs.Nexts.{next_number}
pub use Rattle.mu_unroll.specs.UnrollFaults.{IsFault}
pub use Rattle.mu_unroll.specs.Unrolling.{assign_to, clause_once, declared_in, equation_for}
pub use Rattle.mu_unroll.specs.Unrolling.{equation_once, inside, looped, one_statement, Progress}
pub use Rattle.mu_unroll.specs.Unrolling.{progress, repeated, restart_of, rounds_from, start_at}
pub use Rattle.mu_unroll.specs.Unrolling.{start_once, statement_once, Step, unrolled}
pub use Rattle.mu_unroll.specs.Unrolling.{unrolled_branch, unrolled_branches, unrolled_clauses}
pub use Rattle.mu_unroll.specs.Unrolling.{unrolled_equations, unrolled_item, unrolled_items}
pub use Rattle.mu_unroll.specs.Unrolling.{unrolled_starts, unrolled_statement, unrolled_statements}
pub use Rattle.mu_unroll.specs.Unrolling.{unrolled_with, with_maybe, with_more, with_start}
pub use Rattle.mu_unroll.specs.VariablePlaces.{ArePlaced, constant_of, count_of_kind, element_name}
pub use Rattle.mu_unroll.specs.VariablePlaces.{elements_from, first_meant, first_of_kind, has_kind}
pub use Rattle.mu_unroll.specs.VariablePlaces.{kind_of, loop_value, meant_after, meant_in, scalar}
pub use Rattle.mu_unroll.specs.VariablePlaces.{scalar_count, scalars_in, scalars_of_kind, width}
pub use Rattle.mu_unroll.specs.VariableTables.{denoted, meant_at}
pub use Rattle.mu_unroll.specs.WellFormed.{HasSmallPowers, IsWellFormed, ItemHas, ItemsHave}
pub use Rattle.mu_unroll.specs.declared.environment.Environment.{Environment}
pub use Rattle.mu_unroll.specs.declared.environment.LoopVar.{LoopVar}
pub use Rattle.mu_unroll.specs.declared.environment.NameDenotation.{NameDenotation}
pub use Rattle.mu_unroll.specs.declared.environment.NameDenotation.TheVariants.{Constant, Nothing}
pub use Rattle.mu_unroll.specs.declared.environment.NameDenotation.TheVariants.{Variable}
pub use Rattle.mu_unroll.specs.declared.environment.ResolvedReference.{ResolvedReference}
pub use Rattle.mu_unroll.specs.declared.unroll_counts.Counts.{Counts}
pub use Rattle.mu_unroll.specs.declared.unroll_fault.UnrollErr.{UnrollErr}
pub use Rattle.mu_unroll.specs.declared.unroll_fault.UnrollErr.TheVariants.{Index, TooMany}
pub use Rattle.mu_unroll.specs.declared.unrolled_values.Rounds.{Rounds}
