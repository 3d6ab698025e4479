-- The names of other crates that the clauses of this crate cite, passed on from one place. Declares nothing.
pub use Rattle.mu_causal.specs.Dependencies.{IsNumbered}
pub use Rattle.mu_num.specs.Decimal.{decimal_value}
pub use Rattle.mu_num.specs.Fraction.{whole}
pub use Rattle.mu_num.specs.Limits.{variable_limit}
pub use Rattle.mu_tree.specs.Expression.{Product, Sum, Variable, expression, factors_of, reference, scaled, signed, terms_of}
pub use Rattle.mu_tree.specs.FlatExpression.{FlatAction, FlatBranchTree, FlatEquationTree, FlatVariable, flat_action, flat_branch, flat_clause, flat_equation, flat_expression, flat_model, flat_scaled, flat_signed, flat_variable}
pub use Rattle.mu_tree.specs.FlatModels.{IsFlatModel, target_role}
pub use Rattle.mu_tree.specs.ModelTree.{EachClause, EachEquation, EachStatement, Range, branch, clause, clauses_of, equation, equations_of, model, statement, statements_of}
pub use Rattle.mu_tree.specs.Nests.{Each, clause_item, clause_items_of, equation_item, equation_items_of, statement_item, statement_items_of}
