-- The names of other crates that the clauses of this crate cite, passed on from one place. Declares nothing.
pub use Rattle.std.specs.List.{list_all}
pub use Rattle.std.specs.Ordering.{nat_cmp}
pub use Rattle.mu_causal.specs.Causality.{IsOrder}
pub use Rattle.mu_causal.specs.Dependencies.{DependsOn, EachHasOneEquation, IsAlgebraic}
pub use Rattle.mu_num.specs.Fraction.{checked, whole}
pub use Rattle.mu_num.specs.Limits.{AreLevels, IsLevel, tick_limit, variable_limit}
pub use Rattle.mu_num.specs.Sizes.{exceeds}
pub use Rattle.mu_tree.specs.FlatExpression.{FlatModelTree, Variable, flat_action, flat_branch, flat_clause, flat_equation, flat_expression, flat_factors_of, flat_model, flat_scaled, flat_signed, flat_terms_of, flat_variable}
pub use Rattle.mu_tree.specs.FlatModels.{IsFlatModel}
pub use Rattle.mu_tree.specs.declared.flat.FlatRole.TheVariants.{Discrete, State}
pub use Rattle.qss_machine.specs.MachineLimits.{AreClauses, AreRows, AreVariables, HasUnits}
