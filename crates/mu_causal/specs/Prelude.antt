-- The names of other crates that the clauses of this crate cite, passed on from one place. Declares nothing.
pub use Rattle.mu_tree.specs.FlatExpression.{FlatModelTree, flat_equation, flat_expression, flat_factors_of, flat_model, flat_scaled, flat_signed, flat_terms_of, flat_variable}
