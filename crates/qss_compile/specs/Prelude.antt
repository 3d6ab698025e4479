-- The names of other crates that the clauses of this crate cite, passed on from one place. Declares nothing.
pub use Rattle.std.specs.Fmt.{signed_decimal}
pub use Rattle.mu_causal.specs.Dependencies.{IsNumbered}
pub use Rattle.mu_num.specs.Limits.{model_length_limit}
pub use Rattle.mu_tree.specs.FlatExpression.{flat_model}
pub use Rattle.mu_tree.specs.FlatModels.{IsFlatModel}
pub use Rattle.mu_tree.specs.ModelTree.{model}
