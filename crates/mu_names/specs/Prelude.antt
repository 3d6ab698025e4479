-- The names of other crates that the clauses of this crate cite, passed on from one place. Declares nothing.
pub use Rattle.std.specs.Option.{option_map}
pub use Rattle.std.specs.List.{flat_map}
pub use Rattle.mu_num.specs.Fraction.{Fraction, whole}
pub use Rattle.mu_num.specs.declared.NumErr.{NumErr}
pub use Rattle.mu_tree.specs.Expression.{expression, factors_of, reference, scaled, signed, terms_of}
pub use Rattle.mu_tree.specs.ModelTree.{EachClause, EachEquation, EachStatement, Range, branch, clause, clauses_of, condition, declaration, equation, equations_of, model, range, setting, statement, statements_of}
pub use Rattle.mu_tree.specs.Nests.{Each, clause_item, clause_items_of, equation_item, equation_items_of, range_of, statement_item, statement_items_of}
