-- The names of other crates that the clauses of this crate cite, passed on from one place. Declares nothing.
pub use Rattle.std.specs.Int.{int_max}
pub use Rattle.std.specs.List.{list_any}
pub use Rattle.std.specs.List.Sorted.{IsStrictlyIncreasing}
pub use Rattle.mu_num.specs.IndexedSums.{abs_of, int_at, sum_below, sum_over, tabulate}
pub use Rattle.mu_num.specs.Limits.{AreLevels, AreSlopes, AreStates, IsLevel, IsState, bits_of_weight, condition_limit, relative_limit, relative_unit, tick_limit, variable_limit}
pub use Rattle.mu_num.specs.Rounding.{nearest_of}
pub use Rattle.mu_num.specs.Sizes.{IsWithin, exceeds}
