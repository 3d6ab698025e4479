-- The names of other crates that the clauses of this crate cite, passed on from one place. Declares nothing.
pub use Rattle.mu_num.specs.Limits.{IsLevel, IsQuantum, IsSlope, IsState, tick_limit}
pub use Rattle.mu_num.specs.Sizes.{IsPositiveWithin, IsWithin}
pub use Rattle.mu_num.specs.Ticks.{FirstAfter}
