-- The names of other crates that the clauses of this crate cite, passed on from one place. Declares nothing.
pub use Rattle.std.specs.Int.{int_wrap, w128}
pub use Rattle.mu_num.specs.Limits.{tick_limit}
pub use Rattle.mu_num.specs.Ticks.{FirstAfter}
pub use Rattle.qss_machine.specs.Machines.{compares}
