-- The names of other crates that the clauses of this crate cite, passed on from one place. Declares nothing.
pub use Rattle.mu_num.specs.Limits.{bits_of_level, bits_of_state, condition_limit}
pub use Rattle.mu_num.specs.Rounding.{nearest_of}
pub use Rattle.mu_num.specs.Sizes.{exceeds}
pub use Rattle.qss_machine.specs.Handlers.{fire_row, run_action, run_branch}
pub use Rattle.qss_machine.specs.MachineLimits.{IsAction, IsBounded}
pub use Rattle.qss_machine.specs.Machines.{discrete_count, start_discretes, start_states, state_count, value_of}
