-- The names of other crates that the clauses of this crate cite, passed on from one place. Declares nothing.
pub use Rattle.std.specs.List.{list_any}
pub use Rattle.mu_num.specs.Levels.{level_below}
pub use Rattle.mu_num.specs.Limits.{IsLevel, variable_limit}
pub use Rattle.mu_num.specs.Sizes.{IsWithin}
pub use Rattle.qss_machine.specs.Handlers.{firing_flags}
pub use Rattle.qss_machine.specs.Machines.{level_unit, quantum_of, start_states, state_count}
pub use Rattle.qss_machine.specs.Runs.{discrete_rows}
pub use Rattle.qss_machine.specs.Ticks.{IsNextLevel}
pub use Rattle.qss_quant.specs.IntegratorLines.{IsAway, IsLineWithinQuantum}
