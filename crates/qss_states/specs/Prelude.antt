-- The names of other crates that the clauses of this crate cite, passed on from one place. Declares nothing.
pub use Rattle.std.specs.Option.{option_or}
pub use Rattle.mu_num.specs.IndexedSums.{first_exceeding, int_at, tabulate}
pub use Rattle.mu_num.specs.Limits.{AreLevels, IsLevel, IsSlope, IsState, bits_of_level, bits_of_state, tick_limit, variable_limit}
pub use Rattle.mu_num.specs.ListedPlaces.{AreRisingBelow, is_listed}
pub use Rattle.mu_num.specs.Sizes.{IsWithin, exceeds}
pub use Rattle.mu_num.specs.Writes.{IsFirstOf, IsWritten}
pub use Rattle.qss_events.specs.AllowedLevels.{IsAllowedLevel}
pub use Rattle.qss_events.specs.Schedules.{weights_at}
pub use Rattle.qss_hand.specs.Works.{overflow_of}
pub use Rattle.qss_machine.specs.Machines.{discrete_count, level_unit, mode_coefficient_at, quantum_of, row_coefficient, slope_at, state_count}
pub use Rattle.qss_machine.specs.Readers.{reading_rows, uses_of}
pub use Rattle.qss_machine.specs.Runs.{level_rows}
pub use Rattle.qss_machine.specs.Ticks.{IsNextLevel, exceeds_row_limits}
pub use Rattle.qss_quant.specs.IntegratorLines.{IsLineWithinQuantum, state_at}
pub use Rattle.qss_sched.specs.Ranks.{due_at}
