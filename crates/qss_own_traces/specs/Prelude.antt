-- The names of other crates that the clauses of this crate cite, passed on from one place. Declares nothing.
pub use Rattle.std.specs.List.{list_any, range_with_len}
pub use Rattle.cert_check.specs.CertificateLimits.{IsSize}
pub use Rattle.cert_matrix.specs.Matrix.{table}
pub use Rattle.mu_num.specs.IndexedSums.{abs_of, first_exceeding, int_at, tabulate}
pub use Rattle.mu_num.specs.Levels.{floor_level}
pub use Rattle.mu_num.specs.Limits.{AreLevels, IsLevel, IsState, bits_of_second_state, sum_limit, variable_limit}
pub use Rattle.mu_num.specs.ListedPlaces.{flag_at}
pub use Rattle.mu_num.specs.Rounding.{floor_of}
pub use Rattle.mu_num.specs.Sizes.{IsPositiveWithin, IsWithin, exceeds}
pub use Rattle.qss_hand.specs.Works.{overflow_of}
pub use Rattle.qss_machine.specs.Machines.{level_unit, quanta, row_at, start_discretes, start_states, state_count}
pub use Rattle.qss_machine.specs.Ticks.{exceeds_row_limits, is_within_quantum, moved_states, next_levels, snapshot_unless, start_snapshot, step}
pub use Rattle.qss_order2.specs.SecondRunLimits.{AreHeld, past_levels}
pub use Rattle.qss_order2.specs.SecondSteps.{fine_levels, fine_states, first_exceeding_limit, is_limit_check, is_requantization, leaves_quantum, nearest_change, next_states, rise_at, second_snapshot_unless, second_step}
pub use Rattle.qss_trace.specs.Trace.{IsRunOf}
pub use Rattle.qss_trace.specs.TraceLimits.{ArePlaces, IsFactor}
pub use Rattle.qss_trace.specs.TracePlaces.{places}
pub use Rattle.qss_trace.specs.TraceSums.{IsSmall}
