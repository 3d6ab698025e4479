-- The names of other crates that the clauses of this crate cite, passed on from one place. Declares nothing.
pub use Rattle.std.specs.Int.{int_wrap, w128}
pub use Rattle.std.specs.Io.KnownBytes.{Appends}
pub use Rattle.std.specs.List.{range_with_len}
pub use Rattle.std.specs.List.Sorted.{IsStrictlyIncreasing}
pub use Rattle.mu_io.specs.Sinks.{AppendsPrefix, EndsByFault}
pub use Rattle.mu_num.specs.Curves.{FirstUpTo, curve_at, sum_to}
pub use Rattle.mu_num.specs.IndexedSums.{abs_of, first_exceeding, int_at, tabulate}
pub use Rattle.mu_num.specs.Limits.{IsSecondLevel, IsSecondState, IsSlope, IsState, bits_of_second_level, bits_of_second_state, look_span, tick_limit, variable_limit}
pub use Rattle.mu_num.specs.ListedPlaces.{AreRisingBelow, is_listed}
pub use Rattle.mu_num.specs.Sizes.{IsPositiveWithin, IsWithin, exceeds}
pub use Rattle.mu_num.specs.Writes.{IsWritten}
pub use Rattle.qss_hand.specs.Works.{overflow_of}
pub use Rattle.qss_machine.specs.Legitimate.{start_coefficient, start_constant_part}
pub use Rattle.qss_machine.specs.MachineLimits.{AreProducts}
pub use Rattle.qss_machine.specs.Machines.{discrete_count, level_unit, start_discretes, state_count}
pub use Rattle.qss_machine.specs.Readers.{reading_rows, uses_of}
pub use Rattle.qss_machine.specs.Slopes.{coefficient_of, weighted_sum}
pub use Rattle.qss_rows.specs.HeldLines.{lines_in}
pub use Rattle.qss_rows.specs.PlainFields.{number_text}
pub use Rattle.qss_rows.specs.Simulations.{is_whole}
