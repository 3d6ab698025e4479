-- The names of other crates that the clauses of this crate cite, passed on from one place. Declares nothing.
pub use Rattle.mu_num.specs.IndexedSums.{int_at, sum_over}
pub use Rattle.mu_num.specs.Levels.{IsWithinOneLevel}
pub use Rattle.mu_num.specs.Limits.{IsLevel, IsQuantum, IsSlope, IsState, tick_limit}
pub use Rattle.mu_num.specs.Rounding.{nearest_of}
pub use Rattle.mu_num.specs.Sizes.{IsPositiveWithin, IsWithin}
pub use Rattle.qss_cross.specs.Crossing.{IsSmall, holds_at, value_at}
pub use Rattle.qss_machine.specs.MachineLimits.{AreProducts, IsRow}
pub use Rattle.qss_machine.specs.Machines.{discrete_count, level_unit, row_at, state_count}
pub use Rattle.qss_machine.specs.Readers.{row_reads}
pub use Rattle.qss_machine.specs.Slopes.{coefficient_of, mode_coefficient, products_of}
pub use Rattle.qss_machine.specs.Ticks.{is_within_quantum}
pub use Rattle.qss_machine.specs.declared.compiled_machine.Machine.{Machine}
pub use Rattle.qss_quant.specs.IntegratorLines.{state_at}
pub use Rattle.qss_quant.specs.LevelRules.{IsAnswer}
pub use Rattle.qss_quant.specs.declared.quantizer.Rule.{Rule}
