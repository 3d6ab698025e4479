-- The names of other crates that the clauses of this crate cite, passed on from one place. Declares nothing.
pub use Rattle.std.specs.List.{position_from}
pub use Rattle.std.specs.Option.{option_map}
pub use Rattle.std.specs.Str.{all_ascii_digits}
pub use Rattle.std.specs.Str.Parse.{digits_value}
pub use Rattle.cert_matrix.specs.Form.{diagonal, form, minus_gram, off_diagonal_sum, product as matrix_product, times}
pub use Rattle.cert_matrix.specs.Matrix.{IsInRange, IsSquare, table, vector, weight}
pub use Rattle.cert_matrix.specs.RangedSums.{total_of, weight_of}
pub use Rattle.csv.specs.Reading.{error_kind, stops_reader}
pub use Rattle.csv.specs.Records.{fields_of}
pub use Rattle.csv.specs.Writing.{default_writer, row_text}
pub use Rattle.mu_num.specs.IndexedSums.{int_at, sum_below}
pub use Rattle.mu_num.specs.Limits.{certificate_length_limit, relative_unit, sum_limit}
pub use Rattle.mu_num.specs.Sizes.{IsWithin}
pub use Rattle.qss_machine.specs.Legitimate.{start_coefficient, start_constant_part}
pub use Rattle.qss_machine.specs.MachineLimits.{IsRow}
pub use Rattle.qss_machine.specs.Machines.{discrete_count, quanta, start_discretes, start_states, state_count}
pub use Rattle.qss_machine.specs.Slopes.{constant_part, mode_coefficient, products_of}
pub use Rattle.qss_machine.specs.declared.compiled_machine.Machine.{Machine}
