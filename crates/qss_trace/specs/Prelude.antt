-- The names of other crates that the clauses of this crate cite, passed on from one place. Declares nothing.
pub use Rattle.std.specs.List.{position_from}
pub use Rattle.std.specs.Option.{option_map}
pub use Rattle.cert_check.specs.CertificateData.{system}
pub use Rattle.cert_check.specs.CertificateLimits.{IsSize}
pub use Rattle.cert_check.specs.CertificateLines.{ParsesAs, line}
pub use Rattle.cert_check.specs.Layout.{keyword_of}
pub use Rattle.cert_matrix.specs.Form.{times}
pub use Rattle.cert_matrix.specs.Matrix.{table, vector}
pub use Rattle.csv.specs.Reading.{error_kind, stops_reader}
pub use Rattle.csv.specs.Records.{fields_of}
pub use Rattle.mu_num.specs.Limits.{IsLevel, IsState, sum_limit, tick_limit, trace_length_limit}
pub use Rattle.mu_num.specs.Sizes.{IsWithin}
pub use Rattle.qss_machine.specs.Legitimate.{entry_at}
pub use Rattle.qss_machine.specs.Machines.{state_count}
