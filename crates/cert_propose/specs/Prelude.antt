-- The names of other crates that the clauses of this crate cite, passed on from one place. Declares nothing.
pub use Rattle.std.specs.Option.{option_and_then}
pub use Rattle.cert_check.specs.CertificateData.{system}
pub use Rattle.cert_check.specs.CertificateLimits.{IsSize, IsVector}
pub use Rattle.cert_check.specs.Scope.{IsInScope}
pub use Rattle.cert_check.specs.Systems.{system_of}
pub use Rattle.cert_matrix.specs.Form.{Table, Vector}
pub use Rattle.cert_matrix.specs.Matrix.{IsSquare, table, vector, weight, zeros}
pub use Rattle.cert_matrix.specs.RangedSums.{total_of, weight_of}
pub use Rattle.mu_num.specs.IndexedSums.{abs_of, sum_below, tabulate}
pub use Rattle.mu_num.specs.Rounding.{ceiling_of, nearest_of}
pub use Rattle.qss_machine.specs.Machines.{quanta, start_states, state_count}
