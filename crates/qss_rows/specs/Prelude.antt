-- The names of other crates that the clauses of this crate cite, passed on from one place. Declares nothing.
pub use Rattle.std.specs.Fmt.{signed_decimal}
pub use Rattle.std.specs.Result.{result_err}
pub use Rattle.csv.specs.Writing.{default_writer, row_text, writer_pending}
pub use Rattle.qss_machine.specs.Machines.{discrete_count, state_count}
pub use Rattle.qss_machine.specs.declared.compiled_machine.Machine.{Machine}
