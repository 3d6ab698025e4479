-- The names of this crate that clauses of many subjects cite, passed on from one place. Declares nothing.
pub use Rattle.mu_names.specs.DeclaredRoles.{is_among, name_kind_in}
pub use Rattle.mu_names.specs.LeastFaults.{least_of}
pub use Rattle.mu_names.specs.NameTables.{name_kind_at}
pub use Rattle.mu_names.specs.Naming.{branch_faults, branches_faults, clause_faults, equation_faults, expression_faults, factors_faults, loop_faults, named_faults, one_equation_faults, one_start_faults, one_statement_faults, range_faults, reference_faults, sides_faults, start_faults, statement_faults, taken_faults, terms_faults, time_faults, unless_loop}
pub use Rattle.mu_names.specs.Roles.{IsRefusal, model_faults, scope_of}
