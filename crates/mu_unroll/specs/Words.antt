-- The names of this crate that clauses of many subjects cite, passed on from one place. Declares nothing.
pub use Rattle.mu_unroll.specs.ConstantFolding.{IsSameStep}
pub use Rattle.mu_unroll.specs.Environments.{HasSameNames, progress_of}
pub use Rattle.mu_unroll.specs.ListUnrolling.{in_order, in_rounds, loop_in_rounds, unless_loop}
pub use Rattle.mu_unroll.specs.Listing.{listed}
pub use Rattle.mu_unroll.specs.UnrollFaults.{IsFault}
pub use Rattle.mu_unroll.specs.Unrolling.{Progress, Step, clause_once, equation_once, one_clause, one_equation, one_start, one_statement, start_at, start_once, statement_once, unrolled, unrolled_branch, unrolled_branches, unrolled_clause, unrolled_equation, unrolled_start, unrolled_statement, unrolled_statements, unrolled_with, with_start}
pub use Rattle.mu_unroll.specs.VariablePlaces.{ArePlaced}
pub use Rattle.mu_unroll.specs.VariableTables.{denoted, meant_at}
pub use Rattle.mu_unroll.specs.WellFormed.{IsWellFormed}
pub use Rattle.mu_unroll.specs.declared.environment.LoopVar.{LoopVar}
pub use Rattle.mu_unroll.specs.declared.environment.NameDenotation.{NameDenotation}
