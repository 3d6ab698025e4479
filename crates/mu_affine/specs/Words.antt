-- The names of this crate that clauses of many subjects cite, passed on from one place. Declares nothing.
pub use Rattle.mu_affine.specs.AffineForm.{checked_form, constant_form, is_nonzero, name_form, none, product_form, time_form}
pub use Rattle.mu_affine.specs.FinishedForms.{IsFinished, IsOver, IsReducedSum, form_meaning, sum_meaning}
pub use Rattle.mu_affine.specs.FormOf.{form_of, product_of, sum_form}
pub use Rattle.mu_affine.specs.FormParts.{IsAnswer, join_forms, multiply_forms, placed, raise_form}
pub use Rattle.mu_affine.specs.FormRows.{ChangesAt, IsRising, named, pair_cmp, paired}
pub use Rattle.mu_affine.specs.FormSequence.{action_form, condition_form, counted, keep_actions, keep_branches, keep_clauses, keep_states, nothing_taken, right_side, solve, solve_all}
pub use Rattle.mu_affine.specs.KeptForms.{AreForms, IsAffineFault}
pub use Rattle.mu_affine.specs.Kinds.{IsConstant, IsOfDiscretes, IsOfStates, IsVariable}
pub use Rattle.mu_affine.specs.ProductRows.{Crosses, SetsList, SetsTable, beside}
pub use Rattle.mu_affine.specs.Scaling.{IsCheckedAnswer, ScalesList, scaled, scaled_form}
pub use Rattle.mu_affine.specs.Solution.{count_of_role, equation_context, sizes_of}
pub use Rattle.mu_affine.specs.Takings.{AreFirsts, AreZeros, IsKept, IsNumberedBranch, IsSolved, Keeps, KeepsAll, Solves, SolvesAll, kept_so_far, of_clauses, of_equations, solved_so_far, with_more}
pub use Rattle.mu_affine.specs.Walks.{AreNumbered, AreNumberedFactors, AreSolved, IsNumbered, IsNumberedAction, JoinsTerm, context_of, forms_in}
pub use Rattle.mu_affine.specs.declared.affine_fault.AffineErr.TheVariants.{TimeHere}
pub use Rattle.mu_affine.specs.declared.exact_form.Place.{Place}
