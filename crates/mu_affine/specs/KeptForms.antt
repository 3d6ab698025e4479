-- The forms of a flat model in a causal order, and the errors of their computation.
use Rattle.std.specs.Prelude.{ℕ, true, false, ◌≡◌, ◌<◌, ◌≤◌, List, map, Some, slice_get, Ok, Err}
use Rattle.mu_tree.specs.FlatExpression.{FlatModelTree}
use Rattle.mu_affine.specs.declared.exact_form.Place.{Place}
use Rattle.mu_affine.specs.declared.exact_form.ExactForm.{ExactForm}
use Rattle.mu_affine.specs.declared.exact_form.Forms.{Forms}
use Rattle.mu_affine.specs.FinishedForms.{form_meaning, IsFinished}
use Rattle.mu_affine.specs.declared.affine_fault.AffineErr.{AffineErr}
use Rattle.mu_affine.specs.declared.affine_fault.AffineErr.TheVariants.{NotAffine, TimeHere}
use Rattle.mu_affine.specs.declared.affine_fault.AffineErr.TheVariants.{ConstFault, TooDense}
use Rattle.mu_affine.specs.declared.affine_fault.AffineErr.TheVariants.{Memory}
use Rattle.mu_affine.specs.Solution.{sizes_of}
use Rattle.mu_affine.specs.FormSequence.{FormsSoFar, forms_of}

-- the place of the right-hand sides of equations, and the place of conditions and statements
abbrev pub equation_place : FlatModelTree → Place
equation_place m = record { sizes = sizes_of m; in_equation = true }

abbrev pub clause_place : FlatModelTree → Place
clause_place m = record { sizes = sizes_of m; in_equation = false }

-- the forms of a flat model with this causal order: those of the states, then those of the clauses
pub record AreForms (m : FlatModelTree) (order : List ℕ) (f : Forms) : Type 0 where
  pub taken : FormsSoFar
  pub is : forms_of m order ≡ Ok taken
  pub meanings : map form_meaning f.forms ≡ taken.kept
  pub states : (i : ℕ) (g : ExactForm) → i < (sizes_of m).states → slice_get f.forms i ≡ Some g → IsFinished (equation_place m) g
  pub others : (i : ℕ) (g : ExactForm) → (sizes_of m).states ≤ i → slice_get f.forms i ≡ Some g → IsFinished (clause_place m) g

-- the first error of the computation, or an allocation failure
abbrev pub IsAffineFault : FlatModelTree → List ℕ → AffineErr → Type 0
IsAffineFault m order (NotAffine at) = forms_of m order ≡ Err (NotAffine at)
IsAffineFault m order (TimeHere at) = forms_of m order ≡ Err (TimeHere at)
IsAffineFault m order (ConstFault at fault) = forms_of m order ≡ Err (ConstFault at fault)
IsAffineFault m order (TooDense count) = forms_of m order ≡ Err (TooDense count)
IsAffineFault m order Memory = Unit {0}
