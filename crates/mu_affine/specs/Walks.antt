-- The inputs of the code that computes the form of an expression.
use Rattle.std.specs.Prelude.{ℕ, Bool, true, false, ◌≡◌, ◌<◌, ◌+◌, List, slice_get, Option, Some}
use Rattle.std.specs.Prelude.{None, Result, Ok, Err}
use Rattle.mu_affine.specs.declared.exact_form.Place.{Place}
use Rattle.mu_affine.specs.declared.exact_form.ExactForm.{ExactForm}
use Rattle.mu_affine.specs.declared.form_sum.RunningForm.{RunningForm}
use Rattle.mu_affine.specs.declared.affine_fault.AffineErr.{AffineErr}
use Rattle.mu_affine.specs.AffineForm.{AffineForm, none, constant_form}
use Rattle.mu_affine.specs.FinishedForms.{form_meaning, sum_meaning, IsOver, IsFinished}
use Rattle.mu_affine.specs.FinishedForms.{IsReducedSum}
use Rattle.mu_affine.specs.FormParts.{join_forms, IsAnswer}
use Rattle.mu_affine.specs.FormOf.{Context}
use Rattle.mu_tree.specs.FlatExpression.{FlatExpression, Constant, Variable, Previous, Now, Sum}
use Rattle.mu_tree.specs.FlatExpression.{Product, Power, FlatTerms, no_terms, term, FlatFactors}
use Rattle.mu_tree.specs.FlatExpression.{no_factors, factor, FlatAction, Assign, Restart}

-- the forms of a list by number, 0 after its end
abbrev pub forms_in : List ExactForm → ℕ → AffineForm
forms_in solved v = form_in (slice_get solved v)
  where
    form_in : Option ExactForm → AffineForm
    form_in None = constant_form none
    form_in (Some f) = form_meaning f

-- the context with the forms of a list
abbrev pub context_of : Place → List ExactForm → Context
context_of p solved = record { place = p; forms = forms_in solved }

-- each form of the list is finished as a form of an equation
abbrev pub AreSolved : Place → List ExactForm → Type 0
AreSolved p solved = (v : ℕ) (f : ExactForm) → slice_get solved v ≡ Some f → IsFinished (record p { in_equation = true }) f

abbrev mutual
  -- All variable numbers in an expression are valid. Previous values occur only outside equations
  -- and are not of algebraic variables.
  pub IsNumbered : Place → (variables : ℕ) → FlatExpression → Type 0
  IsNumbered p n (Constant a at) = Unit {0}
  IsNumbered p n (Variable v at) = v < n
  IsNumbered p n (Previous v at) = (p.in_equation ≡ false) × (v < p.sizes.states + p.sizes.discretes)
  IsNumbered p n (Now at) = Unit {0}
  IsNumbered p n (Sum ts) = AreNumbered p n ts
  IsNumbered p n (Product fs) = AreNumberedFactors p n fs
  IsNumbered p n (Power e exp at) = IsNumbered p n e

  pub AreNumbered : Place → ℕ → FlatTerms → Type 0
  AreNumbered p n no_terms = Unit {0}
  AreNumbered p n (term minus at e ts) = IsNumbered p n e × AreNumbered p n ts

  pub AreNumberedFactors : Place → ℕ → FlatFactors → Type 0
  AreNumberedFactors p n no_factors = Unit {0}
  AreNumberedFactors p n (factor divide at e fs) = IsNumbered p n e × AreNumberedFactors p n fs

-- the result of adding a form to a sum at a place, and the new sum
abbrev pub JoinsTerm : Place → (minus : Bool) → (at : ℕ) → (old new : RunningForm) → ExactForm → Result (Unit {0}) AffineErr → Type 0
JoinsTerm p minus at old new f (Ok done) =
    (join_forms p minus at (sum_meaning old) (form_meaning f) ≡ Ok (sum_meaning new)) × IsReducedSum new × IsOver p (sum_meaning new)
JoinsTerm p minus at old new f (Err fault) = IsAnswer p (join_forms p minus at (sum_meaning old) (form_meaning f)) (Err fault)

-- all variables in a statement's value have valid numbers
abbrev pub IsNumberedAction : Place → (variables : ℕ) → FlatAction → Type 0
IsNumberedAction p n (Assign v e) = IsNumbered p n e
IsNumberedAction p n (Restart v e) = IsNumbered p n e
