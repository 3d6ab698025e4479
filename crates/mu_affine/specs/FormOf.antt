-- The affine form of an expression, defined by recursion on the expression.
use Rattle.std.specs.Prelude.{ℕ, pos, ◌+◌, nat_lt, if◌then◌else◌, Result, Ok, Err}
use Rattle.mu_num.specs.Fraction.{whole}
use Rattle.mu_affine.specs.declared.affine_fault.AffineErr.{AffineErr}
use Rattle.mu_affine.specs.declared.affine_fault.AffineErr.TheVariants.{TimeHere}
use Rattle.mu_affine.specs.declared.exact_form.Place.{Place}
use Rattle.mu_affine.specs.AffineForm.{AffineForm, constant_form, name_form, time_form}
use Rattle.mu_affine.specs.FormParts.{kept, then_form, join_forms, multiply_forms, raise_form}
use Rattle.mu_tree.specs.FlatExpression.{FlatExpression, Constant, Variable, Previous, Now, Sum}
use Rattle.mu_tree.specs.FlatExpression.{Product, Power, FlatTerms, no_terms, term, FlatFactors}
use Rattle.mu_tree.specs.FlatExpression.{no_factors, factor}

-- the context of an expression: its place, and the forms of the algebraic variables by number
pub record Context : Type 0 where
  pub place : Place
  pub forms : ℕ → AffineForm

-- the form of a variable: a coefficient 1 for a state or discrete variable, the solved form for an
-- algebraic variable
abbrev pub variable_form : Context → ℕ → AffineForm
variable_form c v = if nat_lt v (c.place.sizes.states + c.place.sizes.discretes) then name_form v else c.forms v

abbrev mutual
  -- the form of an expression
  pub form_of : Context → FlatExpression → Result AffineForm AffineErr
  form_of c (Constant a at) = Ok (constant_form a)
  form_of c (Variable v at) = kept c.place at (variable_form c v)
  form_of c (Previous v at) = Ok (name_form (v + c.place.sizes.discretes))
  form_of c (Now at) = if c.place.in_equation then Err (TimeHere at) else Ok time_form
  form_of c (Sum ts) = sum_form c (Ok (constant_form (whole (pos 0)))) ts
  form_of c (Product fs) = product_of c (Ok (constant_form (whole (pos 1)))) fs
  form_of c (Power base exp at) = then_form (form_of c base) (raise_form c.place exp at)

  -- the form of a sum, term by term from the left
  pub sum_form : Context → Result AffineForm AffineErr → FlatTerms → Result AffineForm AffineErr
  sum_form c total no_terms = total
  sum_form c total (term minus at e rest) = sum_form c (then_form total (λ f. then_form (form_of c e) (join_forms c.place minus at f))) rest

  -- the form of a product, factor by factor from the left
  pub product_of : Context → Result AffineForm AffineErr → FlatFactors → Result AffineForm AffineErr
  product_of c total no_factors = total
  product_of c total (factor divide at e rest) = product_of c (then_form total (λ f. then_form (form_of c e) (multiply_forms c.place divide at f))) rest
