-- Classes of exact forms, read off their lists.
use Rattle.std.specs.Prelude.{◌≡◌, ◌<◌, ◌≤◌, ◌+◌, false, []}
use Rattle.std.specs.List.{All}
use Rattle.mu_affine.specs.declared.exact_form.Sizes.{Sizes}
use Rattle.mu_affine.specs.declared.exact_form.ExactForm.{ExactForm}
use Rattle.mu_affine.specs.declared.exact_form.Place.{Place}
use Rattle.mu_affine.specs.AffineForm.{is_nonzero}
use Rattle.mu_affine.specs.FinishedForms.{IsFinished}

-- a form without coefficients
pub record IsConstant (f : ExactForm) : Type 0 where
  pub names : f.entries ≡ []
  pub pairs : f.products ≡ []
  pub time : is_nonzero f.time ≡ false

-- a form with only coefficients of states
pub record IsOfStates (n : Sizes) (f : ExactForm) : Type 0 where
  pub names : All (λ e. e.var < n.states) f.entries
  pub pairs : f.products ≡ []
  pub time : is_nonzero f.time ≡ false

-- a form with only coefficients of discrete variables
pub record IsOfDiscretes (n : Sizes) (f : ExactForm) : Type 0 where
  pub names : All (λ e. (n.states ≤ e.var) × (e.var < n.states + n.discretes)) f.entries
  pub pairs : f.products ≡ []
  pub time : is_nonzero f.time ≡ false

-- a finished form that is not constant; the denominator of its constant is positive
pub record IsVariable (p : Place) (f : ExactForm) : Type 0 where
  pub finished : IsFinished p f
  pub variable : IsConstant f → ⊥
  pub positive : 0 < f.constant.den
