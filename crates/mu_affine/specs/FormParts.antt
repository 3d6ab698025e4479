-- The operations on affine forms with their errors: sums, products, quotients and powers.
use Rattle.std.specs.Prelude.{ℕ, Bool, true, false, not, ◌&&◌, ◌≡◌, if◌then◌else◌, Result, Ok, Err}
use Rattle.mu_num.specs.declared.NumErr.{NumErr}
use Rattle.mu_num.specs.declared.NumErr.TheVariants.{ZeroDivisor}
use Rattle.mu_num.specs.Fraction.{Fraction, power, checked}
use Rattle.mu_affine.specs.declared.affine_fault.AffineErr.{AffineErr}
use Rattle.mu_affine.specs.declared.affine_fault.AffineErr.TheVariants.{NotAffine, TimeHere}
use Rattle.mu_affine.specs.declared.affine_fault.AffineErr.TheVariants.{ConstFault, TooDense}
use Rattle.mu_affine.specs.declared.affine_fault.AffineErr.TheVariants.{Memory}
use Rattle.mu_affine.specs.declared.exact_form.Place.{Place}
use Rattle.mu_affine.specs.declared.exact_form.ExactForm.{ExactForm}
use Rattle.mu_affine.specs.AffineForm.{AffineForm, is_nonzero, constant_form, has_coefficient}
use Rattle.mu_affine.specs.AffineForm.{has_pairs, may_multiply, combined, product_form}
use Rattle.mu_affine.specs.AffineForm.{quotient_form, checked_form}
use Rattle.mu_affine.specs.FormRows.{joined}
use Rattle.mu_affine.specs.FinishedForms.{form_meaning, IsFinished}

-- a result with the byte offset of its error
abbrev pub placed : {A : Type 0} → ℕ → Result A NumErr → Result A AffineErr
placed at (Ok a) = Ok a
placed at (Err fault) = Err (ConstFault at fault)

-- a form with pairs of variables is allowed only in equations
abbrev pub kept : Place → ℕ → AffineForm → Result AffineForm AffineErr
kept p at f = if has_pairs p.sizes f && not p.in_equation then Err (NotAffine at) else Ok f

-- applies the next operation unless there is an error
abbrev pub then_form : Result AffineForm AffineErr → (AffineForm → Result AffineForm AffineErr) → Result AffineForm AffineErr
then_form (Ok f) next = next f
then_form (Err fault) next = Err fault

-- the sum or difference of two forms
abbrev pub join_forms : Place → Bool → ℕ → AffineForm → AffineForm → Result AffineForm AffineErr
join_forms p minus at f g = placed at (checked_form p.sizes (combined (joined minus) f g))

-- The product or quotient of two forms. A product that is not affine is reported before a number
-- out of range.
abbrev pub multiply_forms : Place → (divide : Bool) → ℕ → AffineForm → AffineForm → Result AffineForm AffineErr
multiply_forms p false at f g =
    if may_multiply p.sizes f g then then_form (kept p at (product_form p.sizes f g)) (λ h. placed at (checked_form p.sizes h)) else Err (NotAffine at)
multiply_forms p true at f g =
    if has_coefficient p.sizes g then Err (NotAffine at)
    else (if is_nonzero g.constant then placed at (checked_form p.sizes (quotient_form f g.constant)) else Err (ConstFault at ZeroDivisor))

-- a power of a constant
abbrev pub raise_form : Place → ℕ → ℕ → AffineForm → Result AffineForm AffineErr
raise_form p exp at f = if has_coefficient p.sizes f then Err (NotAffine at) else placed at (constant_of (checked (power f.constant exp)))
  where
    constant_of : Result Fraction NumErr → Result AffineForm NumErr
    constant_of (Ok a) = Ok (constant_form a)
    constant_of (Err fault) = Err fault

-- The result is the expected form, finished, or the expected error. An allocation failure is always
-- allowed.
abbrev pub IsAnswer : Place → Result AffineForm AffineErr → Result ExactForm AffineErr → Type 0
IsAnswer p expected (Ok f) = (expected ≡ Ok (form_meaning f)) × IsFinished p f
IsAnswer p expected (Err (NotAffine at)) = expected ≡ Err (NotAffine at)
IsAnswer p expected (Err (TimeHere at)) = expected ≡ Err (TimeHere at)
IsAnswer p expected (Err (ConstFault at fault)) = expected ≡ Err (ConstFault at fault)
IsAnswer p expected (Err (TooDense count)) = expected ≡ Err (TooDense count)
IsAnswer p expected (Err Memory) = Unit {0}
