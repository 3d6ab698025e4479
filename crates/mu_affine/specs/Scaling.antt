-- Multiplication and division of coefficients by a number.
use Rattle.std.specs.Prelude.{ℕ, Bool, true, false, ◌≡◌, List, map, Some, slice_get, Result, Ok}
use Rattle.std.specs.Prelude.{Err}
use Rattle.std.specs.List.{AllZip}
use Rattle.std.specs.declared.vec.Vec.{Vec}
use Rattle.std.specs.declared.alloc.Global.{Global}
use Rattle.mu_num.specs.declared.NumErr.{NumErr}
use Rattle.mu_num.specs.Fraction.{Fraction, product, quotient, checked}
use Rattle.mu_affine.specs.declared.exact_form.Place.{Place}
use Rattle.mu_affine.specs.declared.exact_form.ExactForm.{ExactForm}
use Rattle.mu_affine.specs.AffineForm.{AffineForm, checked_form}
use Rattle.mu_affine.specs.FinishedForms.{form_meaning, IsFinished}

-- the product or quotient of two fractions
abbrev pub scaled : (divide : Bool) → Fraction → Fraction → Fraction
scaled false a by = product a by
scaled true a by = quotient a by

-- the new list has each coefficient of the old one, multiplied or divided by the number, with the
-- same key
abbrev pub Scales : {K : Type 0} → (divide : Bool) → Fraction → (old new : List (K × Fraction)) → Type 0
Scales {K} divide by old new = AllZip (λ c d. (d.0 ≡ c.0) × (checked (scaled divide c.1 by) ≡ Ok d.1)) old new

-- multiplying or dividing some coefficient of the list fails
abbrev pub ScaleFails : {K : Type 0} → (divide : Bool) → Fraction → List (K × Fraction) → NumErr → Type 0
ScaleFails {K} divide by old fault = (i : ℕ) × (c : K × Fraction) × (slice_get old i ≡ Some c) × (checked (scaled divide c.1 by) ≡ Err fault)

-- the result of multiplying or dividing a list
abbrev pub ScalesList : {K E : Type 0} → (E → K × Fraction) → (divide : Bool) → Fraction → List E → Result (Vec E Global) NumErr → Type 0
ScalesList view divide by old (Ok new) = Scales divide by (map view old) (map view new.items)
ScalesList view divide by old (Err fault) = ScaleFails divide by (map view old) fault

-- the form with each number multiplied or divided by a number
abbrev pub scaled_form : (divide : Bool) → AffineForm → Fraction → AffineForm
scaled_form divide f by = record {
  coefficient = λ v. scaled divide (f.coefficient v) by;
  paired = λ s d. scaled divide (f.paired s d) by;
  time = scaled divide f.time by;
  constant = scaled divide f.constant by;
}

-- the result is the form with checked range, finished, or the error of the check
abbrev pub IsCheckedAnswer : Place → AffineForm → Result ExactForm NumErr → Type 0
IsCheckedAnswer p f (Ok g) = (checked_form p.sizes f ≡ Ok (form_meaning g)) × IsFinished p g
IsCheckedAnswer p f (Err fault) = checked_form p.sizes f ≡ Err fault
