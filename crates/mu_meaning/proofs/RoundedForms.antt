-- Rounded rows and forms have the rounded numbers of their affine forms.
use Rattle.mu_meaning.proofs.Common
use Common.{ℕ, ◌+◌, ◌≡◌, Bool, coefficient_of, ExactForm, false, form_meaning, HasDenominators}
use Common.{is_nonzero, IsFormOf, IsRounded, IsRowOf, Place, pos, product_coefficient, refl}
use Common.{rounded_entries, rounded_form, rounded_products, rounded_row, subst, sym, true}
use Common.{zero_num}
use Rattle.mu_affine.specs.FinishedForms.{IsFinished}
use Rattle.mu_meaning.proofs.Coefficients.{rounded_near, coefficient_of_entry, products_coefficient}

-- the coefficients of a finished form
entries_near : (place : Place) (p : ℕ) (g : ExactForm) → IsFinished place g → HasDenominators
    (form_meaning g) → (v : ℕ) → IsRounded p ((form_meaning g).coefficient v)
    (coefficient_of (rounded_entries p g.entries) v)
entries_near place p g h g> v =
    subst (IsRounded p ((form_meaning g).coefficient v))
    (sym (coefficient_of_entry p g.entries v h.canonical.names.rising))
    (rounded_near p ((form_meaning g).coefficient v) (g>.coefficients v))

products_near : (place : Place) (p : ℕ) (g : ExactForm) → IsFinished place g → HasDenominators
    (form_meaning g) → (s d : ℕ) → IsRounded p ((form_meaning g).paired s d)
    (product_coefficient (rounded_products p g.products) s d)
products_near place p g h g> s d =
    subst (IsRounded p ((form_meaning g).paired s d))
    (sym (products_coefficient p g.products s d h.canonical.pairs.rising))
    (rounded_near p ((form_meaning g).paired s d) (g>.pairs s d))

pub row_near : (place : Place) (p f : ℕ) (g : ExactForm) → IsFinished place g → HasDenominators
    (form_meaning g) → (form_meaning g).time.num ≡ pos 0 → IsRowOf IsRounded p f (form_meaning g)
    (rounded_row p f g)
row_near place p f g h g> timeless = record {
  coefficients = entries_near place p g h g>;
  products = products_near place p g h g>;
  constant = rounded_near (f + p) g.constant g>.constant;
  no_time = timeless;
}

pub form_near : (place : Place) (p f : ℕ) (g : ExactForm) → place.in_equation ≡ false → IsFinished
    place g → HasDenominators (form_meaning g) → IsFormOf IsRounded p f (form_meaning g)
    (rounded_form p f g)
form_near place p f g clause h g> = record {
  coefficients = entries_near place p g h g>;
  time = rounded_near p g.time g>.time;
  constant = rounded_near (f + p) g.constant g>.constant;
  no_products = λ s d. none s d (is_nonzero ((form_meaning g).paired s d)) refl;
}
  where
    none : (s d : ℕ) (b : Bool) → is_nonzero ((form_meaning g).paired s d) ≡ b →
        ((form_meaning g).paired s d).num ≡ pos 0
    none s d true is = absurd (let inside = (h.over.pairs s d is).1 in cc)
    none s d false is = zero_num ((form_meaning g).paired s d) is
