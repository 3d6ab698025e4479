-- What products, quotients and powers of forms are, by the kinds of their parts.
use Rattle.mu_affine.proofs.Common
use Common.{*ℤ-zero, ℕ, ◌&&◌, ◌*ℤ◌, ◌+◌, ◌<◌, ◌∙◌, ◌≡◌, AffineForm, any_from, ap, arith, cases_Bool}
use Common.{checked, checked_form, constant_form, ConstFault, Err, ExactForm, false, form_meaning}
use Common.{Fraction, fun_ext, if◌then◌else◌, inl, inr, is_nonzero, is_small, IsConstant}
use Common.{IsFinished, lowest, lowest_form, map, multiply_forms, named, nat_cmp, none, not}
use Common.{NotAffine, NumErr, Ok, pair_cmp, paired, Place, pos, product, raise_form, Range, refl}
use Common.{Result, scaled_form, Sizes, sym, true}
use Rattle.mu_num.specs.declared.NumErr.TheVariants.{ZeroDivisor}
use Rattle.mu_num.specs.Fraction.{power}
use Rattle.mu_affine.specs.FormParts.{placed}
use Rattle.mu_affine.proofs.Fractions.{lowest-zero, zero_num, positive_product, IsReduced-none}
use Rattle.mu_affine.proofs.Fractions.{checked_same, checked-reduced}
use Rattle.mu_affine.proofs.Checks.{checked_form-passes}
use Rattle.mu_affine.proofs.Sums.{AreReduced-finished}
use Rattle.mu_affine.proofs.Showing.{constant_shows, variable_shows}

-- a form is checked by the lowest terms of its numbers
abbrev ranged : Sizes → AffineForm → Result AffineForm NumErr
ranged n h =
    if not (any_from 0 (n.states + n.discretes + n.discretes) (λ v. not (is_small (h.coefficient v))))
    && not (any_from 0 n.states (λ s. any_from n.states n.discretes (λ d. not (is_small (h.paired s d)))))
    && is_small h.time && is_small h.constant
    then Ok h else Err Range

-- two forms of the same values are checked to the same
pub record SameValues (f g : AffineForm) : Type 0 where
  pub names : (v : ℕ) → lowest (f.coefficient v) ≡ lowest (g.coefficient v)
  pub pairs : (s d : ℕ) → lowest (f.paired s d) ≡ lowest (g.paired s d)
  pub time : lowest f.time ≡ lowest g.time
  pub constant : lowest f.constant ≡ lowest g.constant

pub checked_form-same : (n : Sizes) (f g : AffineForm) → SameValues f g → checked_form n f ≡ checked_form n g
checked_form-same n f g h =
    let names : (lowest_form f).coefficient ≡ (lowest_form g).coefficient = fun_ext (λ v. h.names v) in
    let pairs : (lowest_form f).paired ≡ (lowest_form g).paired = fun_ext (λ s. fun_ext (λ d. h.pairs s d)) in
    let same : lowest_form f ≡ lowest_form g = λ i. record { coefficient = names i; paired = pairs i; time = h.time i; constant = h.constant i } in
    ap (ranged n) same

-- what is not 0
pub nonzero_else : (a : Fraction) → (is_nonzero a ≡ false → ⊥) → is_nonzero a ≡ true
nonzero_else a h = elim (cases_Bool (is_nonzero a)) [ inl is ↦ is | inr fails ↦ absurd (h fails) ]

-- a quotient by a constant that is not 0
pub quotient_is : (p : Place) (at : ℕ) (f g : ExactForm) → IsConstant g → is_nonzero g.constant ≡ true →
    multiply_forms p true at (form_meaning f) (form_meaning g) ≡ placed at (checked_form p.sizes (scaled_form true (form_meaning f) g.constant))
quotient_is p at f g k n = rw (constant_shows p g k, n) refl

-- and by one that is 0
pub quotient_by_zero : (p : Place) (at : ℕ) (f g : ExactForm) → IsConstant g → is_nonzero g.constant ≡ false →
    multiply_forms p true at (form_meaning f) (form_meaning g) ≡ Err (ConstFault at ZeroDivisor)
quotient_by_zero p at f g k n = rw (constant_shows p g k, n) refl

-- a quotient by a form with a coefficient
pub quotient_refused : (p : Place) (at : ℕ) (f g : ExactForm) → IsFinished p g → (IsConstant g → ⊥) → multiply_forms p true at (form_meaning f) (form_meaning g) ≡ Err (NotAffine at)
quotient_refused p at f g finished k = rw (variable_shows p g finished k) refl

-- a power of a form with a coefficient
pub power_refused : (p : Place) (exp at : ℕ) (f : ExactForm) → IsFinished p f → (IsConstant f → ⊥) → raise_form p exp at (form_meaning f) ≡ Err (NotAffine at)
power_refused p exp at f finished k = rw (variable_shows p f finished k) refl

-- a power of a constant
pub power_is : (p : Place) (exp at : ℕ) (f : ExactForm) (a : Fraction) → IsConstant f → checked (power f.constant exp) ≡ Ok a → raise_form p exp at (form_meaning f) ≡ Ok (constant_form a)
power_is p exp at f a k h = rw (constant_shows p f k, h) refl

pub power_fails : (p : Place) (exp at : ℕ) (f : ExactForm) (fault : NumErr) → IsConstant f → checked (power f.constant exp) ≡ Err fault → raise_form p exp at (form_meaning f) ≡ Err (ConstFault at fault)
power_fails p exp at f fault k h = rw (constant_shows p f k, h) refl

-- a form times 0 is 0
pub times_zero : (n : Sizes) (f : AffineForm) (by : Fraction) → is_nonzero by ≡ false → 0 < by.den → ((v : ℕ) → 0 < (f.coefficient v).den) → ((s d : ℕ) → 0 < (f.paired s d).den) → 0 < f.time.den → 0 < f.constant.den
    → checked_form n (scaled_form false f by) ≡ Ok (constant_form none)
times_zero n f by zero bypos names pairs time constant =
    checked_form-passes n (scaled_form false f by) (constant_form none) (record {
      names = λ v. zero_product (f.coefficient v) (names v);
      pairs = λ s d. zero_product (f.paired s d) (pairs s d);
      time = zero_product f.time time;
      constant = zero_product f.constant constant;
    })
  where
    zero_product : (a : Fraction) → 0 < a.den → checked (product a by) ≡ Ok none
    zero_product a h =
        let top : (product a by).num ≡ pos 0 = ap (λ z. a.num *ℤ z) (zero_num by zero) ∙ *ℤ-zero a.num in
        checked_same (product a by) none (lowest-zero (product a by) top (positive_product a.den by.den h bypos) ∙ sym (lowest-zero none refl (omega arith)))
        ∙ checked-reduced none IsReduced-none

-- the same of an exact form
pub form_times_zero : (p : Place) (at : ℕ) (f g : ExactForm) (by zero : Fraction) → IsFinished p f → is_nonzero by ≡ false → 0 < by.den → 0 < f.constant.den → form_meaning g ≡ constant_form zero → zero ≡ none
    → placed at (checked_form p.sizes (scaled_form false (form_meaning f) by)) ≡ Ok (form_meaning g)
form_times_zero p at f g by zero finished z pos_by pos_constant meaning is =
    let canonical = finished.canonical in
    let names : (v : ℕ) → 0 < ((form_meaning f).coefficient v).den = λ v. (AreReduced-finished nat_cmp (map named f.entries) canonical.names.each v).positive in
    let pairs : (s d : ℕ) → 0 < ((form_meaning f).paired s d).den = λ s d. (AreReduced-finished pair_cmp (map paired f.products) canonical.pairs.each (s, d)).positive in
    let e : checked_form p.sizes (scaled_form false (form_meaning f) by) ≡ Ok (constant_form none) = times_zero p.sizes (form_meaning f) by z pos_by names pairs canonical.time.positive pos_constant in
    ap (placed at) e ∙ ap Ok (ap constant_form (sym is) ∙ sym meaning)
