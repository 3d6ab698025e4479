-- Products of forms.
use Rattle.mu_affine.proofs.Common
use Common.{*ℤ-zero, [], ℕ, ◌&&◌, ◌*ℤ◌, ◌+ℤ◌, ◌+◌, ◌<◌, ◌||◌, ◌∙◌, ◌∷◌, ◌≡◌, ◌≤◌, AffineForm, ap}
use Common.{arith, Bool, cases_Bool, checked_form, Err, ExactEntry, ExactForm, false, form_meaning}
use Common.{Fraction, fun_ext, get_or, has_coefficient, has_discretes_alone, has_pairs}
use Common.{has_states_alone, if◌then◌else◌, inl, inr, ints, is_nonzero, is_pair, IsConstant}
use Common.{IsFinished, IsOfDiscretes, IsOfStates, kept, length, List, lowest, map, multiply_forms}
use Common.{named, nat_cmp, nat_tests, none, not, NotAffine, Ok, pair_cmp, paired, Place, pos}
use Common.{product, product_form, refl, scaled_form, Sizes, slice_get, Some, subst, sum, sym}
use Common.{then_form, true, unsigned_abs-mul, value_at, zero-*ℤ}
use Rattle.mu_affine.specs.AffineForm.{may_multiply}
use Rattle.mu_affine.specs.Kinds.{IsVariable}
use Rattle.mu_affine.specs.FormParts.{placed}
use Rattle.mu_affine.proofs.Fractions.{sum-comm, product-comm, lowest-zero_sum, lowest-sum_zero}
use Rattle.mu_affine.proofs.Fractions.{zero_from_num, zero_num, nonzero_size, nonzero_from_size}
use Rattle.mu_affine.proofs.Fractions.{positive_product, reduced_zero}
use Rattle.mu_affine.proofs.Checks.{and_false}
use Rattle.mu_affine.proofs.RowForms.{nat_order}
use Rattle.mu_affine.proofs.Sums.{AreReduced-finished, nonzero_at}
use Rattle.mu_affine.proofs.Showing.{constant_shows, variable_shows, no_products, no_pairs}
use Rattle.mu_affine.proofs.Showing.{pair_shows, name_is_zero, first_of_list, or_left, or_right}
use Rattle.mu_affine.proofs.Showing.{states_show, states_from, discretes_show, discretes_from}
use Rattle.mu_affine.proofs.Multiplying.{SameValues, checked_form-same}

-- the products of a coefficient with the other form's constant, both ways
crossed-comm : (a b x y : Fraction) → sum (product a y) (product x b) ≡ sum (product b x) (product y a)
crossed-comm a b x y = sum-comm (product a y) (product x b) ∙ (λ i. sum (product-comm x b i) (product-comm a y i))

-- a product is the same from both sides
pub product_form-comm : (n : Sizes) (f g : AffineForm) → product_form n f g ≡ product_form n g f
product_form-comm n f g =
    let names : (product_form n f g).coefficient ≡ (product_form n g f).coefficient = fun_ext (λ v. crossed-comm (f.coefficient v) (g.coefficient v) f.constant g.constant) in
    let pairs : (product_form n f g).paired ≡ (product_form n g f).paired =
    fun_ext (λ s. fun_ext (λ d.
    let one = crossed-comm (f.paired s d) (g.paired s d) f.constant g.constant in
    let two = crossed-comm (f.coefficient s) (g.coefficient s) (f.coefficient d) (g.coefficient d) in
    λ i. sum (one i) (if is_pair n s d then two i else none))) in
    let time = crossed-comm f.time g.time f.constant g.constant in
    let constant = product-comm f.constant g.constant in
    λ i. record { coefficient = names i; paired = pairs i; time = time i; constant = constant i }

-- and so is whether it is allowed
allowed-comm : (a b c d e f : Bool) → (not (a && b) || (c && d) || (e && f)) ≡ (not (b && a) || (f && e) || (d && c))
allowed-comm true true true true true true = refl
allowed-comm true true true true true false = refl
allowed-comm true true true true false true = refl
allowed-comm true true true true false false = refl
allowed-comm true true true false true true = refl
allowed-comm true true true false true false = refl
allowed-comm true true true false false true = refl
allowed-comm true true true false false false = refl
allowed-comm true true false true true true = refl
allowed-comm true true false true true false = refl
allowed-comm true true false true false true = refl
allowed-comm true true false true false false = refl
allowed-comm true true false false true true = refl
allowed-comm true true false false true false = refl
allowed-comm true true false false false true = refl
allowed-comm true true false false false false = refl
allowed-comm true false c d e f = refl
allowed-comm false true c d e f = refl
allowed-comm false false c d e f = refl

pub may_multiply-comm : (n : Sizes) (f g : AffineForm) → may_multiply n f g ≡ may_multiply n g f
may_multiply-comm n f g = allowed-comm (has_coefficient n f) (has_coefficient n g) (has_states_alone n f) (has_discretes_alone n g) (has_discretes_alone n f) (has_states_alone n g)

pub multiply_forms-comm : (p : Place) (at : ℕ) (f g : AffineForm) → multiply_forms p false at f g ≡ multiply_forms p false at g f
multiply_forms-comm p at f g =
    let allowed = may_multiply-comm p.sizes f g in
    let same = product_form-comm p.sizes f g in
    λ i. if allowed i then then_form (kept p at (same i)) (λ h. placed at (checked_form p.sizes h)) else Err (NotAffine at)

-- products and sums of 0
pub product_zero_left : (z a : Fraction) → z.num ≡ pos 0 → (product z a).num ≡ pos 0
product_zero_left z a h = ap (λ n. n *ℤ a.num) h ∙ zero-*ℤ a.num

pub product_zero_right : (a z : Fraction) → z.num ≡ pos 0 → (product a z).num ≡ pos 0
product_zero_right a z h = ap (λ n. a.num *ℤ n) h ∙ *ℤ-zero a.num

pub sum_zeros : (a b : Fraction) → a.num ≡ pos 0 → b.num ≡ pos 0 → (sum a b).num ≡ pos 0
sum_zeros a b h k = omega (arith, ints, ap (λ n. n *ℤ pos b.den) h, ap (λ n. n *ℤ pos a.den) k, zero-*ℤ (pos b.den), zero-*ℤ (pos a.den))

-- a coefficient of a constant times a form
times_coefficient : (z b x y : Fraction) → z ≡ none → 0 < b.den → 0 < x.den → 0 < y.den → lowest (sum (product z y) (product x b)) ≡ lowest (product b x)
times_coefficient z b x y zero pb px py =
    rw zero (lowest-zero_sum (product none y) (product x b) (product_zero_left none y refl) (positive_product 1 y.den (omega arith) py) (positive_product x.den b.den px pb) ∙ ap lowest (product-comm x b))

-- what is added for a pair, where the constant has no coefficients
pair_zero : (b : Bool) (x y gs gd : Fraction) → x ≡ none → y ≡ none → 0 < gs.den → 0 < gd.den →
    ((if b then sum (product x gd) (product y gs) else none).num ≡ pos 0) × (0 < (if b then sum (product x gd) (product y gs) else none).den)
pair_zero true x y gs gd hx hy ps pd =
    let left : (product x gd).num ≡ pos 0 = product_zero_left x gd (ap (λ (a : Fraction). a.num) hx) in
    let right : (product y gs).num ≡ pos 0 = product_zero_left y gs (ap (λ (a : Fraction). a.num) hy) in
    let dx : 0 < x.den = subst (λ (a : Fraction). 0 < a.den) (sym hx) (omega arith) in
    let dy : 0 < y.den = subst (λ (a : Fraction). 0 < a.den) (sym hy) (omega arith) in
    (sum_zeros (product x gd) (product y gs) left right, positive_product _ _ (positive_product x.den gd.den dx pd) (positive_product y.den gs.den dy ps))
pair_zero false x y gs gd hx hy ps pd = (refl, omega arith)

-- a pair of a constant times a form
times_pair : (b : Bool) (z x y gs gd gp fc gc : Fraction) → z ≡ none → x ≡ none → y ≡ none → 0 < gs.den → 0 < gd.den → 0 < gp.den → 0 < fc.den → 0 < gc.den
    → lowest (sum (sum (product z gc) (product fc gp)) (if b then sum (product x gd) (product y gs) else none)) ≡ lowest (product gp fc)
times_pair b z x y gs gd gp fc gc hz hx hy ps pd pp pf pc =
    let zero = pair_zero b x y gs gd hx hy ps pd in
    let dz : 0 < z.den = subst (λ (a : Fraction). 0 < a.den) (sym hz) (omega arith) in
    lowest-sum_zero (sum (product z gc) (product fc gp)) (if b then sum (product x gd) (product y gs) else none) zero.0 zero.1 (positive_product _ _ (positive_product z.den gc.den dz pc) (positive_product fc.den gp.den pf pp))
    ∙ times_coefficient z gp fc gc hz pp pf pc

-- the product of a constant and a form has the values of the form times the constant
pub times_values : (p : Place) (f g : ExactForm) → IsConstant f → f.time ≡ none → IsFinished p g → 0 < f.constant.den → 0 < g.constant.den → SameValues (product_form p.sizes (form_meaning f) (form_meaning g)) (scaled_form false (form_meaning g) f.constant)
times_values p f g k time finished pf pg =
    let canonical = finished.canonical in
    let names : (v : ℕ) → 0 < ((form_meaning g).coefficient v).den = λ v. (AreReduced-finished nat_cmp (map named g.entries) canonical.names.each v).positive in
    let pairs : (s d : ℕ) → 0 < ((form_meaning g).paired s d).den = λ s d. (AreReduced-finished pair_cmp (map paired g.products) canonical.pairs.each (s, d)).positive in
    record {
      names = λ v. times_coefficient ((form_meaning f).coefficient v) ((form_meaning g).coefficient v) f.constant g.constant (rw k.names refl) (names v) pf pg;
      pairs = λ s d. times_pair (is_pair p.sizes s d) ((form_meaning f).paired s d) ((form_meaning f).coefficient s) ((form_meaning f).coefficient d) ((form_meaning g).coefficient s) ((form_meaning g).coefficient d) ((form_meaning g).paired s d) f.constant g.constant
          (rw k.pairs refl) (rw k.names refl) (rw k.names refl) (names s) (names d) (pairs s d) pf pg;
      time = times_coefficient f.time g.time f.constant g.constant time canonical.time.positive pf pg;
      constant = ap lowest (product-comm f.constant g.constant);
    }

-- a form that stands at its place is kept
pub kept_as_is : (p : Place) (at : ℕ) (f : AffineForm) → (has_pairs p.sizes f && not p.in_equation) ≡ false → kept p at f ≡ Ok f
kept_as_is p at f h = rw h refl

-- a product with a constant has no pairs outside of equations
times_kept : (p : Place) (f g : ExactForm) (t : Bool) → p.in_equation ≡ t → IsConstant f → IsFinished p g → (has_pairs p.sizes (product_form p.sizes (form_meaning f) (form_meaning g)) && not p.in_equation) ≡ false
times_kept p f g true e k finished = rw (e, and_false) refl
times_kept p f g false e k finished =
    let none_g : g.products ≡ [] = no_products p g finished e in
    let h : AffineForm = product_form p.sizes (form_meaning f) (form_meaning g) in
    let pairs : has_pairs p.sizes h ≡ false =
    no_pairs p.sizes h (λ s d. zero_from_num (h.paired s d) (pair_of_zeros (is_pair p.sizes s d) ((form_meaning f).paired s d) ((form_meaning f).coefficient s) ((form_meaning f).coefficient d) ((form_meaning g).coefficient s) ((form_meaning g).coefficient d) ((form_meaning g).paired s d) f.constant g.constant (rw k.pairs refl) (rw k.names refl) (rw k.names refl) (rw none_g refl))) in
    rw pairs refl
  where
    pair_of_zeros : (b : Bool) (z x y gs gd gp fc gc : Fraction) → z ≡ none → x ≡ none → y ≡ none → gp ≡ none →
        (sum (sum (product z gc) (product fc gp)) (if b then sum (product x gd) (product y gs) else none)).num ≡ pos 0
    pair_of_zeros true z x y gs gd gp fc gc hz hx hy hp =
        sum_zeros _ _ (sum_zeros _ _ (product_zero_left z gc (ap (λ (a : Fraction). a.num) hz)) (product_zero_right fc gp (ap (λ (a : Fraction). a.num) hp)))
        (sum_zeros _ _ (product_zero_left x gd (ap (λ (a : Fraction). a.num) hx)) (product_zero_left y gs (ap (λ (a : Fraction). a.num) hy)))
    pair_of_zeros false z x y gs gd gp fc gc hz hx hy hp =
        sum_zeros _ _ (sum_zeros _ _ (product_zero_left z gc (ap (λ (a : Fraction). a.num) hz)) (product_zero_right fc gp (ap (λ (a : Fraction). a.num) hp))) refl

-- the product of a constant and a form
pub times_left : (p : Place) (at : ℕ) (f g : ExactForm) → IsConstant f → f.time ≡ none → IsFinished p g → 0 < f.constant.den → 0 < g.constant.den
    → multiply_forms p false at (form_meaning f) (form_meaning g) ≡ placed at (checked_form p.sizes (scaled_form false (form_meaning g) f.constant))
times_left p at f g k time finished pf pg =
    rw (constant_shows p f k, kept_as_is p at (product_form p.sizes (form_meaning f) (form_meaning g)) (times_kept p f g p.in_equation refl k finished))
    (ap (placed at) (checked_form-same p.sizes _ _ (times_values p f g k time finished pf pg)))

-- and of a form and a constant
pub times_right : (p : Place) (at : ℕ) (f g : ExactForm) → IsConstant g → g.time ≡ none → IsFinished p f → 0 < f.constant.den → 0 < g.constant.den
    → multiply_forms p false at (form_meaning f) (form_meaning g) ≡ placed at (checked_form p.sizes (scaled_form false (form_meaning f) g.constant))
times_right p at f g k time finished pf pg = multiply_forms-comm p at (form_meaning f) (form_meaning g) ∙ times_left p at g f k time finished pg pf

-- the product of states and discrete variables in an equation
pub cross_is : (p : Place) (at : ℕ) (f g : ExactForm) → p.in_equation ≡ true → IsOfStates p.sizes f → IsOfDiscretes p.sizes g
    → multiply_forms p false at (form_meaning f) (form_meaning g) ≡ placed at (checked_form p.sizes (product_form p.sizes (form_meaning f) (form_meaning g)))
cross_is p at f g e s d =
    let kept_one : (has_pairs p.sizes (product_form p.sizes (form_meaning f) (form_meaning g)) && not p.in_equation) ≡ false = rw (e, and_false) refl in
    let allowed : may_multiply p.sizes (form_meaning f) (form_meaning g) ≡ true = rw (states_show p f s, discretes_show p g d) (or_left _ _ (or_right (not (has_coefficient p.sizes (form_meaning f) && has_coefficient p.sizes (form_meaning g))) _ refl)) in
    rw (allowed, kept_as_is p at _ kept_one) refl

-- two forms with coefficients that are not of these two kinds
pub product_refused : (p : Place) (at : ℕ) (f g : ExactForm) → IsVariable p f → IsVariable p g
    → ((IsOfStates p.sizes f × IsOfDiscretes p.sizes g) → ⊥) → ((IsOfStates p.sizes g × IsOfDiscretes p.sizes f) → ⊥) → multiply_forms p false at (form_meaning f) (form_meaning g) ≡ Err (NotAffine at)
product_refused p at f g vf vg one two =
    let refused : may_multiply p.sizes (form_meaning f) (form_meaning g) ≡ false =
    rw (variable_shows p f vf.finished vf.variable, variable_shows p g vg.finished vg.variable)
    (both_fail (has_states_alone p.sizes (form_meaning f)) (has_discretes_alone p.sizes (form_meaning g)) (has_discretes_alone p.sizes (form_meaning f)) (has_states_alone p.sizes (form_meaning g))
    (λ a b. one (states_from p f vf.finished a, discretes_from p g vg.finished b)) (λ a b. two (states_from p g vg.finished b, discretes_from p f vf.finished a))) in
    rw refused refl
  where
    both_fail : (a b c d : Bool) → (a ≡ true → b ≡ true → ⊥) → (c ≡ true → d ≡ true → ⊥) → (false || (a && b) || (c && d)) ≡ false
    both_fail true true c d h k = absurd (h refl refl)
    both_fail true false true true h k = absurd (k refl refl)
    both_fail true false true false h k = refl
    both_fail true false false d h k = refl
    both_fail false b true true h k = absurd (k refl refl)
    both_fail false b true false h k = refl
    both_fail false b false d h k = refl

-- a form of states has one, where it has a coefficient
first_name : (p : Place) (f : ExactForm) → IsVariable p f → f.products ≡ [] → is_nonzero f.time ≡ false → (e : ExactEntry) × (rest : List ExactEntry) × (f.entries ≡ e ∷ rest) × (is_nonzero ((form_meaning f).coefficient e.var) ≡ true)
first_name p f v pairs time =
    elim (first_of_list f.entries) [
      | inl empty ↦ absurd (v.variable (record { names = empty; pairs = pairs; time = time }))
      | inr first ↦
          let there : slice_get (map named f.entries) 0 ≡ Some (named first.0) = rw first.2 refl in
          (first.0, first.1, first.2, nonzero_at nat_cmp nat_order (map named f.entries) 0 (named first.0) v.finished.canonical.names there)
    ]

-- a sum with a number of value 0
nonzero_sum : (z a : Fraction) → z.num ≡ pos 0 → 0 < z.den → is_nonzero a ≡ true → is_nonzero (sum z a) ≡ true
nonzero_sum z a zero zpos n =
    let top : z.num *ℤ pos a.den +ℤ a.num *ℤ pos z.den ≡ a.num *ℤ pos z.den = omega (arith, ints, ap (λ n. n *ℤ pos a.den) zero, zero-*ℤ (pos a.den)) in
    nonzero_from_size (sum z a) (rw (top, unsigned_abs-mul a.num (pos z.den)) (positive_product _ _ (nonzero_size a n) zpos))

nonzero_product : (a b : Fraction) → is_nonzero a ≡ true → is_nonzero b ≡ true → is_nonzero (product a b) ≡ true
nonzero_product a b h k = nonzero_from_size (product a b) (rw (unsigned_abs-mul a.num b.num) (positive_product _ _ (nonzero_size a h) (nonzero_size b k)))

-- the pair of two coefficients other than 0
pair_is_nonzero : (b : Bool) (fp gp fs gd fd gs fc gc : Fraction) → b ≡ true → fp ≡ none → gp ≡ none → is_nonzero fs ≡ true → is_nonzero gd ≡ true → fd.num ≡ pos 0 → 0 < fs.den → 0 < gd.den → 0 < fd.den → 0 < gs.den → 0 < fc.den → 0 < gc.den
    → is_nonzero (sum (sum (product fp gc) (product fc gp)) (if b then sum (product fs gd) (product fd gs) else none)) ≡ true
pair_is_nonzero true fp gp fs gd fd gs fc gc e hfp hgp nfs ngd zfd pfs pgd pfd pgs pfc pgc =
    let dfp : 0 < fp.den = subst (λ (a : Fraction). 0 < a.den) (sym hfp) (omega arith) in
    let dgp : 0 < gp.den = subst (λ (a : Fraction). 0 < a.den) (sym hgp) (omega arith) in
    let outer : (sum (product fp gc) (product fc gp)).num ≡ pos 0 = sum_zeros (product fp gc) (product fc gp) (product_zero_left fp gc (ap (λ (a : Fraction). a.num) hfp)) (product_zero_right fc gp (ap (λ (a : Fraction). a.num) hgp)) in
    let inner : is_nonzero (sum (product fd gs) (product fs gd)) ≡ true = nonzero_sum (product fd gs) (product fs gd) (product_zero_left fd gs zfd) (positive_product _ _ pfd pgs) (nonzero_product fs gd nfs ngd) in
    let turned : is_nonzero (sum (product fs gd) (product fd gs)) ≡ true = subst (λ x. is_nonzero x ≡ true) (sum-comm (product fd gs) (product fs gd)) inner in
    nonzero_sum (sum (product fp gc) (product fc gp)) (sum (product fs gd) (product fd gs)) outer (positive_product _ _ (positive_product _ _ dfp pgc) (positive_product _ _ pfc dgp)) turned
pair_is_nonzero false fp gp fs gd fd gs fc gc e hfp hgp nfs ngd zfd pfs pgd pfd pgs pfc pgc = absurd (cc)

-- a state and a discrete variable are a pair
is_pair-true : (n : Sizes) (s d : ℕ) → s < n.states → n.states ≤ d → d < n.states + n.discretes → is_pair n s d ≡ true
is_pair-true n s d h k l = grind (arith, nat_tests)

-- so a product of states and discrete variables has a pair
crossed_shows : (p : Place) (f g : ExactForm) → IsVariable p f → IsVariable p g → IsOfStates p.sizes f → IsOfDiscretes p.sizes g → has_pairs p.sizes (product_form p.sizes (form_meaning f) (form_meaning g)) ≡ true
crossed_shows p f g vf vg s d =
    let x = first_name p f vf s.pairs s.time in
    let y = first_name p g vg d.pairs d.time in
    let low : x.0.var < p.sizes.states = subst (λ es. 0 < length es → (get_or es 0 x.0).var < p.sizes.states) x.2 (s.names 0 x.0) (omega arith) in
    let high : (p.sizes.states ≤ y.0.var) × (y.0.var < p.sizes.states + p.sizes.discretes) = subst (λ es. 0 < length es → (p.sizes.states ≤ (get_or es 0 y.0).var) × ((get_or es 0 y.0).var < p.sizes.states + p.sizes.discretes)) y.2 (d.names 0 y.0) (omega arith) in
    let rf = AreReduced-finished nat_cmp (map named f.entries) vf.finished.canonical.names.each in
    let rg = AreReduced-finished nat_cmp (map named g.entries) vg.finished.canonical.names.each in
    let zero : is_nonzero ((form_meaning f).coefficient y.0.var) ≡ false = name_is_zero (λ w. w < p.sizes.states) f y.0.var s.names (λ lt. omega arith) in
    let h : AffineForm = product_form p.sizes (form_meaning f) (form_meaning g) in
    let no_f : (form_meaning f).paired x.0.var y.0.var ≡ none = ap (λ ps. value_at pair_cmp (map paired ps) (x.0.var, y.0.var)) s.pairs in
    let no_g : (form_meaning g).paired x.0.var y.0.var ≡ none = ap (λ ps. value_at pair_cmp (map paired ps) (x.0.var, y.0.var)) d.pairs in
    let nonzero : is_nonzero (h.paired x.0.var y.0.var) ≡ true =
    pair_is_nonzero (is_pair p.sizes x.0.var y.0.var) ((form_meaning f).paired x.0.var y.0.var) ((form_meaning g).paired x.0.var y.0.var) ((form_meaning f).coefficient x.0.var) ((form_meaning g).coefficient y.0.var)
    ((form_meaning f).coefficient y.0.var) ((form_meaning g).coefficient x.0.var) f.constant g.constant (is_pair-true p.sizes x.0.var y.0.var low high.0 high.1) no_f no_g x.3 y.3 (zero_num ((form_meaning f).coefficient y.0.var) zero)
    (rf x.0.var).positive (rg y.0.var).positive (rf y.0.var).positive (rg x.0.var).positive vf.positive vg.positive in
    pair_shows p.sizes h x.0.var y.0.var (low, high.0, high.1) nonzero

-- a part with a pair is refused outside of equations
kept_refused : (p : Place) (at : ℕ) (f : AffineForm) → has_pairs p.sizes f ≡ true → p.in_equation ≡ false → kept p at f ≡ Err (NotAffine at)
kept_refused p at f h e = rw (h, e) refl

-- two forms with coefficients outside of equations
pub product_outside : (p : Place) (at : ℕ) (f g : ExactForm) → p.in_equation ≡ false → IsVariable p f → IsVariable p g → multiply_forms p false at (form_meaning f) (form_meaning g) ≡ Err (NotAffine at)
product_outside p at f g e vf vg =
    elim (cases_Bool (has_states_alone p.sizes (form_meaning f) && has_discretes_alone p.sizes (form_meaning g))) [
      | inl one ↦
          let parts = and_parts _ _ one in
          crossed_outside p at f g e vf vg (states_from p f vf.finished parts.0) (discretes_from p g vg.finished parts.1)
      | inr not_one ↦ elim (cases_Bool (has_discretes_alone p.sizes (form_meaning f) && has_states_alone p.sizes (form_meaning g))) [
        | inl two ↦
            let parts = and_parts _ _ two in
            multiply_forms-comm p at (form_meaning f) (form_meaning g) ∙ crossed_outside p at g f e vg vf (states_from p g vg.finished parts.1) (discretes_from p f vf.finished parts.0)
        | inr not_two ↦ rw (variable_shows p f vf.finished vf.variable, variable_shows p g vg.finished vg.variable, not_one, not_two) refl
      ]
    ]
  where
    and_parts : (a b : Bool) → (a && b) ≡ true → (a ≡ true) × (b ≡ true)
    and_parts true b h = (refl, h)
    and_parts false b h = absurd (cc)

    crossed_outside : (p : Place) (at : ℕ) (f g : ExactForm) → p.in_equation ≡ false → IsVariable p f → IsVariable p g → IsOfStates p.sizes f → IsOfDiscretes p.sizes g → multiply_forms p false at (form_meaning f) (form_meaning g) ≡ Err (NotAffine at)
    crossed_outside p at f g e vf vg s d =
        let allowed : may_multiply p.sizes (form_meaning f) (form_meaning g) ≡ true = rw (states_show p f s, discretes_show p g d) (or_left _ _ (or_right (not (has_coefficient p.sizes (form_meaning f) && has_coefficient p.sizes (form_meaning g))) _ refl)) in
        rw (allowed, kept_refused p at (product_form p.sizes (form_meaning f) (form_meaning g)) (crossed_shows p f g vf vg s d) e) refl

-- the coefficient of time of a constant
pub constant_time : (p : Place) (f : ExactForm) → IsFinished p f → IsConstant f → f.time ≡ none
constant_time p f finished k = reduced_zero f.time finished.canonical.time k.time
