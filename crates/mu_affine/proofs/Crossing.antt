-- The product of a form of states and a form of discrete variables.
use Rattle.mu_affine.proofs.Common
use Common.{[], ℕ, ◌+◌, ◌<◌, ◌∙◌, ◌∷◌, ◌≡◌, ◌≤◌, AllByRecursion, ap, arith, Bool, cases_Bool}
use Common.{cases_lt, checked, checked_form, Equal, Err, ExactForm, false, false≢true, form_meaning}
use Common.{Fraction, Greater, if◌then◌else◌, inl, inr, is_at, is_eq, is_nonzero, is_pair}
use Common.{IsFinished, IsOfDiscretes, IsOfStates, IsOver, IsPair, IsPairSet, IsReducedSum, IsSet}
use Common.{Less, List, ListFails, lookup, lowest, map, named, nat_cmp, nat_tests, None, none}
use Common.{NumErr, Ok, Option, Ordering, pair_cmp, paired, Place, pos, product, product_form, refl}
use Common.{Result, RunningForm, Sizes, Some, subst, sum, sum_meaning, sym, TableFails, true}
use Common.{unwrap_or, value_at}
use Rattle.mu_affine.specs.ProductRows.{IsCrossed, CrossFails, OfStates, OfDiscretes, OfPairs}
use Rattle.mu_affine.specs.ProductRows.{OfConstants}
use Rattle.mu_affine.proofs.Fractions.{positive_product, product-comm, lowest-zero, lowest-zero_sum}
use Rattle.mu_affine.proofs.Fractions.{lowest-sum_zero, checked_same, checked-reduced}
use Rattle.mu_affine.proofs.Fractions.{IsReduced-none, IsReduced-checked, zero_num}
use Rattle.mu_affine.proofs.RowForms.{nat_order, found}
use Rattle.mu_affine.proofs.Checks.{checked_form-passes, name_fails, pair_fails, constant_fails}
use Rattle.mu_affine.proofs.Sums.{AreReduced-finished, each_at}
use Rattle.mu_affine.proofs.Showing.{each_key}
use Rattle.mu_affine.proofs.Products.{product_zero_left, product_zero_right, sum_zeros}

-- a number of value 0 is checked to 0
pub checked-zero : (z : Fraction) → z.num ≡ pos 0 → 0 < z.den → checked z ≡ Ok none
checked-zero z top bottom = checked_same z none (lowest-zero z top bottom ∙ sym (lowest-zero none refl (omega arith))) ∙ checked-reduced none IsReduced-none

checked_to_none : (z r : Fraction) → z.num ≡ pos 0 → 0 < z.den → checked z ≡ Ok r → r ≡ none
checked_to_none z r top bottom h = let zero = checked-zero z top bottom in cc

-- what is set over nothing is the product
set_value : (o : Option Fraction) (by new : Fraction) → 0 < by.den → IsSet o by none new → checked (product (unwrap_or o none) by) ≡ Ok new
set_value None by new h e = checked-zero (product none by) (product_zero_left none by refl) (positive_product 1 by.den (omega arith) h) ∙ ap Ok (sym e)
set_value (Some a) by new h e = e

-- a key that no entry has
absent_first : (P : ℕ → Type 0) (c : ℕ × Fraction) (v : ℕ) (r : Ordering) → nat_cmp v c.0 ≡ r → P c.0 → (P v → ⊥) → is_eq r ≡ false
absent_first P c v Less e here never = refl
absent_first P c v Equal e here never = absurd (never (subst P (sym (nat_order.exact v c.0 e)) here))
absent_first P c v Greater e here never = refl

absent_key : (P : ℕ → Type 0) (cs : List (ℕ × Fraction)) (v : ℕ) → AllByRecursion (λ c. P c.0) cs → (P v → ⊥) → lookup (is_at (nat_cmp v)) cs ≡ None
absent_key P [] v h never = refl
absent_key P (c ∷ cs) v h never = rw (absent_first P c v (nat_cmp v c.0) refl h.0 never) (absent_key P cs v h.1 never)

-- a coefficient of the product, from the states
from_state : (a b gc fc : Fraction) → b ≡ none → 0 < a.den → 0 < gc.den → 0 < fc.den → checked (sum (product a gc) (product fc b)) ≡ checked (product a gc)
from_state a b gc fc zero pa pg pf =
    let pb : 0 < b.den = subst (λ (x : Fraction). 0 < x.den) (sym zero) (omega arith) in
    checked_same (sum (product a gc) (product fc b)) (product a gc)
    (lowest-sum_zero (product a gc) (product fc b) (product_zero_right fc b (ap (λ (x : Fraction). x.num) zero)) (positive_product fc.den b.den pf pb) (positive_product a.den gc.den pa pg))

-- and from the discrete variables
from_discrete : (a b gc fc : Fraction) → a ≡ none → 0 < b.den → 0 < gc.den → 0 < fc.den → checked (sum (product a gc) (product fc b)) ≡ checked (product b fc)
from_discrete a b gc fc zero pb pg pf =
    let pa : 0 < a.den = subst (λ (x : Fraction). 0 < x.den) (sym zero) (omega arith) in
    checked_same (sum (product a gc) (product fc b)) (product b fc)
    (lowest-zero_sum (product a gc) (product fc b) (product_zero_left a gc (ap (λ (x : Fraction). x.num) zero)) (positive_product a.den gc.den pa pg) (positive_product fc.den b.den pf pb) ∙ ap lowest (product-comm fc b))

-- a pair of the product
from_pair : (z fs gd fd gs gp fc gc : Fraction) → z ≡ none → gp ≡ none → fd ≡ none → 0 < fs.den → 0 < gd.den → 0 < gs.den → 0 < fc.den → 0 < gc.den
    → checked (sum (sum (product z gc) (product fc gp)) (sum (product fs gd) (product fd gs))) ≡ checked (product gd fs)
from_pair z fs gd fd gs gp fc gc hz hp hd ps pd pgs pf pg =
    let dz : 0 < z.den = subst (λ (a : Fraction). 0 < a.den) (sym hz) (omega arith) in
    let dp : 0 < gp.den = subst (λ (a : Fraction). 0 < a.den) (sym hp) (omega arith) in
    let dd : 0 < fd.den = subst (λ (a : Fraction). 0 < a.den) (sym hd) (omega arith) in
    let outer = sum_zeros (product z gc) (product fc gp) (product_zero_left z gc (ap (λ (a : Fraction). a.num) hz)) (product_zero_right fc gp (ap (λ (a : Fraction). a.num) hp)) in
    let inner : (product fd gs).num ≡ pos 0 = product_zero_left fd gs (ap (λ (a : Fraction). a.num) hd) in
    checked_same (sum (sum (product z gc) (product fc gp)) (sum (product fs gd) (product fd gs))) (product gd fs)
    (lowest-zero_sum (sum (product z gc) (product fc gp)) (sum (product fs gd) (product fd gs)) outer (positive_product _ _ (positive_product _ _ dz pg) (positive_product _ _ pf dp)) (positive_product _ _ (positive_product _ _ ps pd) (positive_product _ _ dd pgs))
    ∙ lowest-sum_zero (product fs gd) (product fd gs) inner (positive_product _ _ dd pgs) (positive_product _ _ ps pd) ∙ ap lowest (product-comm fs gd))

-- and of what is no pair
from_no_pair : (z gp fc gc : Fraction) → z ≡ none → gp ≡ none → 0 < fc.den → 0 < gc.den → checked (sum (sum (product z gc) (product fc gp)) none) ≡ Ok none
from_no_pair z gp fc gc hz hp pf pg =
    let dz : 0 < z.den = subst (λ (a : Fraction). 0 < a.den) (sym hz) (omega arith) in
    let dp : 0 < gp.den = subst (λ (a : Fraction). 0 < a.den) (sym hp) (omega arith) in
    let outer = sum_zeros (product z gc) (product fc gp) (product_zero_left z gc (ap (λ (a : Fraction). a.num) hz)) (product_zero_right fc gp (ap (λ (a : Fraction). a.num) hp)) in
    checked-zero (sum (sum (product z gc) (product fc gp)) none) (sum_zeros (sum (product z gc) (product fc gp)) none outer refl) (positive_product _ 1 (positive_product _ _ (positive_product _ _ dz pg) (positive_product _ _ pf dp)) (omega arith))

-- by the test of the pair
pair_by : (b : Bool) (z fs gd fd gs gp fc gc : Fraction) (answer : Result Fraction NumErr) → (b ≡ true → checked (sum (sum (product z gc) (product fc gp)) (sum (product fs gd) (product fd gs))) ≡ answer) → (b ≡ false → checked (sum (sum (product z gc) (product fc gp)) none) ≡ answer)
    → checked (sum (sum (product z gc) (product fc gp)) (if b then sum (product fs gd) (product fd gs) else none)) ≡ answer
pair_by true z fs gd fd gs gp fc gc answer h k = h refl
pair_by false z fs gd fd gs gp fc gc answer h k = k refl

-- two forms that are crossed, with what is known of them
pub record IsCrossing (p : Place) (f g : ExactForm) : Type 0 where
  pub in_equation : p.in_equation ≡ true
  pub left : IsFinished p f
  pub right : IsFinished p g
  pub states : IsOfStates p.sizes f
  pub discretes : IsOfDiscretes p.sizes g
  pub positive_left : 0 < f.constant.den
  pub positive_right : 0 < g.constant.den

-- the denominators of the coefficients
positive_names : (p : Place) (f : ExactForm) → IsFinished p f → (v : ℕ) → 0 < ((form_meaning f).coefficient v).den
positive_names p f h v = (AreReduced-finished nat_cmp (map named f.entries) h.canonical.names.each v).positive

-- no discrete variable is a state
no_state : (p : Place) (f g : ExactForm) → IsCrossing p f g → (v : ℕ) → p.sizes.states ≤ v → lookup (is_at (nat_cmp v)) (map named f.entries) ≡ None
no_state p f g c v h = absent_key (λ w. w < p.sizes.states) (map named f.entries) v (each_key (λ w. w < p.sizes.states) f.entries c.states.names) (λ lt. omega arith)

no_discrete : (p : Place) (f g : ExactForm) → IsCrossing p f g → (v : ℕ) → ((p.sizes.states ≤ v) × (v < p.sizes.states + p.sizes.discretes) → ⊥) → lookup (is_at (nat_cmp v)) (map named g.entries) ≡ None
no_discrete p f g c v h = absent_key (λ w. (p.sizes.states ≤ w) × (w < p.sizes.states + p.sizes.discretes)) (map named g.entries) v (each_key (λ w. (p.sizes.states ≤ w) × (w < p.sizes.states + p.sizes.discretes)) g.entries c.discretes.names) h

-- the coefficients of names
names_pass : (p : Place) (f g : ExactForm) (r : RunningForm) → IsCrossing p f g → IsCrossed f g r → (v : ℕ) → checked ((product_form p.sizes (form_meaning f) (form_meaning g)).coefficient v) ≡ Ok (value_at nat_cmp r.names.entries v)
names_pass p f g r c k v =
    elim (cases_lt v p.sizes.states) [
      | inl low ↦
          let absent = no_discrete p f g c v (λ w. omega arith) in
          let kept : value_at nat_cmp r.names.entries v ≡ value_at nat_cmp k.between v = subst (λ o. IsSet o f.constant (value_at nat_cmp k.between v) (value_at nat_cmp r.names.entries v)) absent (k.seconds v) in
          let set = set_value (lookup (is_at (nat_cmp v)) (map named f.entries)) g.constant (value_at nat_cmp k.between v) c.positive_right (k.firsts v) in
          from_state ((form_meaning f).coefficient v) ((form_meaning g).coefficient v) g.constant f.constant (ap (λ o. unwrap_or o none) absent) (positive_names p f c.left v) c.positive_right c.positive_left ∙ set ∙ ap Ok (sym kept)
      | inr high ↦
          let absent = no_state p f g c v high in
          let empty : value_at nat_cmp k.between v ≡ none = subst (λ o. IsSet o g.constant none (value_at nat_cmp k.between v)) absent (k.firsts v) in
          let set = set_value (lookup (is_at (nat_cmp v)) (map named g.entries)) f.constant (value_at nat_cmp r.names.entries v) c.positive_left
          (subst (λ x. IsSet (lookup (is_at (nat_cmp v)) (map named g.entries)) f.constant x (value_at nat_cmp r.names.entries v)) empty (k.seconds v)) in
          from_discrete ((form_meaning f).coefficient v) ((form_meaning g).coefficient v) g.constant f.constant (ap (λ o. unwrap_or o none) absent) (positive_names p g c.right v) c.positive_right c.positive_left ∙ set
    ]

-- what a pair has is the product of its two coefficients
pair_value : (s d : Option Fraction) (new : Fraction) → 0 < (unwrap_or s none).den → 0 < (unwrap_or d none).den → IsPairSet s d none new → checked (product (unwrap_or d none) (unwrap_or s none)) ≡ Ok new
pair_value None d new ps pd e = checked-zero (product (unwrap_or d none) none) (product_zero_right (unwrap_or d none) none refl) (positive_product (unwrap_or d none).den 1 pd (omega arith)) ∙ ap Ok (sym e)
pair_value (Some a) d new ps pd e = set_value d a new ps e

pair_product : (p : Place) (f g : ExactForm) (r : RunningForm) → IsCrossing p f g → IsCrossed f g r → (s d : ℕ) → checked (product ((form_meaning g).coefficient d) ((form_meaning f).coefficient s)) ≡ Ok (value_at pair_cmp r.pairs.entries (s, d))
pair_product p f g r c k s d = pair_value (lookup (is_at (nat_cmp s)) (map named f.entries)) (lookup (is_at (nat_cmp d)) (map named g.entries)) (value_at pair_cmp r.pairs.entries (s, d)) (positive_names p f c.left s) (positive_names p g c.right d) (k.pairs s d)

-- a state and a discrete variable are a pair
is_pair_false : (n : Sizes) (s d : ℕ) → s < n.states → n.states ≤ d → d < n.states + n.discretes → is_pair n s d ≡ false → ⊥
is_pair_false n s d h k l e = let t : is_pair n s d ≡ true = grind (arith, nat_tests) in false≢true (sym e ∙ t)

is_pair_parts : (n : Sizes) (s d : ℕ) → is_pair n s d ≡ true → IsPair n s d
is_pair_parts n s d e = (grind (arith, nat_tests), grind (arith, nat_tests), grind (arith, nat_tests))

is_pair_true : (n : Sizes) (s d : ℕ) → s < n.states → n.states ≤ d → d < n.states + n.discretes → is_pair n s d ≡ true
is_pair_true n s d h k l = grind (arith, nat_tests)

-- what is no pair has none
no_pair : (p : Place) (f g : ExactForm) (r : RunningForm) → IsCrossing p f g → IsCrossed f g r → (s d : ℕ) → is_pair p.sizes s d ≡ false → value_at pair_cmp r.pairs.entries (s, d) ≡ none
no_pair p f g r c k s d unpaired =
    let pos_pair = positive_product _ _ (positive_names p g c.right d) (positive_names p f c.left s) in
    elim (cases_lt s p.sizes.states) [
      | inl low ↦
          let absent = no_discrete p f g c d (λ w. absurd (is_pair_false p.sizes s d low w.0 w.1 unpaired)) in
          checked_to_none (product ((form_meaning g).coefficient d) ((form_meaning f).coefficient s)) _ (product_zero_left ((form_meaning g).coefficient d) ((form_meaning f).coefficient s) (ap (λ o. (unwrap_or o none).num) absent)) pos_pair (pair_product p f g r c k s d)
      | inr high ↦
          let absent = no_state p f g c s high in
          checked_to_none (product ((form_meaning g).coefficient d) ((form_meaning f).coefficient s)) _ (product_zero_right ((form_meaning g).coefficient d) ((form_meaning f).coefficient s) (ap (λ o. (unwrap_or o none).num) absent)) pos_pair (pair_product p f g r c k s d)
    ]

-- neither form has a pair
no_products_left : (p : Place) (f g : ExactForm) → IsCrossing p f g → (s d : ℕ) → (form_meaning f).paired s d ≡ none
no_products_left p f g c s d = ap (λ ps. value_at pair_cmp (map paired ps) (s, d)) c.states.pairs

no_products_right : (p : Place) (f g : ExactForm) → IsCrossing p f g → (s d : ℕ) → (form_meaning g).paired s d ≡ none
no_products_right p f g c s d = ap (λ ps. value_at pair_cmp (map paired ps) (s, d)) c.discretes.pairs

-- a pair has the product of its two coefficients
pair_is : (p : Place) (f g : ExactForm) → IsCrossing p f g → (s d : ℕ) → is_pair p.sizes s d ≡ true
    → checked ((product_form p.sizes (form_meaning f) (form_meaning g)).paired s d) ≡ checked (product ((form_meaning g).coefficient d) ((form_meaning f).coefficient s))
pair_is p f g c s d is =
    pair_by (is_pair p.sizes s d) ((form_meaning f).paired s d) ((form_meaning f).coefficient s) ((form_meaning g).coefficient d) ((form_meaning f).coefficient d) ((form_meaning g).coefficient s) ((form_meaning g).paired s d) f.constant g.constant _
    (λ _. from_pair ((form_meaning f).paired s d) ((form_meaning f).coefficient s) ((form_meaning g).coefficient d) ((form_meaning f).coefficient d) ((form_meaning g).coefficient s) ((form_meaning g).paired s d) f.constant g.constant
    (no_products_left p f g c s d) (no_products_right p f g c s d) (ap (λ o. unwrap_or o none) (no_state p f g c d (is_pair_parts p.sizes s d is).1))
    (positive_names p f c.left s) (positive_names p g c.right d) (positive_names p g c.right s) c.positive_left c.positive_right)
    (λ e. absurd (false≢true (sym e ∙ is)))

-- the coefficients of pairs
pairs_pass : (p : Place) (f g : ExactForm) (r : RunningForm) → IsCrossing p f g → IsCrossed f g r → (s d : ℕ) → checked ((product_form p.sizes (form_meaning f) (form_meaning g)).paired s d) ≡ Ok (value_at pair_cmp r.pairs.entries (s, d))
pairs_pass p f g r c k s d =
    elim (cases_Bool (is_pair p.sizes s d)) [
      | inl is ↦ pair_is p f g c s d is ∙ pair_product p f g r c k s d
      | inr fails ↦
          pair_by (is_pair p.sizes s d) ((form_meaning f).paired s d) ((form_meaning f).coefficient s) ((form_meaning g).coefficient d) ((form_meaning f).coefficient d) ((form_meaning g).coefficient s) ((form_meaning g).paired s d) f.constant g.constant _
          (λ e. absurd (false≢true (sym fails ∙ e)))
          (λ _. from_no_pair ((form_meaning f).paired s d) ((form_meaning g).paired s d) f.constant g.constant (no_products_left p f g c s d) (no_products_right p f g c s d) c.positive_left c.positive_right ∙ ap Ok (sym (no_pair p f g r c k s d fails)))
    ]

-- the denominators of the product
positive_crossed : (a b x y : Fraction) → 0 < a.den → 0 < b.den → 0 < x.den → 0 < y.den → 0 < (sum (product a y) (product x b)).den
positive_crossed a b x y pa pb px py = positive_product _ _ (positive_product _ _ pa py) (positive_product _ _ px pb)

-- time has no coefficient
time_passes : (p : Place) (f g : ExactForm) (r : RunningForm) → IsCrossing p f g → IsCrossed f g r → checked ((product_form p.sizes (form_meaning f) (form_meaning g)).time) ≡ Ok r.time
time_passes p f g r c k =
    let top = sum_zeros (product f.time g.constant) (product f.constant g.time) (product_zero_left f.time g.constant (zero_num f.time c.states.time)) (product_zero_right f.constant g.time (zero_num g.time c.discretes.time)) in
    checked-zero (sum (product f.time g.constant) (product f.constant g.time)) top (positive_crossed f.time g.time f.constant g.constant c.left.canonical.time.positive c.right.canonical.time.positive c.positive_left c.positive_right) ∙ ap Ok (sym k.time)

-- the running sum is the product
pub crossed_passes : (p : Place) (f g : ExactForm) (r : RunningForm) → IsCrossing p f g → IsCrossed f g r → checked_form p.sizes (product_form p.sizes (form_meaning f) (form_meaning g)) ≡ Ok (sum_meaning r)
crossed_passes p f g r c k = checked_form-passes p.sizes _ _ (record { names = names_pass p f g r c k; pairs = pairs_pass p f g r c k; time = time_passes p f g r c k; constant = k.constant })

-- it is in lowest terms
pub crossed_reduced : (p : Place) (f g : ExactForm) (r : RunningForm) → IsCrossing p f g → IsCrossed f g r → IsReducedSum r
crossed_reduced p f g r c k = record {
  names = λ v. IsReduced-checked ((product_form p.sizes (form_meaning f) (form_meaning g)).coefficient v) _
      (positive_crossed ((form_meaning f).coefficient v) ((form_meaning g).coefficient v) f.constant g.constant (positive_names p f c.left v) (positive_names p g c.right v) c.positive_left c.positive_right) (names_pass p f g r c k v);
  pairs = λ q. IsReduced-checked (product ((form_meaning g).coefficient q.1) ((form_meaning f).coefficient q.0)) _ (positive_product _ _ (positive_names p g c.right q.1) (positive_names p f c.left q.0)) (pair_product p f g r c k q.0 q.1);
  time = rw k.time IsReduced-none;
}

-- and stands in an equation
pub crossed_over : (p : Place) (f g : ExactForm) (r : RunningForm) → IsCrossing p f g → IsCrossed f g r → IsOver p (sum_meaning r)
crossed_over p f g r c k = record {
  names = λ v n. elim (cases_lt v (p.sizes.states + p.sizes.discretes)) [
    | inl low ↦ (omega arith, λ _. low)
    | inr high ↦
        let no_f = no_state p f g c v (omega arith) in
        let no_g = no_discrete p f g c v (λ w. omega arith) in
        let empty : value_at nat_cmp k.between v ≡ none = subst (λ o. IsSet o g.constant none (value_at nat_cmp k.between v)) no_f (k.firsts v) in
        let kept : value_at nat_cmp r.names.entries v ≡ value_at nat_cmp k.between v = subst (λ o. IsSet o f.constant (value_at nat_cmp k.between v) (value_at nat_cmp r.names.entries v)) no_g (k.seconds v) in
        let zero : is_nonzero (value_at nat_cmp r.names.entries v) ≡ false = ap is_nonzero (kept ∙ empty) in
        absurd (false≢true (sym zero ∙ n))
  ];
  pairs = λ s d n. elim (cases_Bool (is_pair p.sizes s d)) [
    | inl is ↦ (is_pair_parts p.sizes s d is, c.in_equation)
    | inr fails ↦
        let zero : is_nonzero (value_at pair_cmp r.pairs.entries (s, d)) ≡ false = ap is_nonzero (no_pair p f g r c k s d fails) in
        absurd (false≢true (sym zero ∙ n))
  ];
}

-- a state that can't be set
state_fails : (p : Place) (f g : ExactForm) (fault : NumErr) → IsCrossing p f g → ListFails g.constant (map named f.entries) fault → checked_form p.sizes (product_form p.sizes (form_meaning f) (form_meaning g)) ≡ Err fault
state_fails p f g fault c fails =
    let v = fails.1.0 in
    let names = c.left.canonical.names in
    let is : (form_meaning f).coefficient v ≡ fails.1.1 = ap (λ r. unwrap_or r none) (found nat_cmp nat_order (map named f.entries) fails.0 fails.1 names.rising fails.2) in
    let low : v < p.sizes.states = each_at (λ x. x.0 < p.sizes.states) (map named f.entries) fails.0 fails.1 (each_key (λ w. w < p.sizes.states) f.entries c.states.names) fails.2 in
    let absent = no_discrete p f g c v (λ w. omega arith) in
    let at_v : checked (product ((form_meaning f).coefficient v) g.constant) ≡ Err fault = ap (λ x. checked (product x g.constant)) is ∙ fails.3 in
    name_fails p.sizes _ v fault (omega arith) (from_state ((form_meaning f).coefficient v) ((form_meaning g).coefficient v) g.constant f.constant (ap (λ o. unwrap_or o none) absent) (positive_names p f c.left v) c.positive_right c.positive_left ∙ at_v)

-- a discrete variable that can't be set
discrete_fails : (p : Place) (f g : ExactForm) (fault : NumErr) → IsCrossing p f g → ListFails f.constant (map named g.entries) fault → checked_form p.sizes (product_form p.sizes (form_meaning f) (form_meaning g)) ≡ Err fault
discrete_fails p f g fault c fails =
    let v = fails.1.0 in
    let names = c.right.canonical.names in
    let P : ℕ → Type 0 = λ w. (p.sizes.states ≤ w) × (w < p.sizes.states + p.sizes.discretes) in
    let is : (form_meaning g).coefficient v ≡ fails.1.1 = ap (λ r. unwrap_or r none) (found nat_cmp nat_order (map named g.entries) fails.0 fails.1 names.rising fails.2) in
    let within : P v = each_at (λ x. P x.0) (map named g.entries) fails.0 fails.1 (each_key P g.entries c.discretes.names) fails.2 in
    let absent = no_state p f g c v within.0 in
    let at_v : checked (product ((form_meaning g).coefficient v) f.constant) ≡ Err fault = ap (λ x. checked (product x f.constant)) is ∙ fails.3 in
    name_fails p.sizes _ v fault (omega arith) (from_discrete ((form_meaning f).coefficient v) ((form_meaning g).coefficient v) g.constant f.constant (ap (λ o. unwrap_or o none) absent) (positive_names p g c.right v) c.positive_right c.positive_left ∙ at_v)

-- a pair that can't be set
table_fails : (p : Place) (f g : ExactForm) (fault : NumErr) → IsCrossing p f g → TableFails (map named f.entries) (map named g.entries) fault → checked_form p.sizes (product_form p.sizes (form_meaning f) (form_meaning g)) ≡ Err fault
table_fails p f g fault c fails =
    let s = fails.state.0 in
    let d = fails.discrete.0 in
    let P : ℕ → Type 0 = λ w. (p.sizes.states ≤ w) × (w < p.sizes.states + p.sizes.discretes) in
    let is_f : (form_meaning f).coefficient s ≡ fails.state.1 = ap (λ r. unwrap_or r none) (found nat_cmp nat_order (map named f.entries) fails.i fails.state c.left.canonical.names.rising fails.state_at) in
    let is_g : (form_meaning g).coefficient d ≡ fails.discrete.1 = ap (λ r. unwrap_or r none) (found nat_cmp nat_order (map named g.entries) fails.j fails.discrete c.right.canonical.names.rising fails.discrete_at) in
    let low : s < p.sizes.states = each_at (λ x. x.0 < p.sizes.states) (map named f.entries) fails.i fails.state (each_key (λ w. w < p.sizes.states) f.entries c.states.names) fails.state_at in
    let within : P d = each_at (λ x. P x.0) (map named g.entries) fails.j fails.discrete (each_key P g.entries c.discretes.names) fails.discrete_at in
    let both : checked (product ((form_meaning g).coefficient d) ((form_meaning f).coefficient s)) ≡ Err fault = (λ i. checked (product (is_g i) (is_f i))) ∙ fails.fails in
    pair_fails p.sizes _ s d fault (low, within.0, within.1) (pair_is p f g c s d (is_pair_true p.sizes s d low within.0 within.1) ∙ both)

-- what can't be crossed is out of range
pub crossed_fails : (p : Place) (f g : ExactForm) (fault : NumErr) → IsCrossing p f g → CrossFails f g fault → checked_form p.sizes (product_form p.sizes (form_meaning f) (form_meaning g)) ≡ Err fault
crossed_fails p f g fault c (OfStates h) = state_fails p f g fault c h
crossed_fails p f g fault c (OfDiscretes h) = discrete_fails p f g fault c h
crossed_fails p f g fault c (OfPairs h) = table_fails p f g fault c h
crossed_fails p f g fault c (OfConstants h) = constant_fails p.sizes _ fault h
