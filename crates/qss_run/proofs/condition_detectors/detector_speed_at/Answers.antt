-- A form of one state, and not of time.
use Rattle.qss_run.proofs.Common
use Common.{[], ℤ, ◌*ℤ◌, ◌+ℤ◌, ◌+◌, ◌<◌, ◌^◌, ◌∙◌, ◌∷◌, ◌≡◌, ◌≤◌, ap, arith, Entry, FitsSigned}
use Common.{Form, get_or, int_at, ints, IsBounded, IsWithin, length, List, Machine, pos}
use Common.{product_bound, refl, speed_of, subst, sym, to_z, to_z-of_z, unsigned_abs, w128, w64}
use Common.{weighted_sum-entries}
use Rattle.std.proofs.Common.{ap₂}
use Rattle.std.specs.Prelude.{sum_by}
use Rattle.qss_machine.specs.Slopes.{weighted_sum}
use Rattle.qss_run.proofs.condition_detectors.detector_speed_at.Goals.{After-multiply_form_coefficient}
use Rattle.qss_run.proofs.condition_detectors.detector_speed_at.Goals as goal

-- a list of one element
only : (entries : List Entry) (none : Entry) → 1 ≤ length entries → length entries < 2 → entries ≡ get_or entries 0 none ∷ []
only [] none some few = absurd (omega arith)
only (entry ∷ []) none some few = refl
only (entry ∷ next ∷ entries) none some few = absurd (omega arith)

-- its coefficient times the slope is the speed
speed_of_one : (m : Machine) (form : Form) (slopes : List ℤ) (entry : Entry) → form.entries ≡ entry ∷ [] → form.time ≡ pos 0 → speed_of m form slopes ≡ entry.coef *ℤ int_at slopes entry.var
speed_of_one m form slopes entry one never =
    ap₂ (λ es z. weighted_sum es slopes +ℤ z *ℤ pos (2 ^ (m.f + m.p))) one never
    ∙ ap (λ z. z +ℤ pos 0 *ℤ pos (2 ^ (m.f + m.p))) (weighted_sum-entries (entry ∷ []) slopes)
    ∙ omega (arith, ints)

coefficient_small : (form : Form) (entry : Entry) → IsBounded form → form.entries ≡ entry ∷ [] → IsWithin 38 entry.coef
coefficient_small form entry bounded one =
    let sum : sum_by (λ (e : Entry). unsigned_abs e.coef) (entry ∷ []) + unsigned_abs form.time ≤ 2 ^ 38 = subst (λ (es : List Entry). sum_by (λ (e : Entry). unsigned_abs e.coef) es + unsigned_abs form.time ≤ 2 ^ 38) one bounded.coefficients in
    omega (arith, sum)

-- the entry, and what is multiplied
record IsOne (c : After-multiply_form_coefficient) : Type 0 where
  entry : Entry
  one : c.args.form.now.entries ≡ entry ∷ []
  small : IsWithin 38 entry.coef
  small_slope : IsWithin 88 (int_at c.args.slopes.now entry.var)
  product : c.multiply_form_coefficient.result ≡ entry.coef *ℤ int_at c.args.slopes.now entry.var

is_one : (c : After-multiply_form_coefficient) → IsOne c
is_one c =
    let slopes : List ℤ = c.args.slopes.now in
    let none : Entry = record { var = 0; coef = pos 0 } in
    let read : List Entry = c.as_slice.result.now in
    let entry : Entry = get_or read 0 none in
    let one : c.args.form.now.entries ≡ entry ∷ [] = sym c.as_slice.ensures ∙ only read none c.in-len1.len_at_least c.in-len1.len_below in
    let small : IsWithin 38 entry.coef = coefficient_small c.args.form.now entry c.requires.form one in
    let inside : entry.var < length slopes = c.if-var-slopes.true in
    let small_slope : IsWithin 88 (int_at slopes entry.var) = c.requires.size_limit entry.var (pos 0) inside in
    let fits : FitsSigned w64 entry.coef = omega (arith, ints, small) in
    let fits_slope : FitsSigned w128 (int_at slopes entry.var) = omega (arith, ints, small_slope) in
    record {
      entry = entry;
      one = one;
      small = small;
      small_slope = small_slope;
      product = c.multiply_form_coefficient.ensures ∙ ap₂ (λ a b. a *ℤ b) (to_z-of_z w64 entry.coef fits) (to_z-of_z w128 (int_at slopes entry.var) fits_slope);
    }

pub returns-then-var-slopes-clause-value : goal.returns-then-var-slopes-clause-value
returns-then-var-slopes-clause-value c =
    let is = is_one c in
    let time : FitsSigned w64 c.args.form.now.time = omega (arith, ints, c.requires.form.coefficients) in
    let fits : FitsSigned w128 c.multiply_form_coefficient.result = record { sfits = c.multiply_form_coefficient.type_inv } in
    let never : c.args.form.now.time ≡ pos 0 = sym (to_z-of_z w64 c.args.form.now.time time) ∙ ap (to_z w64) c.if-form-eq0.true in
    to_z-of_z w128 c.multiply_form_coefficient.result fits ∙ is.product ∙ sym (speed_of_one c.args.m.now c.args.form.now c.args.slopes.now is.entry is.one never)

pub returns-then-var-slopes-clause-bound : goal.returns-then-var-slopes-clause-bound
returns-then-var-slopes-clause-bound c =
    let is = is_one c in
    let fits : FitsSigned w128 c.multiply_form_coefficient.result = record { sfits = c.multiply_form_coefficient.type_inv } in
    let bound = product_bound is.entry.coef (int_at c.args.slopes.now is.entry.var) (2 ^ 38) (2 ^ 88) is.small is.small_slope in
    rw (to_z-of_z w128 c.multiply_form_coefficient.result fits, is.product) (omega (arith, bound))
