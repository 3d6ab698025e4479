-- The forms of equations have no coefficient of time.
use Rattle.mu_meaning.proofs.Common
use Common.{*ℤ_comm, [], ℕ, ◌*ℤ◌, ◌*◌, ◌+◌, ◌∙◌, ◌∷◌, ◌≡◌, AffineErr, AffineForm, ap}
use Common.{AreSoundFactors, AreSoundTerms, arith, Bool, checked, checked_form, combined, Constant}
use Common.{constant_form, ConstFault, Contains, Context, counted, equation_context, Err, factor}
use Common.{false, FlatEquationTree, FlatExpression, FlatFactors, FlatModelTree, FlatTerms, form_of}
use Common.{FormsSoFar, Fraction, has_coefficient, HasDenominators, if◌then◌else◌, ints, is_nonzero}
use Common.{IsSound, join_forms, joined, kept, List, lowest_form, may_multiply, multiply_forms}
use Common.{name_form, nat_eq, nat_lt, no_factors, no_terms, nonzero_size, NotAffine, Now, NumErr}
use Common.{Ok, parts_of, Place, placed, pos, Power, power, Previous, Product, product_form}
use Common.{product_of, quotient_form, raise_form, refl, Result, right_side, same_ok, sign}
use Common.{sizes_of, solve, solve_all, subst, Sum, sum_form, term, then_form, then_take, time_form}
use Common.{TimeHere, true, Variable, variable_form, whole, zero-*ℤ, ZeroDivisor}
use Rattle.mu_affine.proofs.Fractions.{lowest-zero}
use Rattle.mu_meaning.proofs.Forms.{joined_positive, quotient_positive}
use Rattle.mu_meaning.proofs.Leaves.{constant_positive}
use Rattle.mu_meaning.proofs.Products.{product_positive}
use Rattle.mu_meaning.proofs.Steps.{checked_is, kept_is, join_value, multiply_value}
use Rattle.mu_meaning.proofs.Meaning.{forms_have_values, sum_step, product_step, power_step}
use Rattle.mu_meaning.proofs.Models.{Solved, solved_with, side_sound, solve_solved}

-- a form without a coefficient of time
abbrev pub IsTimeless : AffineForm → Type 0
IsTimeless f = f.time.num ≡ pos 0

-- in lowest terms too
lowest_timeless : (f : AffineForm) → HasDenominators f → IsTimeless f → IsTimeless (lowest_form f)
lowest_timeless f f> h = ap (λ (a : Fraction). a.num) (lowest-zero f.time h f>.time)

join_timeless : (p : Place) (minus : Bool) (at : ℕ) (f g h : AffineForm) → HasDenominators f →
    HasDenominators g → IsTimeless f → IsTimeless g → join_forms p minus at f g ≡ Ok h → IsTimeless
    h
join_timeless p minus at f g h f> g> ft gt e =
    subst IsTimeless (checked_is p.sizes at (combined (joined minus) f g) h e)
    (lowest_timeless (combined (joined minus) f g) (joined_positive minus f g f> g>)
    (by_sign minus))
  where
    by_sign : (minus : Bool) → (joined minus f.time g.time).num ≡ pos 0
    by_sign false = omega (
      arith,
      ints,
      ap (λ z. z *ℤ pos g.time.den) ft,
      ap
          (λ z. z *ℤ pos f.time.den) gt,
      zero-*ℤ (pos g.time.den),
      zero-*ℤ (pos f.time.den),
    )
    by_sign true = omega (
      arith,
      ints,
      ap (λ z. z *ℤ pos g.time.den) ft,
      ap
          (λ z. z *ℤ pos f.time.den) gt,
      zero-*ℤ (pos g.time.den),
      zero-*ℤ (pos f.time.den),
    )

product_timeless : (p : Place) (f g : AffineForm) → IsTimeless f → IsTimeless g → IsTimeless
    (product_form p.sizes f g)
product_timeless p f g ft gt =
    let a : f.time.num *ℤ g.constant.num ≡ pos 0 = ap (λ z. z *ℤ g.constant.num) ft ∙ zero-*ℤ
    g.constant.num in
    let b : f.constant.num *ℤ g.time.num ≡ pos 0 = ap (λ z. f.constant.num *ℤ z) gt ∙ *ℤ_comm
    f.constant.num (pos 0) ∙ zero-*ℤ f.constant.num in
    let x = ap (λ z. z *ℤ pos (f.constant.den * g.time.den)) a ∙ zero-*ℤ
    (pos (f.constant.den * g.time.den)) in
    let y = ap (λ z. z *ℤ pos (f.time.den * g.constant.den)) b ∙ zero-*ℤ
    (pos (f.time.den * g.constant.den)) in
    omega (arith, ints, x, y)

quotient_timeless : (f : AffineForm) (a : Fraction) → IsTimeless f → IsTimeless (quotient_form f a)
quotient_timeless f a ft = ap (λ z. (z *ℤ pos a.den) *ℤ sign a.num) ft ∙ ap (λ z. z *ℤ sign a.num)
    (zero-*ℤ (pos a.den)) ∙ zero-*ℤ (sign a.num)

multiply_timeless : (p : Place) (divide : Bool) (at : ℕ) (f g h : AffineForm) → HasDenominators f →
    HasDenominators g → IsTimeless f → IsTimeless g → multiply_forms p divide at f g ≡ Ok h →
    IsTimeless h
multiply_timeless p false at f g h f> g> ft gt e = by_test (may_multiply p.sizes f g) e
  where
    by_kept : (r : Result AffineForm AffineErr) → kept p at (product_form p.sizes f g) ≡ r →
        then_form r (λ k. placed at (checked_form p.sizes k)) ≡ Ok h → IsTimeless h
    by_kept (Err fault) is e = absurd (cc)
    by_kept (Ok k) is e =
        let l : lowest_form (product_form p.sizes f g) ≡ h = ap lowest_form
        (kept_is p at (product_form p.sizes f g) k is) ∙ checked_is p.sizes at k h e in
        subst IsTimeless l (lowest_timeless (product_form p.sizes f g)
        (product_positive p.sizes f g f> g>) (product_timeless p f g ft gt))

    by_test : (t : Bool) → (if t then then_form (kept p at (product_form p.sizes f g))
        (λ k. placed at (checked_form p.sizes k)) else Err (NotAffine at)) ≡ Ok h → IsTimeless h
    by_test false e = absurd (cc)
    by_test true e = by_kept (kept p at (product_form p.sizes f g)) refl e
multiply_timeless p true at f g h f> g> ft gt e = by_test (has_coefficient p.sizes g)
    (is_nonzero g.constant) refl e
  where
    by_test : (t u : Bool) → is_nonzero g.constant ≡ u →
        (if t then Err (NotAffine at) else (if u then placed at
        (checked_form p.sizes (quotient_form f g.constant)) else Err (ConstFault at ZeroDivisor)))
        ≡ Ok h → IsTimeless h
    by_test true u some e = absurd (cc)
    by_test false false some e = absurd (cc)
    by_test false true some e =
        subst IsTimeless (checked_is p.sizes at (quotient_form f g.constant) h e)
        (lowest_timeless (quotient_form f g.constant)
        (quotient_positive f g.constant f> (nonzero_size g.constant some))
        (quotient_timeless f g.constant ft))

raise_timeless : (p : Place) (exp at : ℕ) (f h : AffineForm) → raise_form p exp at f ≡ Ok h →
    IsTimeless h
raise_timeless p exp at f h e = by_test (has_coefficient p.sizes f) (checked (power f.constant exp))
    refl refl
  where
    by_test : (t : Bool) (r : Result Fraction NumErr) → has_coefficient p.sizes f ≡ t → checked
        (power f.constant exp) ≡ r → IsTimeless h
    by_test true r has is = absurd (let e' = rw has at e in cc)
    by_test false (Err fault) has is = absurd (let e' = rw (has, is) at e in cc)
    by_test false (Ok a) has is =
        let e' : Ok (constant_form a) ≡ Ok h = rw (has, is) at e in
        let l : constant_form a ≡ h = cc in
        subst IsTimeless l refl

variable_timeless : (c : Context) (v at : ℕ) (f : AffineForm) → ((v : ℕ) → IsTimeless (c.forms v)) →
    kept c.place at (variable_form c v) ≡ Ok f → IsTimeless f
variable_timeless c v at f forms h = by_test (nat_lt v
    (c.place.sizes.states + c.place.sizes.discretes)) (kept_is c.place at (variable_form c v) f h)
  where
    by_test : (t : Bool) → (if t then name_form v else c.forms v) ≡ f → IsTimeless f
    by_test true is = subst IsTimeless is refl
    by_test false is = subst IsTimeless is (forms v)

now_timeless : (at : ℕ) (f : AffineForm) (t : Bool) → t ≡ true →
    (if t then Err (TimeHere at) else Ok time_form) ≡ Ok f → IsTimeless f
now_timeless at f true is h = absurd (cc)
now_timeless at f false is h = absurd (cc)

-- a context of equations whose forms have denominators and no coefficient of time
pub record IsTimelessContext (c : Context) : Type 0 where
  pub equation : c.place.in_equation ≡ true
  pub denominators : (v : ℕ) → HasDenominators (c.forms v)
  pub timeless : (v : ℕ) → IsTimeless (c.forms v)

mutual
  pub form_timeless : (c : Context) → IsTimelessContext c → (e : FlatExpression) (f : AffineForm) →
      IsSound c.place.sizes e → form_of c e ≡ Ok f → IsTimeless f
  form_timeless c is (Constant a at) f sound h = let l : constant_form a ≡ f = cc in subst
      IsTimeless l refl
  form_timeless c is (Variable v at) f sound h = variable_timeless c v at f is.timeless h
  form_timeless c is (Previous v at) f sound h = let l : name_form (v + c.place.sizes.discretes)
      ≡ f = cc in subst IsTimeless l refl
  form_timeless c is (Now at) f sound h = now_timeless at f c.place.in_equation is.equation h
  form_timeless c is (Sum ts) f sound h = sum_timeless c is ts (constant_form (whole (pos 0))) f
      sound (constant_positive (whole (pos 0)) (omega arith)) refl h
  form_timeless c is (Product fs) f sound h = factors_timeless c is fs
      (constant_form (whole (pos 1))) f sound (constant_positive (whole (pos 1)) (omega arith)) refl
      h
  form_timeless c is (Power base exp at) f sound h =
      let s = power_step c base exp at f (form_of c base) refl h in
      raise_timeless c.place exp at s.0 f s.2

  sum_timeless : (c : Context) → IsTimelessContext c → (ts : FlatTerms) (t f : AffineForm) →
      AreSoundTerms c.place.sizes ts → HasDenominators t → IsTimeless t → sum_form c (Ok t) ts ≡ Ok
      f → IsTimeless f
  sum_timeless c is no_terms t f sound t> tt' h = let l : t ≡ f = cc in subst IsTimeless l tt'
  sum_timeless c is (term minus at e rest) t f sound t> tt' h =
      let s = sum_step c minus at e rest t f h in
      let part> = (forms_have_values c e s.part is.denominators sound.0 s.of_part).0 in
      let part = form_timeless c is e s.part sound.0 s.of_part in
      sum_timeless c is rest s.next f sound.1 (join_value c.place minus at t s.part s.next t> part>
      s.joins).denominators (join_timeless c.place minus at t s.part s.next t> part> tt' part
      s.joins) s.ends

  factors_timeless : (c : Context) → IsTimelessContext c → (fs : FlatFactors) (t f : AffineForm) →
      AreSoundFactors c.place.sizes fs → HasDenominators t → IsTimeless t → product_of c (Ok t) fs
      ≡ Ok f → IsTimeless f
  factors_timeless c is no_factors t f sound t> tt' h = let l : t ≡ f = cc in subst IsTimeless l tt'
  factors_timeless c is (factor divide at e rest) t f sound t> tt' h =
      let s = product_step c divide at e rest t f h in
      let part> = (forms_have_values c e s.part is.denominators sound.0 s.of_part).0 in
      let part = form_timeless c is e s.part sound.0 s.of_part in
      factors_timeless c is rest s.next f sound.1
      (multiply_value c.place divide at t s.part s.next t> part> s.joins).denominators
      (multiply_timeless c.place divide at t s.part s.next t> part> tt' part s.joins) s.ends

-- the solved forms of a flat model
abbrev pub AreTimeless : FormsSoFar → Type 0
AreTimeless t = (v : ℕ) → IsTimeless (t.solved v)

context_timeless : (m : FlatModelTree) (t : FormsSoFar) → Solved t → AreTimeless t →
    IsTimelessContext (equation_context (sizes_of m) t.solved)
context_timeless m t t> timeless = record {
  equation = refl;
  denominators = t>;
  timeless = timeless;
}

solve_timeless : (m : FlatModelTree) (v : ℕ) (t u : FormsSoFar) →
    ((e : FlatEquationTree) → Contains m.equations e → IsSound (sizes_of m) e.value) → Solved t →
    AreTimeless t → solve m v t ≡ Ok u → AreTimeless u
solve_timeless m v t u sound t> timeless h =
    let form = parts_of (form_of (equation_context (sizes_of m) t.solved)
    (right_side m.equations v)) (λ f. then_take (counted (sizes_of m) t.count f)
    (λ n. Ok (solved_with t v f n))) u h in
    let count = parts_of (counted (sizes_of m) t.count form.0) (λ n. Ok (solved_with t v form.0 n))
    u form.2 in
    let here : IsTimeless form.0 = form_timeless (equation_context (sizes_of m) t.solved)
    (context_timeless m t t> timeless) (right_side m.equations v) form.0
    (side_sound (sizes_of m) m.equations v sound) form.1 in
    subst AreTimeless (same_ok (solved_with t v form.0 count.0) u count.2)
    (λ w. chosen (nat_eq w v) form.0 (t.solved w) here (timeless w))
  where
    chosen : (b : Bool) (f g : AffineForm) → IsTimeless f → IsTimeless g → IsTimeless
        (if b then f else g)
    chosen true f g p q = p
    chosen false f g p q = q

pub all_timeless : (m : FlatModelTree) (vs : List ℕ) (t u : FormsSoFar) →
    ((e : FlatEquationTree) → Contains m.equations e → IsSound (sizes_of m) e.value) → Solved t →
    AreTimeless t → solve_all m vs t ≡ Ok u → AreTimeless u
all_timeless m [] t u sound t> timeless h = subst AreTimeless (same_ok t u h) timeless
all_timeless m (v ∷ vs) t u sound t> timeless h =
    let step = parts_of (solve m v t) (solve_all m vs) u h in
    all_timeless m vs step.0 u sound (solve_solved m v t step.0 sound t> step.1)
    (solve_timeless m v t step.0 sound t> timeless step.1) step.2
