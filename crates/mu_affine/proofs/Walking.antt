-- The walk of an expression, part by part.
use Rattle.mu_affine.proofs.Common
use Common.{[], ℕ, ◌&&◌, ◌+◌, ◌<◌, ◌==◌, ◌∙◌, ◌∷◌, ◌≡◌, ◌≤◌, ◌⊎◌, AffineErr, AffineForm, ap, arith}
use Common.{Bool, cases_Bool, constant_form, ConstFault, Context, context_of, Err, ExactForm}
use Common.{factor, false, false≢true, Finishes, FlatExpression, FlatFactors, FlatTerms}
use Common.{form_meaning, form_of, forms_in, Fraction, get_or, has_pairs, inl, inr, is_nonzero}
use Common.{IsAnswer, IsFinished, IsOver, join_forms, length, List, MayStand, Memory}
use Common.{multiply_forms, nat_lt, nat_tests, no_factors, no_terms, not, NotAffine, Ok, Place}
use Common.{Power, product_of, raise_form, refl, Result, RunningForm, slice_get, slice_get-get_or}
use Common.{Some, subst, sum_form, sum_meaning, sym, term, TimeHere, TooDense, true, Variable}
use Rattle.std.proofs.lemmas.Bool.{eqb-true}
use Rattle.mu_affine.specs.AffineForm.{name_form}
use Rattle.mu_affine.proofs.Checks.{and_false}
use Rattle.mu_affine.proofs.Showing.{no_pairs, first_pair, has_pairs-none}

-- a state or a discrete variable is a name
pub name_is : (p : Place) (solved : List ExactForm) (v at : ℕ) → v < p.sizes.states + p.sizes.discretes → form_of (context_of p solved) (Variable v at) ≡ Ok (name_form v)
name_is p solved v at h =
    let low : nat_lt v (p.sizes.states + p.sizes.discretes) ≡ true = grind (arith, nat_tests) in
    let pairs : has_pairs p.sizes (name_form v) ≡ false = no_pairs p.sizes (name_form v) (λ s d. refl) in
    rw (low, pairs) refl

-- it is allowed anywhere
pub MayStand-below : (p : Place) (v : ℕ) → v < p.sizes.states + p.sizes.discretes → MayStand p v
MayStand-below p v h = (omega arith, λ _. h)

-- an algebraic variable has the form of the list
solved_is : (solved : List ExactForm) (v : ℕ) (f : ExactForm) → slice_get solved v ≡ Some f → forms_in solved v ≡ form_meaning f
solved_is solved v f h = rw h refl

-- where it is allowed, it is that form
pub algebraic_is : (p : Place) (solved : List ExactForm) (v at : ℕ) (f : ExactForm) → p.sizes.states + p.sizes.discretes ≤ v → slice_get solved v ≡ Some f → (has_pairs p.sizes (form_meaning f) && not p.in_equation) ≡ false
    → form_of (context_of p solved) (Variable v at) ≡ Ok (form_meaning f)
algebraic_is p solved v at f h there fine =
    let high : nat_lt v (p.sizes.states + p.sizes.discretes) ≡ false = grind (arith, nat_tests) in
    rw (high, solved_is solved v f there, fine) refl

pub algebraic_refused : (p : Place) (solved : List ExactForm) (v at : ℕ) (f : ExactForm) → p.sizes.states + p.sizes.discretes ≤ v → slice_get solved v ≡ Some f → has_pairs p.sizes (form_meaning f) ≡ true → p.in_equation ≡ false
    → form_of (context_of p solved) (Variable v at) ≡ Err (NotAffine at)
algebraic_refused p solved v at f h there pairs outside =
    let high : nat_lt v (p.sizes.states + p.sizes.discretes) ≡ false = grind (arith, nat_tests) in
    rw (high, solved_is solved v f there, pairs, outside) refl

-- a form of an equation without products is finished anywhere
pub finished_anywhere : (p : Place) (f : ExactForm) → IsFinished (record p { in_equation = true }) f → (p.in_equation ≡ true) ⊎ (f.products ≡ []) → IsFinished p f
finished_anywhere p f h (inl inside) = record {
  canonical = h.canonical;
  over = record { names = λ v n. ((h.over.names v n).0, λ _. (h.over.names v n).1 refl); pairs = λ s d n. ((h.over.pairs s d n).0, inside) };
}
finished_anywhere p f h (inr none_left) = record {
  canonical = h.canonical;
  over = record {
    names = λ v n. ((h.over.names v n).0, λ _. (h.over.names v n).1 refl);
    pairs = λ s d n. absurd (no_pair_left p f none_left s d n);
  };
}
  where
    no_pair_left : (p : Place) (f : ExactForm) → f.products ≡ [] → (s d : ℕ) → is_nonzero ((form_meaning f).paired s d) ≡ true → ⊥
    no_pair_left p f e s d n = let zero : is_nonzero ((form_meaning f).paired s d) ≡ false = rw e refl in false≢true (sym zero ∙ n)

-- a fault stays the fault of a sum, and of a product
pub sum_form-fault : (c : Context) (fault : AffineErr) (ts : FlatTerms) → sum_form c (Err fault) ts ≡ Err fault
sum_form-fault c fault no_terms = refl
sum_form-fault c fault (term minus at e rest) = sum_form-fault c fault rest

pub product_of-fault : (c : Context) (fault : AffineErr) (fs : FlatFactors) → product_of c (Err fault) fs ≡ Err fault
product_of-fault c fault no_factors = refl
product_of-fault c fault (factor divide at e rest) = product_of-fault c fault rest

-- one term more
pub sum_step : (c : Context) (total new f : AffineForm) (minus : Bool) (at : ℕ) (e : FlatExpression) (rest : FlatTerms) → form_of c e ≡ Ok f → join_forms c.place minus at total f ≡ Ok new
    → sum_form c (Ok total) (term minus at e rest) ≡ sum_form c (Ok new) rest
sum_step c total new f minus at e rest h k = rw (h, k) refl

-- a term that has a fault, or that can't be joined
pub sum_term_fault : (c : Context) (total : AffineForm) (minus : Bool) (at : ℕ) (e : FlatExpression) (rest : FlatTerms) (fault : AffineErr) → form_of c e ≡ Err fault → sum_form c (Ok total) (term minus at e rest) ≡ Err fault
sum_term_fault c total minus at e rest fault h = rw h (sum_form-fault c fault rest)

pub sum_join_fault : (c : Context) (total f : AffineForm) (minus : Bool) (at : ℕ) (e : FlatExpression) (rest : FlatTerms) (fault : AffineErr) → form_of c e ≡ Ok f → join_forms c.place minus at total f ≡ Err fault → sum_form c (Ok total) (term minus at e rest) ≡ Err fault
sum_join_fault c total f minus at e rest fault h k = rw (h, k) (sum_form-fault c fault rest)

-- one factor more
pub product_step : (c : Context) (total new f : AffineForm) (divide : Bool) (at : ℕ) (e : FlatExpression) (rest : FlatFactors) → form_of c e ≡ Ok f → multiply_forms c.place divide at total f ≡ Ok new
    → product_of c (Ok total) (factor divide at e rest) ≡ product_of c (Ok new) rest
product_step c total new f divide at e rest h k = rw (h, k) refl

-- a factor that has a fault, or that can't be taken in
pub product_factor_fault : (c : Context) (total : AffineForm) (divide : Bool) (at : ℕ) (e : FlatExpression) (rest : FlatFactors) (fault : AffineErr) → form_of c e ≡ Err fault → product_of c (Ok total) (factor divide at e rest) ≡ Err fault
product_factor_fault c total divide at e rest fault h = rw h (product_of-fault c fault rest)

pub product_part_fault : (c : Context) (total f : AffineForm) (divide : Bool) (at : ℕ) (e : FlatExpression) (rest : FlatFactors) (fault : AffineErr) → form_of c e ≡ Ok f → multiply_forms c.place divide at total f ≡ Err fault → product_of c (Ok total) (factor divide at e rest) ≡ Err fault
product_part_fault c total f divide at e rest fault h k = rw (h, k) (product_of-fault c fault rest)

-- nothing stands over no names
pub IsOver-constant : (p : Place) (a : Fraction) → IsOver p (constant_form a)
IsOver-constant p a = record { names = λ v n. absurd (cc); pairs = λ s d n. absurd (cc) }

-- an element by its place
pub place_at : (solved : List ExactForm) (v : ℕ) (f : ExactForm) → v < length solved → f ≡ get_or solved v f → slice_get solved v ≡ Some f
place_at solved v f h is = slice_get-get_or solved v f h ∙ ap Some (sym is)

-- a form that fits a place is kept there
pub fits_place : (p : Place) (f : ExactForm) → (p.in_equation ≡ true) ⊎ (f.products ≡ []) → (has_pairs p.sizes (form_meaning f) && not p.in_equation) ≡ false
fits_place p f (inl inside) = rw (inside, and_false) refl
fits_place p f (inr none_left) = rw (has_pairs-none p.sizes f none_left) refl

-- a form with products has pairs
pub pairs_left : (p : Place) (f : ExactForm) → IsFinished (record p { in_equation = true }) f → (f.products ≡ [] → ⊥) → has_pairs p.sizes (form_meaning f) ≡ true
pairs_left p f h some =
    elim (cases_Bool (has_pairs p.sizes (form_meaning f))) [
      | inl is ↦ is
      | inr fails ↦ absurd (some (first_pair (record p { in_equation = true }) f h fails))
    ]

-- a list of length 0
pub empty_list : {A : Type 0} (xs : List A) → true ≡ (length xs == 0) → xs ≡ []
empty_list [] h = refl
empty_list (x ∷ xs) h = absurd (omega (arith, eqb-true (length (x ∷ xs)) 0 (sym h)))

-- a fault that is passed on
pub fault_passes : (p : Place) (x y : Result AffineForm AffineErr) (why : AffineErr) → ((fault : AffineErr) → x ≡ Err fault → y ≡ Err fault) → IsAnswer p x (Err why) → IsAnswer p y (Err why)
fault_passes p x y (NotAffine at) f h = f (NotAffine at) h
fault_passes p x y (TimeHere at) f h = f (TimeHere at) h
fault_passes p x y (ConstFault at fault) f h = f (ConstFault at fault) h
fault_passes p x y (TooDense count) f h = f (TooDense count) h
fault_passes p x y Memory f h = tt

-- a sum that was finished
pub sum_answer : (p : Place) (x : Result AffineForm AffineErr) (r : RunningForm) (f : ExactForm) → Ok (sum_meaning r) ≡ x → IsOver p (sum_meaning r) → Finishes r f → IsAnswer p x (Ok f)
sum_answer p x r f e over h =
    (sym e ∙ ap Ok (sym h.meaning), record { canonical = h.canonical; over = subst (IsOver p) (sym h.meaning) over })

-- the answer for what an expression says
pub said : (p : Place) (c : Context) (x y : FlatExpression) (r : Result ExactForm AffineErr) → y ≡ x → IsAnswer p (form_of c x) r → IsAnswer p (form_of c y) r
said p c x y r e h = subst (λ z. IsAnswer p (form_of c z) r) (sym e) h

-- a power of a base that has a form, and of one that has none
pub power_is : (c : Context) (e : FlatExpression) (exp at : ℕ) (f : AffineForm) → form_of c e ≡ Ok f → form_of c (Power e exp at) ≡ raise_form c.place exp at f
power_is c e exp at f h = rw h refl

pub power_fault : (c : Context) (e : FlatExpression) (exp at : ℕ) (fault : AffineErr) → form_of c e ≡ Err fault → form_of c (Power e exp at) ≡ Err fault
power_fault c e exp at fault h = rw h refl
