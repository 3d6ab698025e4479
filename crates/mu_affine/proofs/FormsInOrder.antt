-- The forms of algebraic variables, one after another.
use Rattle.mu_affine.proofs.Common
use Common.{[], ℕ, ◌+◌, ◌<◌, ◌^◌, ◌∙◌, ◌∷◌, ◌≡◌, ◌≢◌, ◌≤◌, AffineErr, AffineForm, ap, AreSolved}
use Common.{AreZeros, arith, cases_eq, constant_form, counted, CountedForms, drop, equation_context}
use Common.{Err, ExactForm, false, flat_equation, FlatEquation, FlatModelTree, form_meaning}
use Common.{form_of, forms_in, FormsSoFar, fun_ext, get_or, if◌then◌else◌, inl, inr, IsFaultOf}
use Common.{IsFinished, IsSolved, IsZero, length, List, map, nat_eq, nat_tests, None, none}
use Common.{nothing_taken, of_equations, Ok, Option, refl, Result, right_side, set, Sizes, sizes_of}
use Common.{slice_get, solve, solve_all, solved_so_far, Some, subst, suc, sym, then_take, true}
use Common.{zero}
use Rattle.mu_affine.proofs.Equations.{one_of_all}
use Rattle.mu_affine.proofs.Steps.{after, fault_then, fault_same, vars_from}

-- an element that was written
set_here : {A : Type 0} (xs : List A) (v : ℕ) (x : A) → v < length xs → slice_get (set xs v x) v ≡ Some x
set_here [] v x h = absurd (omega arith)
set_here (y ∷ ys) zero x h = refl
set_here (y ∷ ys) (suc v) x h = set_here ys v x (omega arith)

-- and the others
set_there : {A : Type 0} (xs : List A) (v w : ℕ) (x : A) → w ≢ v → slice_get (set xs v x) w ≡ slice_get xs w
set_there [] v w x h = refl
set_there (y ∷ ys) zero zero x h = absurd (h refl)
set_there (y ∷ ys) zero (suc w) x h = refl
set_there (y ∷ ys) (suc v) zero x h = refl
set_there (y ∷ ys) (suc v) (suc w) x h = set_there ys v w x (λ same. h (ap (λ n. suc n) same))

-- the forms of a list with one form more
forms_set : (xs : List ExactForm) (v : ℕ) (f : ExactForm) → v < length xs → forms_in (set xs v f) ≡ (λ w. if nat_eq w v then form_meaning f else forms_in xs w)
forms_set xs v f h = fun_ext (λ w. at_number w)
  where
    at_number : (w : ℕ) → forms_in (set xs v f) w ≡ (if nat_eq w v then form_meaning f else forms_in xs w)
    at_number w =
        elim (cases_eq w v) [
          | inl same ↦
              let test : nat_eq w v ≡ true = grind (arith, nat_tests) in
              let there : slice_get (set xs v f) w ≡ Some f = ap (slice_get (set xs v f)) same ∙ set_here xs v f h in
              rw (test, there) refl
          | inr other ↦
              let test : nat_eq w v ≡ false = grind (arith, nat_tests) in
              rw (test, set_there xs v w f other) refl
        ]

-- a list with one finished form more
AreSolved-set : (n : Sizes) (xs : List ExactForm) (v : ℕ) (f : ExactForm) → v < length xs → AreSolved (of_equations n) xs → IsFinished (of_equations n) f → AreSolved (of_equations n) (set xs v f)
AreSolved-set n xs v f h solved finished w g there =
    elim (cases_eq w v) [
      | inl same ↦
          let is : f ≡ g = let e = ap (slice_get (set xs v f)) same ∙ set_here xs v f h in cc in
          subst (IsFinished (of_equations n)) is finished
      | inr other ↦ solved w g (sym (set_there xs v w f other) ∙ there)
    ]

-- a list of zeros
zeros_are : (forms : List ExactForm) → AreZeros forms → forms_in forms ≡ (λ v. constant_form none)
zeros_are forms zeros = fun_ext (λ v. by_form v (slice_get forms v) refl)
  where
    by_form : (v : ℕ) (r : Option ExactForm) → slice_get forms v ≡ r → forms_in forms v ≡ constant_form none
    by_form v None e = rw e refl
    by_form v (Some f) e = let zero_there = one_of_all IsZero forms v f zeros e in rw e zero_there.0

-- nothing is solved yet
pub nothing_solved : (s : CountedForms) → AreZeros s.forms.items → s.count ≡ 0 → nothing_taken ≡ solved_so_far s
nothing_solved s zeros none_counted =
    ap (λ forms. let t : FormsSoFar = record { solved = forms; kept = []; count = 0 } in t) (sym (zeros_are s.forms.items zeros))
    ∙ ap (λ count. let t : FormsSoFar = record { solved = forms_in s.forms.items; kept = []; count = count } in t) (sym none_counted)

pub zeros_solved : (n : Sizes) (s : CountedForms) (variables : ℕ) → AreZeros s.forms.items → length s.forms.items ≡ variables → s.count ≡ 0 → IsSolved n variables s
zeros_solved n s variables zeros one_each none_counted = record {
  finished = λ v f there. (one_of_all IsZero s.forms.items v f zeros there).1 (of_equations n);
  one_each = one_each;
  few = omega (arith, none_counted);
}

-- a right side over equal lists
pub part_along : (n : Sizes) (xs ys : List ExactForm) (es ds : List FlatEquation) (v : ℕ) → xs ≡ ys → es ≡ ds
    → form_of (equation_context n (forms_in xs)) (right_side (map flat_equation es) v) ≡ form_of (equation_context n (forms_in ys)) (right_side (map flat_equation ds) v)
part_along n xs ys es ds v same_forms same_equations =
    ap (λ zs. form_of (equation_context n (forms_in zs)) (right_side (map flat_equation es) v)) same_forms
    ∙ ap (λ zs. form_of (equation_context n (forms_in ys)) (right_side (map flat_equation zs) v)) same_equations

-- what follows the form of a variable
abbrev after_form : FlatModelTree → ℕ → FormsSoFar → AffineForm → Result FormsSoFar AffineErr
after_form m v t f = then_take (counted (sizes_of m) t.count f) (λ count. Ok (record { solved = λ w. if nat_eq w v then f else t.solved w; kept = t.kept; count = count }))

-- a fault of the form of a variable
pub solve_form_fault : (m : FlatModelTree) (n : Sizes) (v : ℕ) (s : CountedForms) (fault : AffineErr) → n ≡ sizes_of m
    → IsFaultOf (form_of (equation_context n (forms_in s.forms.items)) (right_side m.equations v)) fault → IsFaultOf (solve m v (solved_so_far s)) fault
solve_form_fault m n v s fault is h =
    fault_then (form_of (equation_context (sizes_of m) (forms_in s.forms.items)) (right_side m.equations v)) (after_form m v (solved_so_far s)) fault
    (subst (λ k. IsFaultOf (form_of (equation_context k (forms_in s.forms.items)) (right_side m.equations v)) fault) is h)

-- too many coefficients
pub solve_count_fault : (m : FlatModelTree) (n : Sizes) (v : ℕ) (s : CountedForms) (f : AffineForm) (fault : AffineErr) → n ≡ sizes_of m
    → form_of (equation_context n (forms_in s.forms.items)) (right_side m.equations v) ≡ Ok f → counted n s.count f ≡ Err fault → solve m v (solved_so_far s) ≡ Err fault
solve_count_fault m n v s f fault is form count =
    let form_there : form_of (equation_context (sizes_of m) (forms_in s.forms.items)) (right_side m.equations v) ≡ Ok f = subst (λ k. form_of (equation_context k (forms_in s.forms.items)) (right_side m.equations v) ≡ Ok f) is form in
    let counted_there : counted (sizes_of m) s.count f ≡ Err fault = subst (λ k. counted k s.count f ≡ Err fault) is count in
    after (form_of (equation_context (sizes_of m) (forms_in s.forms.items)) (right_side m.equations v)) (after_form m v (solved_so_far s)) f form_there
    ∙ ap (λ r. then_take r (λ count. Ok (record { solved = λ w. if nat_eq w v then f else forms_in s.forms.items w; kept = []; count = count }))) counted_there

-- one variable more is solved
pub solve_done : (m : FlatModelTree) (n : Sizes) (v : ℕ) (s new : CountedForms) (f : ExactForm) → n ≡ sizes_of m → v < length s.forms.items
    → form_of (equation_context n (forms_in s.forms.items)) (right_side m.equations v) ≡ Ok (form_meaning f) → counted n s.count (form_meaning f) ≡ Ok new.count
    → new.forms.items ≡ set s.forms.items v f → solve m v (solved_so_far s) ≡ Ok (solved_so_far new)
solve_done m n v s new f is within form count write =
    let form_there : form_of (equation_context (sizes_of m) (forms_in s.forms.items)) (right_side m.equations v) ≡ Ok (form_meaning f) = subst (λ k. form_of (equation_context k (forms_in s.forms.items)) (right_side m.equations v) ≡ Ok (form_meaning f)) is form in
    let counted_there : counted (sizes_of m) s.count (form_meaning f) ≡ Ok new.count = subst (λ k. counted k s.count (form_meaning f) ≡ Ok new.count) is count in
    let taken : (ℕ → AffineForm) → FormsSoFar = λ forms. record { solved = forms; kept = []; count = new.count } in
    after (form_of (equation_context (sizes_of m) (forms_in s.forms.items)) (right_side m.equations v)) (after_form m v (solved_so_far s)) (form_meaning f) form_there
    ∙ ap (λ r. then_take r (λ count. Ok (record { solved = λ w. if nat_eq w v then form_meaning f else forms_in s.forms.items w; kept = []; count = count }))) counted_there
    ∙ ap (λ forms. Ok (taken forms)) (sym (ap forms_in write ∙ forms_set s.forms.items v f within))

pub solved_more : (n : Sizes) (v variables : ℕ) (s new : CountedForms) (f : ExactForm) → IsSolved n variables s → v < length s.forms.items → IsFinished (of_equations n) f → new.count ≤ 2 ^ 16
    → new.forms.items ≡ set s.forms.items v f → length (set s.forms.items v f) ≡ length s.forms.items → IsSolved n variables new
solved_more n v variables s new f solved within finished few write same_length = record {
  finished = subst (AreSolved (of_equations n)) (sym write) (AreSolved-set n s.forms.items v f within solved.finished finished);
  one_each = ap length write ∙ same_length ∙ solved.one_each;
  few = few;
}

-- the variables of an order, one after another
pub order_more : (m : FlatModelTree) (vs : List ℕ) (i v : ℕ) (s new : CountedForms) → i < length vs → v ≡ get_or vs i v → solve m v (solved_so_far s) ≡ Ok (solved_so_far new)
    → solve_all m (drop i vs) (solved_so_far s) ≡ solve_all m (drop (i + 1) vs) (solved_so_far new)
order_more m vs i v s new h is done = vars_from m vs i v (solved_so_far s) h is ∙ after (solve m v (solved_so_far s)) (solve_all m (drop (i + 1) vs)) (solved_so_far new) done

pub order_fails : (m : FlatModelTree) (vs : List ℕ) (i v : ℕ) (s : CountedForms) (expected : Result FormsSoFar AffineErr) (fault : AffineErr) → i < length vs → v ≡ get_or vs i v
    → solve_all m (drop i vs) (solved_so_far s) ≡ expected → IsFaultOf (solve m v (solved_so_far s)) fault → IsFaultOf expected fault
order_fails m vs i v s expected fault h is rest failed =
    fault_same (then_take (solve m v (solved_so_far s)) (solve_all m (drop (i + 1) vs))) expected fault (sym (vars_from m vs i v (solved_so_far s) h is) ∙ rest)
    (fault_then (solve m v (solved_so_far s)) (solve_all m (drop (i + 1) vs)) fault failed)
