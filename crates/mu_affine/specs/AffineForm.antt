-- Affine forms: exact coefficients of variables, of products and of time, and a constant.
use Rattle.std.specs.Prelude.{ℕ, pos, Bool, false, not, ◌&&◌, ◌||◌, ◌+◌, nat_eq, nat_lt, nat_le}
use Rattle.std.specs.Prelude.{if◌then◌else◌, Result, Ok, Err, unsigned_abs}
use Prim.Native.Nat.{zero, suc}
use Rattle.mu_affine.specs.declared.exact_form.Sizes.{Sizes}
use Rattle.mu_num.specs.declared.NumErr.{NumErr}
use Rattle.mu_num.specs.declared.NumErr.TheVariants.{Range}
use Rattle.mu_num.specs.Fraction.{Fraction, whole, sum, product, quotient, lowest, is_small}

-- An affine form. The numbers of variables: first the states, then the discrete variables, then
-- the previous values of the discrete variables. Pairs use these numbers too.
pub record AffineForm : Type 0 where
  pub coefficient : ℕ → Fraction
  pub paired : (state discrete : ℕ) → Fraction
  pub time : Fraction
  pub constant : Fraction

-- the fraction 0
abbrev pub none : Fraction
none = whole (pos 0)

-- whether a fraction is not 0
abbrev pub is_nonzero : Fraction → Bool
is_nonzero a = not (nat_eq (unsigned_abs a.num) 0)

-- whether the test passes for one of `count` numbers from `start` on
unfoldable pub any_from : (start count : ℕ) → (ℕ → Bool) → Bool
any_from start zero test = false
any_from start (suc count) test = test start || any_from (suc start) count test

-- the form of a constant
abbrev pub constant_form : Fraction → AffineForm
constant_form a = record { coefficient = λ v. none; paired = λ s d. none; time = none; constant = a }

-- the form of a variable
abbrev pub name_form : ℕ → AffineForm
name_form n = record { coefficient = λ v. if nat_eq v n then whole (pos 1) else none; paired = λ s d. none; time = none; constant = none }

-- the form of the time
abbrev pub time_form : AffineForm
time_form = record { coefficient = λ v. none; paired = λ s d. none; time = whole (pos 1); constant = none }

-- whether a coefficient of a state, of a discrete variable, of a previous value or of a pair is
-- nonzero
abbrev pub has_states : Sizes → AffineForm → Bool
has_states n f = any_from 0 n.states (λ v. is_nonzero (f.coefficient v))

abbrev pub has_discretes : Sizes → AffineForm → Bool
has_discretes n f = any_from n.states n.discretes (λ v. is_nonzero (f.coefficient v))

abbrev pub has_previous : Sizes → AffineForm → Bool
has_previous n f = any_from (n.states + n.discretes) n.discretes (λ v. is_nonzero (f.coefficient v))

abbrev pub has_pairs : Sizes → AffineForm → Bool
has_pairs n f = any_from 0 n.states (λ s. any_from n.states n.discretes (λ d. is_nonzero (f.paired s d)))

-- whether any coefficient is nonzero
abbrev pub has_coefficient : Sizes → AffineForm → Bool
has_coefficient n f = has_states n f || has_discretes n f || has_previous n f || has_pairs n f || is_nonzero f.time

-- whether only coefficients of states are nonzero, and whether only those of discrete variables are
abbrev pub has_states_alone : Sizes → AffineForm → Bool
has_states_alone n f = not (has_discretes n f || has_previous n f || has_pairs n f || is_nonzero f.time)

abbrev pub has_discretes_alone : Sizes → AffineForm → Bool
has_discretes_alone n f = not (has_states n f || has_previous n f || has_pairs n f || is_nonzero f.time)

-- whether the product of two forms is allowed
abbrev pub may_multiply : Sizes → AffineForm → AffineForm → Bool
may_multiply n f g =
    not (has_coefficient n f && has_coefficient n g)
    || (has_states_alone n f && has_discretes_alone n g)
    || (has_discretes_alone n f && has_states_alone n g)

-- whether s is the number of a state and d the number of a discrete variable
abbrev pub is_pair : Sizes → ℕ → ℕ → Bool
is_pair n s d = nat_lt s n.states && (nat_le n.states d && nat_lt d (n.states + n.discretes))

-- the coefficientwise combination of two forms
abbrev pub combined : (Fraction → Fraction → Fraction) → AffineForm → AffineForm → AffineForm
combined op f g = record {
  coefficient = λ v. op (f.coefficient v) (g.coefficient v);
  paired = λ s d. op (f.paired s d) (g.paired s d);
  time = op f.time g.time;
  constant = op f.constant g.constant;
}

-- the exact product of two forms
abbrev pub product_form : Sizes → AffineForm → AffineForm → AffineForm
product_form n f g = record {
  coefficient = λ v. crossed (f.coefficient v) (g.coefficient v);
  paired = λ s d. sum (crossed (f.paired s d) (g.paired s d)) (if_pair n s d (sum (product (f.coefficient s) (g.coefficient d)) (product (f.coefficient d) (g.coefficient s))));
  time = crossed f.time g.time;
  constant = product f.constant g.constant;
}
  where
    crossed : Fraction → Fraction → Fraction
    crossed a b = sum (product a g.constant) (product f.constant b)

    if_pair : Sizes → ℕ → ℕ → Fraction → Fraction
    if_pair n s d a = if is_pair n s d then a else none

-- the exact quotient of a form by a nonzero number
abbrev pub quotient_form : AffineForm → Fraction → AffineForm
quotient_form f a = record { coefficient = λ v. quotient (f.coefficient v) a; paired = λ s d. quotient (f.paired s d) a; time = quotient f.time a; constant = quotient f.constant a }

-- whether every number of the form, in lowest terms, is at most 2 ^ 62 in size
abbrev pub is_in_range : Sizes → AffineForm → Bool
is_in_range n f =
    not (any_from 0 (n.states + n.discretes + n.discretes) (λ v. not (is_small (lowest (f.coefficient v)))))
    && not (any_from 0 n.states (λ s. any_from n.states n.discretes (λ d. not (is_small (lowest (f.paired s d))))))
    && is_small (lowest f.time) && is_small (lowest f.constant)

-- the form with each number in lowest terms
abbrev pub lowest_form : AffineForm → AffineForm
lowest_form f = record { coefficient = λ v. lowest (f.coefficient v); paired = λ s d. lowest (f.paired s d); time = lowest f.time; constant = lowest f.constant }

-- the form in lowest terms, or Range if one of its numbers is too large
abbrev pub checked_form : Sizes → AffineForm → Result AffineForm NumErr
checked_form n f = if is_in_range n f then Ok (lowest_form f) else Err Range

-- how many of `count` numbers from `start` on pass the test
unfoldable pub count_from : (start count : ℕ) → (ℕ → Bool) → ℕ
count_from start zero test = 0
count_from start (suc count) test = (if test start then 1 else 0) + count_from (suc start) count test

-- the sum of `each` over `count` numbers from `start` on
unfoldable pub sum_from : (start count : ℕ) → (ℕ → ℕ) → ℕ
sum_from start zero each = 0
sum_from start (suc count) each = each start + sum_from (suc start) count each

-- the number of nonzero coefficients of a form: of variables, of pairs, and of time
abbrev pub coefficient_count : Sizes → AffineForm → ℕ
coefficient_count n f =
    count_from 0 (n.states + n.discretes + n.discretes) (λ v. is_nonzero (f.coefficient v))
    + sum_from 0 n.states (λ s. count_from n.states n.discretes (λ d. is_nonzero (f.paired s d)))
    + (if is_nonzero f.time then 1 else 0)
