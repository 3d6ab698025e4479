-- Values of constant expressions inside loops, or the first fault of a part.
use Rattle.std.specs.Prelude.{ℕ, ℤ, pos, nat_eq, if◌then◌else◌, List}
use Rattle.std.specs.Prelude.{Option, Some, None, Result, Ok, Err}
use Rattle.mu_num.specs.declared.NumErr.{NumErr}
use Rattle.mu_num.specs.Fraction.{Fraction, whole}
use Rattle.mu_num.specs.Decimal.{decimal_value}
use Rattle.mu_tree.specs.Expression.{Expression, Number, Variable, Now, Previous, Sum, Product}
use Rattle.mu_tree.specs.Expression.{Power, Reference, Whole, Element, Terms, no_terms, term}
use Rattle.mu_tree.specs.Expression.{Factors, no_factors, factor}
use Rattle.mu_names.specs.Constant.{joined, multiplied, raised}
use Rattle.mu_unroll.specs.declared.unroll_fault.UnrollErr.{UnrollErr}
use Rattle.mu_unroll.specs.declared.unroll_fault.UnrollErr.TheVariants.{NotWhole, ConstFault}

-- the continuation applied to the value, or the fault
abbrev pub bind_result : {A B : Type 0} → Result A UnrollErr → (A → Result B UnrollErr) → Result B UnrollErr
bind_result (Ok a) next = next a
bind_result (Err fault) next = Err fault

-- the number, or its error as a fault at the offset
abbrev pub placed : ℕ → Result Fraction NumErr → Result Fraction UnrollErr
placed at (Ok a) = Ok a
placed at (Err fault) = Err (ConstFault at fault)

-- the fraction 0
abbrev pub zero_value : Fraction
zero_value = whole (pos 0)

-- the value of a constant; other names get 0, but name analysis rejects models with such names
abbrev pub constant_or_zero : Option Fraction → Result Fraction UnrollErr
constant_or_zero (Some a) = Ok a
constant_or_zero None = Ok zero_value

abbrev mutual
  -- the value of a constant expression, or the first fault: inner parts first, from left to right
  pub constant_value : (List ℕ → Option Fraction) → Expression → Result Fraction UnrollErr
  constant_value constant (Number digits at) = placed at (decimal_value digits)
  constant_value constant (Variable r) = reference_value constant r
  constant_value constant (Now at) = Ok zero_value
  constant_value constant (Previous r) = Ok zero_value
  constant_value constant (Sum ts) = sum_value constant zero_value ts
  constant_value constant (Product fs) = product_value constant (whole (pos 1)) fs
  constant_value constant (Power base exp at) = bind_result (constant_value constant base) (λ a. placed at (raised exp a))

  -- the value of a reference; constants have no index
  pub reference_value : (List ℕ → Option Fraction) → Reference → Result Fraction UnrollErr
  reference_value constant (Whole name at) = constant_or_zero (constant name)
  reference_value constant (Element name index at) = Ok zero_value

  -- the value of a sum, term by term from the left
  pub sum_value : (List ℕ → Option Fraction) → Fraction → Terms → Result Fraction UnrollErr
  sum_value constant total no_terms = Ok total
  sum_value constant total (term minus at e rest) =
      bind_result (constant_value constant e) (λ a. bind_result (placed at (joined minus total a)) (λ next. sum_value constant next rest))

  -- the value of a product, factor by factor from the left
  pub product_value : (List ℕ → Option Fraction) → Fraction → Factors → Result Fraction UnrollErr
  product_value constant total no_factors = Ok total
  product_value constant total (factor divide at e rest) =
      bind_result (constant_value constant e) (λ a. bind_result (placed at (multiplied divide total a)) (λ next. product_value constant next rest))

-- the value as an integer, or NotWhole
abbrev pub whole_at : ℕ → Fraction → Result ℤ UnrollErr
whole_at at a = if nat_eq a.den 1 then Ok a.num else Err (NotWhole at)
