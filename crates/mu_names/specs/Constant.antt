-- Constant expressions: their values, and the faults of their parts.
use Rattle.std.specs.Prelude.{ℕ, pos, Bool, true, false, List, [], ◌∷◌, ◌++◌, Option, Some, None, Result, Ok, Err}
use Rattle.mu_num.specs.Fraction.{Fraction, whole, sum, difference, product, power, checked, checked_quotient}
use Rattle.mu_num.specs.Decimal.{decimal_value}
use Rattle.mu_num.specs.declared.NumErr.{NumErr}
use Rattle.mu_tree.specs.Expression.{Expression, Number, Variable, Now, Previous, Sum, Product, Power, Reference, Whole, Element, Terms, no_terms, term, Factors, no_factors, factor}
use Rattle.mu_names.specs.declared.name_fault.NameErr.{NameErr}
use Rattle.mu_names.specs.declared.name_fault.NameErr.TheVariants.{Unknown, Misused, ConstFault}
use Rattle.mu_names.specs.declared.constant_values.Meaning.{Meaning}
use Rattle.mu_names.specs.declared.constant_values.Meaning.TheVariants.{Constant, Variable as IsVariable, Undeclared}

-- the value, if there is one
abbrev pub value_of : Result Fraction NumErr → Option Fraction
value_of (Ok v) = Some v
value_of (Err e) = None

-- the fault of a part without a value, at its offset
abbrev pub faults_of : ℕ → Result Fraction NumErr → List NameErr
faults_of at (Ok v) = []
faults_of at (Err e) = ConstFault at e ∷ []

-- the value of a name, if it denotes a constant with a value
abbrev pub constant_of : Meaning → Option Fraction
constant_of (Constant v) = v
constant_of IsVariable = None
constant_of Undeclared = None

-- the fault of a name that does not denote a constant
abbrev pub name_faults : ℕ → Meaning → List NameErr
name_faults at (Constant v) = []
name_faults at IsVariable = Misused at ∷ []
name_faults at Undeclared = Unknown at ∷ []

-- the fault of a name with an index or under `pre`, where only a constant without index is allowed
abbrev pub indexed_faults : ℕ → Meaning → List NameErr
indexed_faults at (Constant v) = Misused at ∷ []
indexed_faults at IsVariable = Misused at ∷ []
indexed_faults at Undeclared = Unknown at ∷ []

-- the sum with one more term
abbrev pub joined : Bool → Fraction → Fraction → Result Fraction NumErr
joined false total v = checked (sum total v)
joined true total v = checked (difference total v)

-- the product with one more factor or divisor
abbrev pub multiplied : Bool → Fraction → Fraction → Result Fraction NumErr
multiplied false total v = checked (product total v)
multiplied true total v = checked_quotient total v

-- the result of a binary operation, if both operands have values
abbrev pub both : (Fraction → Fraction → Result Fraction NumErr) → Option Fraction → Option Fraction → Option Fraction
both f None b = None
both f (Some a) None = None
both f (Some a) (Some b) = value_of (f a b)

-- the fault of a binary operation
abbrev pub both_faults : ℕ → (Fraction → Fraction → Result Fraction NumErr) → Option Fraction → Option Fraction → List NameErr
both_faults at f None b = []
both_faults at f (Some a) None = []
both_faults at f (Some a) (Some b) = faults_of at (f a b)

-- the result of a unary operation, if the operand has a value
abbrev pub one : (Fraction → Result Fraction NumErr) → Option Fraction → Option Fraction
one f None = None
one f (Some a) = value_of (f a)

abbrev pub one_faults : ℕ → (Fraction → Result Fraction NumErr) → Option Fraction → List NameErr
one_faults at f None = []
one_faults at f (Some a) = faults_of at (f a)

-- the power with this exponent
abbrev pub raised : ℕ → Fraction → Result Fraction NumErr
raised exp a = checked (power a exp)

-- the value of a reference; constants have no index
abbrev pub reference_value : (List ℕ → Meaning) → Reference → Option Fraction
reference_value meaning (Whole name at) = constant_of (meaning name)
reference_value meaning (Element name index at) = None

-- the value of a constant expression, if all its parts have values
abbrev mutual
  pub value : (List ℕ → Meaning) → Expression → Option Fraction
  value meaning (Number digits at) = value_of (decimal_value digits)
  value meaning (Variable r) = reference_value meaning r
  value meaning (Now at) = None
  value meaning (Previous r) = None
  value meaning (Sum ts) = sum_value meaning (Some (whole (pos 0))) ts
  value meaning (Product fs) = product_value meaning (Some (whole (pos 1))) fs
  value meaning (Power base exp at) = one (raised exp) (value meaning base)

  -- the value of a sum, term by term from the left
  pub sum_value : (List ℕ → Meaning) → Option Fraction → Terms → Option Fraction
  sum_value meaning total no_terms = total
  sum_value meaning total (term minus at e rest) = sum_value meaning (both (joined minus) total (value meaning e)) rest

  -- the value of a product, factor by factor from the left
  pub product_value : (List ℕ → Meaning) → Option Fraction → Factors → Option Fraction
  product_value meaning total no_factors = total
  product_value meaning total (factor divide at e rest) = product_value meaning (both (multiplied divide) total (value meaning e)) rest

-- the faults of a constant expression, inner parts first and then from left to right
abbrev mutual
  pub faults : (List ℕ → Meaning) → Expression → List NameErr
  faults meaning (Number digits at) = faults_of at (decimal_value digits)
  faults meaning (Variable r) = reference_faults meaning r
  faults meaning (Now at) = Misused at ∷ []
  faults meaning (Previous r) = previous_faults meaning r
  faults meaning (Sum ts) = sum_faults meaning (Some (whole (pos 0))) ts
  faults meaning (Product fs) = product_faults meaning (Some (whole (pos 1))) fs
  faults meaning (Power base exp at) = faults meaning base ++ one_faults at (raised exp) (value meaning base)

  -- the faults of a reference in a constant expression; constants have no index
  pub reference_faults : (List ℕ → Meaning) → Reference → List NameErr
  reference_faults meaning (Whole name at) = name_faults at (meaning name)
  reference_faults meaning (Element name index at) = faults meaning index ++ indexed_faults at (meaning name)

  -- the faults of `pre`, which no constant expression contains
  pub previous_faults : (List ℕ → Meaning) → Reference → List NameErr
  previous_faults meaning (Whole name at) = indexed_faults at (meaning name)
  previous_faults meaning (Element name index at) = faults meaning index ++ indexed_faults at (meaning name)

  -- the faults of a sum, term by term from the left
  pub sum_faults : (List ℕ → Meaning) → Option Fraction → Terms → List NameErr
  sum_faults meaning total no_terms = []
  sum_faults meaning total (term minus at e rest) =
      faults meaning e ++ (both_faults at (joined minus) total (value meaning e)
      ++ sum_faults meaning (both (joined minus) total (value meaning e)) rest)

  -- the faults of a product, factor by factor from the left
  pub product_faults : (List ℕ → Meaning) → Option Fraction → Factors → List NameErr
  product_faults meaning total no_factors = []
  product_faults meaning total (factor divide at e rest) =
      faults meaning e ++ (both_faults at (multiplied divide) total (value meaning e)
      ++ product_faults meaning (both (multiplied divide) total (value meaning e)) rest)
