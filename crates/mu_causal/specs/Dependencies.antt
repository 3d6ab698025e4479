-- Dependencies between the variables of a flat model, and the equations of each variable.
use Rattle.std.specs.Prelude.{ℕ, Bool, true, false, ◌≡◌, ◌<◌, ◌+◌, ◌^◌, nat_eq, if◌then◌else◌, List, [], ◌∷◌, ◌++◌, length, Contains, All, Some, slice_get}
use Rattle.mu_tree.specs.declared.flat.FlatRole.{FlatRole}
use Rattle.mu_tree.specs.declared.flat.FlatRole.TheVariants.{State, Discrete, Algebraic}
use Rattle.mu_tree.specs.FlatExpression.{FlatExpression, Constant, Variable, Previous, Now, Sum, Product, Power, FlatTerms, no_terms, term, FlatFactors, no_factors, factor, FlatVariable, FlatEquationTree, FlatModelTree}

abbrev mutual
  -- the variables that an expression reads, from the left, even if multiplied by 0; `pre` reads
  -- none
  pub names_of : FlatExpression → List ℕ
  names_of (Constant a at) = []
  names_of (Variable v at) = v ∷ []
  names_of (Previous v at) = []
  names_of (Now at) = []
  names_of (Sum ts) = names_of_terms ts
  names_of (Product fs) = names_of_factors fs
  names_of (Power base exp at) = names_of base

  pub names_of_terms : FlatTerms → List ℕ
  names_of_terms no_terms = []
  names_of_terms (term minus at e rest) = names_of e ++ names_of_terms rest

  pub names_of_factors : FlatFactors → List ℕ
  names_of_factors no_factors = []
  names_of_factors (factor divide at e rest) = names_of e ++ names_of_factors rest

-- v is the number of an algebraic variable
pub record IsAlgebraic (m : FlatModelTree) (v : ℕ) : Type 0 where
  pub variable : FlatVariable
  pub at : slice_get m.vars v ≡ Some variable
  pub role : variable.role ≡ Algebraic

-- the equation of the algebraic variable v reads the algebraic variable w
pub record DependsOn (m : FlatModelTree) (v w : ℕ) : Type 0 where
  pub equation : FlatEquationTree
  pub there : Contains m.equations equation
  pub target : equation.target ≡ v
  pub named : Contains (names_of equation.value) w
  pub from_algebraic : IsAlgebraic m v
  pub to_algebraic : IsAlgebraic m w

-- a variable with this role needs an equation: a state or an algebraic variable
abbrev pub wants_equation : FlatRole → Bool
wants_equation State = true
wants_equation Algebraic = true
wants_equation Discrete = false

-- v is the number of a state or of an algebraic variable
pub record WantsEquation (m : FlatModelTree) (v : ℕ) : Type 0 where
  pub variable : FlatVariable
  pub at : slice_get m.vars v ≡ Some variable
  pub wants : wants_equation variable.role ≡ true

-- the numbers of the equations of a variable, where the first equation has the given number
abbrev pub numbers_from : ℕ → List FlatEquationTree → ℕ → List ℕ
numbers_from number [] v = []
numbers_from number (e ∷ es) v = if nat_eq e.target v then number ∷ numbers_from (number + 1) es v else numbers_from (number + 1) es v

-- the numbers of the equations of a variable, counted from 1
abbrev pub equation_numbers : FlatModelTree → ℕ → List ℕ
equation_numbers m v = numbers_from 1 m.equations v

-- the variable has exactly one equation
abbrev pub HasOneEquation : FlatModelTree → ℕ → Type 0
HasOneEquation m v = (number : ℕ) × (equation_numbers m v ≡ number ∷ [])

-- each state and each algebraic variable has exactly one equation
abbrev pub EachHasOneEquation : FlatModelTree → Type 0
EachHasOneEquation m = (v : ℕ) → WantsEquation m v → HasOneEquation m v

-- each state and each algebraic variable below v has exactly one equation
abbrev pub EachBelowHasOneEquation : FlatModelTree → ℕ → Type 0
EachBelowHasOneEquation m v = (w : ℕ) → w < v → WantsEquation m w → HasOneEquation m w

-- variables and equations have 32-bit numbers, and equations read only existing variables
pub record IsNumbered (m : FlatModelTree) : Type 0 where
  pub variables : length m.vars < 2 ^ 32
  pub equations : length m.equations < 2 ^ 32
  pub named : (e : FlatEquationTree) → Contains m.equations e → All (λ w. w < length m.vars) (names_of e.value)
