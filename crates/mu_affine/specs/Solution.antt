-- Solutions of a flat model: a form for each algebraic variable, independent of any causal order.
use Rattle.std.specs.Prelude.{ℕ, true, false, ◌≡◌, ◌+◌, List, [], ◌∷◌, Contains, Ok}
use Rattle.mu_tree.specs.declared.flat.FlatRole.{FlatRole}
use Rattle.mu_tree.specs.declared.flat.FlatRole.TheVariants.{State, Discrete, Algebraic}
use Rattle.mu_tree.specs.FlatExpression.{FlatVariable, FlatEquationTree, FlatModelTree}
use Rattle.mu_affine.specs.declared.exact_form.Sizes.{Sizes}
use Rattle.mu_affine.specs.AffineForm.{AffineForm}
use Rattle.mu_affine.specs.FormOf.{Context, form_of}

-- the number of variables with this role
abbrev pub count_of_role : FlatRole → List FlatVariable → ℕ
count_of_role role [] = 0
count_of_role State (v ∷ vs) = state_count v.role + count_of_role State vs
  where
    state_count : FlatRole → ℕ
    state_count State = 1
    state_count Discrete = 0
    state_count Algebraic = 0
count_of_role Discrete (v ∷ vs) = discrete_count v.role + count_of_role Discrete vs
  where
    discrete_count : FlatRole → ℕ
    discrete_count State = 0
    discrete_count Discrete = 1
    discrete_count Algebraic = 0
count_of_role Algebraic (v ∷ vs) = algebraic_count v.role + count_of_role Algebraic vs
  where
    algebraic_count : FlatRole → ℕ
    algebraic_count State = 0
    algebraic_count Discrete = 0
    algebraic_count Algebraic = 1

-- the numbers of states and discrete variables of a flat model
abbrev pub sizes_of : FlatModelTree → Sizes
sizes_of m = record { states = count_of_role State m.vars; discretes = count_of_role Discrete m.vars }

-- the context of equations, and the context of clauses
abbrev pub equation_context : Sizes → (ℕ → AffineForm) → Context
equation_context n forms = record { place = record { sizes = n; in_equation = true }; forms = forms }

abbrev pub clause_context : Sizes → (ℕ → AffineForm) → Context
clause_context n forms = record { place = record { sizes = n; in_equation = false }; forms = forms }

-- Each algebraic variable has the form of its right-hand side.
abbrev pub IsSolution : Sizes → List FlatEquationTree → (ℕ → AffineForm) → Type 0
IsSolution n equations forms =
    (e : FlatEquationTree) → Contains equations e → e.der ≡ false → form_of (equation_context n forms) e.value ≡ Ok (forms e.target)
