-- The roles of declared names.
use Rattle.std.specs.Prelude.{ℕ, Bool, true, false, bytes_eq, is_some, if◌then◌else◌, List, [], ◌∷◌, ◌++◌, Option, Some, None, unwrap_or}
use Rattle.std.specs.List.{list_any}
use Rattle.mu_tree.specs.declared.tree.Prefix.{Prefix}
use Rattle.mu_tree.specs.declared.tree.Prefix.TheVariants as prefix
use Rattle.mu_tree.specs.Expression.{Reference, Whole, Element}
use Rattle.mu_tree.specs.ModelTree.{EquationTree, Derivative, Algebraic as PlainEquation, EachEquation, EquationTrees, no_equations, equation_then, equations_of, Declaration, ModelTree}
use Rattle.mu_names.specs.declared.name_kind.Role.{Role}
use Rattle.mu_names.specs.declared.name_kind.Role.TheVariants.{State, Discrete, Algebraic, Parameter}
use Rattle.mu_names.specs.declared.name_kind.NameKind.{NameKind}
use Rattle.mu_names.specs.declared.name_kind.NameKind.TheVariants.{Loop, Declared, Missing}

-- the name of a reference
abbrev pub name_of : Reference → List ℕ
name_of (Whole name at) = name
name_of (Element name index at) = name

abbrev mutual
  -- the names whose derivative is a left side of an equation
  pub derived : EquationTree → List (List ℕ)
  derived (Derivative target e) = name_of target ∷ []
  derived (PlainEquation target e) = []
  derived (EachEquation range body) = derived_all body

  pub derived_all : EquationTrees → List (List ℕ)
  derived_all no_equations = []
  derived_all (equation_then e es) = derived e ++ derived_all es

-- the role of a name, by its prefix and by whether its derivative is defined
abbrev pub role_by : Prefix → Bool → Role
role_by prefix.Parameter is_derived = Parameter
role_by prefix.Constant is_derived = Parameter
role_by prefix.Discrete is_derived = Discrete
role_by prefix.Plain is_derived = if is_derived then State else Algebraic

-- a name is in the list
abbrev pub is_among : List (List ℕ) → List ℕ → Bool
is_among names name = list_any (λ other. bytes_eq other name) names

-- the role of a declared name, where `ders` lists the names with a derivative
abbrev pub role_of : List (List ℕ) → Declaration → Role
role_of ders d = role_by d.prefix (is_among ders d.name)

-- what a declared name is
abbrev pub declared_by : List (List ℕ) → Declaration → NameKind
declared_by ders d = Declared (role_of ders d) (is_some d.size)

-- what a name is by its first declaration
abbrev pub first_declared : List (List ℕ) → List Declaration → List ℕ → Option NameKind
first_declared ders [] name = None
first_declared ders (d ∷ ds) name = if bytes_eq d.name name then Some (declared_by ders d) else first_declared ders ds name

-- what a name is by its first declaration, or Missing
abbrev pub declared_as : List (List ℕ) → List Declaration → List ℕ → NameKind
declared_as ders ds name = unwrap_or (first_declared ders ds name) Missing

-- what a name is inside loops over these variables
abbrev pub name_kind_in : List (List ℕ) → (List ℕ → NameKind) → List ℕ → NameKind
name_kind_in loops declared name = if is_among loops name then Loop else declared name

-- the names whose derivative is a left side in a model
abbrev pub derived_in : ModelTree → List (List ℕ)
derived_in m = derived_all (equations_of m.equations)

-- what each name is by the declarations of a model
abbrev pub declared_in : ModelTree → List ℕ → NameKind
declared_in m = declared_as (derived_in m) m.decls
