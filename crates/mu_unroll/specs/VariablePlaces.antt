-- The numbered scalar variables of a scope, and what its names denote.
use Rattle.std.specs.Prelude.{ℕ, ◌+◌, ◌≤◌, Bool, true, false, bytes_eq, if◌then◌else◌, List, []}
use Rattle.std.specs.Prelude.{◌∷◌, ◌++◌, Option, Some, None}
use Rattle.std.specs.Fmt.{decimal}
use Prim.Native.Nat.{zero, suc}
use Rattle.mu_num.specs.Fraction.{Fraction}
use Rattle.mu_tree.specs.declared.flat.FlatRole.{FlatRole}
use Rattle.mu_tree.specs.declared.flat.FlatRole.TheVariants as flat
use Rattle.mu_tree.specs.FlatExpression.{FlatVariable}
use Rattle.mu_names.specs.declared.declared_scope.Known.{Known}
use Rattle.mu_names.specs.declared.name_kind.Role.{Role}
use Rattle.mu_names.specs.declared.name_kind.Role.TheVariants as role
use Rattle.mu_unroll.specs.declared.environment.NameDenotation.{NameDenotation}
use Rattle.mu_unroll.specs.declared.environment.NameDenotation.TheVariants.{Constant, Variable}
use Rattle.mu_unroll.specs.declared.environment.NameDenotation.TheVariants.{Nothing}
use Rattle.mu_unroll.specs.declared.environment.LoopVar.{LoopVar}

-- the flat role of a variable; a parameter has none
abbrev pub kind_of : Role → Option FlatRole
kind_of role.State = Some flat.State
kind_of role.Discrete = Some flat.Discrete
kind_of role.Algebraic = Some flat.Algebraic
kind_of role.Parameter = None

-- the number of scalar variables of a name
abbrev pub width : Option ℕ → ℕ
width None = 1
width (Some n) = n

-- two roles are equal
abbrev pub is_kind : FlatRole → FlatRole → Bool
is_kind flat.State flat.State = true
is_kind flat.State flat.Discrete = false
is_kind flat.State flat.Algebraic = false
is_kind flat.Discrete flat.State = false
is_kind flat.Discrete flat.Discrete = true
is_kind flat.Discrete flat.Algebraic = false
is_kind flat.Algebraic flat.State = false
is_kind flat.Algebraic flat.Discrete = false
is_kind flat.Algebraic flat.Algebraic = true

-- a declared name is a variable with this role
abbrev pub has_kind : FlatRole → Known → Bool
has_kind kind k = by_kind (kind_of k.role)
  where
    by_kind : Option FlatRole → Bool
    by_kind (Some other) = is_kind kind other
    by_kind None = false

-- the name of an array element, with its index in square brackets
abbrev pub element_name : List ℕ → ℕ → List ℕ
element_name name index = name ++ 91 ∷ (decimal index ++ 93 ∷ [])

-- a scalar variable
abbrev pub scalar : FlatRole → Known → List ℕ → FlatVariable
scalar kind k name = record { name = name; role = kind; start = k.start; quantum = k.quantum }

-- `count` elements of an array, from an index on
abbrev pub elements_from : FlatRole → Known → (index count : ℕ) → List FlatVariable
elements_from kind k index zero = []
elements_from kind k index (suc count) = scalar kind k (element_name k.name index) ∷ elements_from kind k (index + 1) count

-- the scalar variables of a name
abbrev pub scalars_of : FlatRole → Known → List FlatVariable
scalars_of kind k = by_size k.size
  where
    by_size : Option ℕ → List FlatVariable
    by_size None = scalar kind k k.name ∷ []
    by_size (Some n) = elements_from kind k 1 n

-- the scalar variables with one role, by declaration and index
abbrev pub scalars_of_kind : FlatRole → List Known → List FlatVariable
scalars_of_kind kind [] = []
scalars_of_kind kind (k ∷ ks) = if has_kind kind k then scalars_of kind k ++ scalars_of_kind kind ks else scalars_of_kind kind ks

-- all scalar variables: states, then discrete variables, then algebraic variables
abbrev pub scalars_in : List Known → List FlatVariable
scalars_in ks = scalars_of_kind flat.State ks ++ (scalars_of_kind flat.Discrete ks ++ scalars_of_kind flat.Algebraic ks)

-- the number of scalar variables with one role
abbrev pub count_of_kind : FlatRole → List Known → ℕ
count_of_kind kind [] = 0
count_of_kind kind (k ∷ ks) = if has_kind kind k then width k.size + count_of_kind kind ks else count_of_kind kind ks

-- the number of scalar variables with any role
abbrev pub scalar_count : List Known → ℕ
scalar_count ks = count_of_kind flat.State ks + (count_of_kind flat.Discrete ks + count_of_kind flat.Algebraic ks)

-- the number of the first variable with this role
abbrev pub first_of_kind : FlatRole → List Known → ℕ
first_of_kind flat.State ks = 0
first_of_kind flat.Discrete ks = count_of_kind flat.State ks
first_of_kind flat.Algebraic ks = count_of_kind flat.State ks + count_of_kind flat.Discrete ks

-- what a declared name denotes; `before` lists the declarations before it
abbrev pub meant_after : List Known → List Known → Known → NameDenotation
meant_after all before k = by_kind (kind_of k.role)
  where
    by_kind : Option FlatRole → NameDenotation
    by_kind None = Constant k.value
    by_kind (Some kind) = Variable kind (first_of_kind kind all + count_of_kind kind before) k.size

-- what a name denotes by its first declaration; `before` lists the declarations already searched
abbrev pub first_meant : List Known → List Known → List Known → List ℕ → Option NameDenotation
first_meant all before [] name = None
first_meant all before (k ∷ ks) name = if bytes_eq k.name name then Some (meant_after all before k) else first_meant all (before ++ k ∷ []) ks name

-- the value of the first loop variable with this name
abbrev pub loop_value : List LoopVar → List ℕ → Option Fraction
loop_value [] name = None
loop_value (l ∷ ls) name = if bytes_eq l.name name then Some l.value else loop_value ls name

-- what a name denotes inside loops; a loop variable hides a declaration
abbrev pub meant_in : List LoopVar → (List ℕ → NameDenotation) → List ℕ → NameDenotation
meant_in loops declared name = by_loop (loop_value loops name)
  where
    by_loop : Option Fraction → NameDenotation
    by_loop (Some a) = Constant a
    by_loop None = declared name

-- the value of a name that denotes a constant
abbrev pub constant_of : NameDenotation → Option Fraction
constant_of (Constant a) = Some a
constant_of (Variable kind first size) = None
constant_of Nothing = None

-- the variables of a name have numbers below n
abbrev pub IsPlaced : ℕ → NameDenotation → Type 0
IsPlaced n (Constant a) = Unit {0}
IsPlaced n (Variable kind first size) = first + width size ≤ n
IsPlaced n Nothing = Unit {0}

-- the variables of all names have numbers below n
abbrev pub ArePlaced : ℕ → (List ℕ → NameDenotation) → Type 0
ArePlaced n known = (name : List ℕ) → IsPlaced n (known name)
