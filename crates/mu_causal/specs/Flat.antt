-- The dependency graph of a flat model.
use Rattle.std.specs.Prelude.{ℕ, ◌≡◌, Bool, true, false, nat_eq, if◌then◌else◌, List, [], ◌∷◌, ◌++◌, length, map, Some, slice_get, slice_index_or}
use Rattle.std.specs.declared.vec.Vec.{Vec}
use Rattle.std.specs.declared.alloc.Global.{Global}
use Rattle.mu_tree.specs.declared.flat.FlatRole.{FlatRole}
use Rattle.mu_tree.specs.declared.flat.FlatRole.TheVariants.{State, Discrete, Algebraic}
use Rattle.mu_tree.specs.FlatExpression.{FlatVariable, FlatEquationTree, FlatModelTree}
use Rattle.mu_causal.specs.Dependencies.{names_of}
use Rattle.mu_causal.specs.Graphs.{Graph}

-- a variable is known from the start: it is not algebraic
abbrev pub is_known : FlatRole → Bool
is_known State = true
is_known Discrete = true
is_known Algebraic = false

-- the variables that the equations of a variable read
abbrev pub names_for : List FlatEquationTree → ℕ → List ℕ
names_for [] v = []
names_for (e ∷ es) v = if nat_eq e.target v then names_of e.value ++ names_for es v else names_for es v

-- the row of a variable in the graph; only algebraic variables have dependencies
abbrev pub row_for : FlatModelTree → FlatVariable → ℕ → List ℕ
row_for m d v = if is_known d.role then [] else names_for m.equations v

-- the row of a number, empty after the end of the graph
abbrev pub row_at : Graph → ℕ → List ℕ
row_at g v = slice_index_or (map (λ row. row.items) g) v []

-- the variables that these equations of a variable read, and none if the variable is known
abbrev pub open_names : List Bool → List FlatEquationTree → ℕ → List ℕ
open_names known es v = if slice_index_or known v true then [] else names_for es v

-- the names of an equation are appended to the row of its target, unless the target is known
pub record AddsEquation (known : List Bool) (e : FlatEquationTree) (old new : Graph) : Type 0 where
  pub same_length : length new ≡ length old
  pub rows : (v : ℕ) → row_at new v ≡ row_at old v ++ open_names known (e ∷ []) v

-- the dependency graph of a flat model
pub record IsGraphOf (m : FlatModelTree) (g : Graph) : Type 0 where
  pub same_length : length g ≡ length m.vars
  pub rows : (v : ℕ) (d : FlatVariable) (row : Vec ℕ Global) → slice_get m.vars v ≡ Some d → slice_get g v ≡ Some row → row.items ≡ row_for m d v
