-- The loop invariants and results of the code that computes all forms.
use Rattle.std.specs.Prelude.{ℕ, true, false, ◌≡◌, ◌<◌, ◌≤◌, ◌+◌, ◌^◌, nat_lt, if◌then◌else◌, List}
use Rattle.std.specs.Prelude.{[], ◌∷◌, ◌++◌, length, map, slice_get, slice_index_or, All, Option}
use Rattle.std.specs.Prelude.{Some, None, Result, Ok, Err}
use Rattle.mu_tree.specs.FlatExpression.{FlatExpression, Constant, FlatEquationTree, FlatBranchTree}
use Rattle.mu_affine.specs.declared.affine_fault.AffineErr.{AffineErr}
use Rattle.mu_affine.specs.declared.affine_fault.AffineErr.TheVariants.{NotAffine, TimeHere}
use Rattle.mu_affine.specs.declared.affine_fault.AffineErr.TheVariants.{ConstFault, TooDense}
use Rattle.mu_affine.specs.declared.affine_fault.AffineErr.TheVariants.{Memory}
use Rattle.mu_affine.specs.declared.exact_form.Sizes.{Sizes}
use Rattle.mu_affine.specs.declared.exact_form.Place.{Place}
use Rattle.mu_affine.specs.declared.exact_form.ExactForm.{ExactForm}
use Rattle.mu_affine.specs.AffineForm.{none, constant_form}
use Rattle.mu_affine.specs.FinishedForms.{form_meaning, IsFinished}
use Rattle.mu_affine.specs.declared.normal_forms.CountedForms.{CountedForms}
use Rattle.mu_affine.specs.FormSequence.{FormsSoFar, counted, right_side}
use Rattle.mu_affine.specs.Walks.{forms_in, AreSolved, IsNumbered, IsNumberedAction}

-- the error is the expected one, or an allocation failure
abbrev pub IsFaultOf : {A : Type 0} → Result A AffineErr → AffineErr → Type 0
IsFaultOf expected (NotAffine at) = expected ≡ Err (NotAffine at)
IsFaultOf expected (TimeHere at) = expected ≡ Err (TimeHere at)
IsFaultOf expected (ConstFault at fault) = expected ≡ Err (ConstFault at fault)
IsFaultOf expected (TooDense count) = expected ≡ Err (TooDense count)
IsFaultOf expected Memory = Unit {0}

-- the count after adding `more` coefficients, at most 65,536
abbrev pub with_more : ℕ → ℕ → Result ℕ AffineErr
with_more count more = if nat_lt (2 ^ 16) (count + more) then Err (TooDense (2 ^ 16 + 1)) else Ok (count + more)

-- the place of equations, and the place of clauses
abbrev pub of_equations : Sizes → Place
of_equations n = record { sizes = n; in_equation = true }

abbrev pub of_clauses : Sizes → Place
of_clauses n = record { sizes = n; in_equation = false }

-- the right-hand side of the equation at an index, 0 if there is none
abbrev pub side_at : List FlatEquationTree → ℕ → FlatExpression
side_at equations i = side_in (slice_get equations i)
  where
    side_in : Option FlatEquationTree → FlatExpression
    side_in None = Constant none 0
    side_in (Some e) = e.value

-- for each variable the index of its equation
abbrev pub AreFirsts : List FlatEquationTree → List ℕ → Type 0
AreFirsts equations firsts = (v : ℕ) → v < length firsts → side_at equations (slice_index_or firsts v 0) ≡ right_side equations v

-- a zero form
abbrev pub IsZero : ExactForm → Type 0
IsZero f = (form_meaning f ≡ constant_form none) × ((p : Place) → IsFinished p f)

-- all forms are zero
abbrev pub AreZeros : List ExactForm → Type 0
AreZeros forms = All IsZero forms

-- the state of the computation after the forms of some algebraic variables
abbrev pub solved_so_far : CountedForms → FormsSoFar
solved_so_far s = record { solved = forms_in s.forms.items; kept = []; count = s.count }

-- the state of the computation after some kept forms
abbrev pub kept_so_far : List ExactForm → CountedForms → FormsSoFar
kept_so_far solved k = record { solved = forms_in solved; kept = map form_meaning k.forms.items; count = k.count }

-- finished forms of algebraic variables by number, with at most 65,536 coefficients
pub record IsSolved (n : Sizes) (variables : ℕ) (s : CountedForms) : Type 0 where
  pub finished : AreSolved (of_equations n) s.forms.items
  pub one_each : length s.forms.items ≡ variables
  pub few : s.count ≤ 2 ^ 16

-- a step of the elimination has the expected result
abbrev pub Solves : Sizes → ℕ → Result FormsSoFar AffineErr → CountedForms → Result (Unit {0}) AffineErr → Type 0
Solves n variables expected new (Ok done) = (expected ≡ Ok (solved_so_far new)) × IsSolved n variables new
Solves n variables expected new (Err fault) = IsFaultOf expected fault

-- the whole elimination has the expected result
abbrev pub SolvesAll : Sizes → ℕ → Result FormsSoFar AffineErr → Result CountedForms AffineErr → Type 0
SolvesAll n variables expected (Ok new) = (expected ≡ Ok (solved_so_far new)) × IsSolved n variables new
SolvesAll n variables expected (Err fault) = IsFaultOf expected fault

-- kept forms: those of the states are finished in equations, all others in clauses
pub record AreKept (n : Sizes) (forms : List ExactForm) : Type 0 where
  pub states : (i : ℕ) (g : ExactForm) → i < n.states → slice_get forms i ≡ Some g → IsFinished (of_equations n) g
  pub others : (i : ℕ) (g : ExactForm) → n.states ≤ i → slice_get forms i ≡ Some g → IsFinished (of_clauses n) g

-- kept forms that include those of all states, with at most 65,536 coefficients
pub record IsKept (n : Sizes) (k : CountedForms) : Type 0 where
  pub kept : AreKept n k.forms.items
  pub past : n.states ≤ length k.forms.items
  pub few : k.count ≤ 2 ^ 16

-- the result of appending one kept form
abbrev pub Keeps : Sizes → ExactForm → (old new : CountedForms) → Result (Unit {0}) AffineErr → Type 0
Keeps n f old new (Ok done) = (counted n old.count (form_meaning f) ≡ Ok new.count) × (new.forms.items ≡ old.forms.items ++ f ∷ [])
Keeps n f old new (Err fault) = IsFaultOf (counted n old.count (form_meaning f)) fault

-- appending some kept forms has the expected result
abbrev pub KeepsAll : Sizes → List ExactForm → Result FormsSoFar AffineErr → CountedForms → Result (Unit {0}) AffineErr → Type 0
KeepsAll n solved expected new (Ok done) = (expected ≡ Ok (kept_so_far solved new)) × IsKept n new
KeepsAll n solved expected new (Err fault) = IsFaultOf expected fault

-- all variables in a branch have valid numbers
pub record IsNumberedBranch (p : Place) (variables : ℕ) (b : FlatBranchTree) : Type 0 where
  pub left : IsNumbered p variables b.left
  pub right : IsNumbered p variables b.right
  pub body : All (IsNumberedAction p variables) b.body
