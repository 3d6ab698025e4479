-- How near the numbers of a machine are to the exact numbers of its flat model.
use Rattle.std.specs.Prelude.{ℕ, ℤ, pos, ◌+◌, ◌^◌, ◌*ℤ◌, ◌≡◌, ◌<◌, ◌&&◌, ◌==◌, if◌then◌else◌, List}
use Rattle.std.specs.Prelude.{Ok}
use Rattle.std.specs.List.{AllZip}
use Rattle.mu_num.specs.Fraction.{Fraction}
use Rattle.mu_num.specs.IndexedSums.{sum_over}
use Rattle.mu_num.specs.Rounding.{IsFloor, IsCeiling, IsNearest}
use Rattle.mu_tree.specs.declared.flat.Settings.{Settings}
use Rattle.mu_tree.specs.FlatExpression.{FlatExpression, FlatVariable, FlatAction, Assign, Restart}
use Rattle.mu_tree.specs.FlatExpression.{FlatBranchTree, FlatModelTree}
use Rattle.mu_tree.specs.FlatModels.{IsFlatModel}
use Rattle.qss_machine.specs.declared.machine_parts.Product.{Product}
use Rattle.qss_machine.specs.declared.machine_parts.SlopeRow.{SlopeRow}
use Rattle.qss_machine.specs.declared.machine_parts.Form.{Form}
use Rattle.qss_machine.specs.declared.machine_parts.StateInfo.{StateInfo}
use Rattle.qss_machine.specs.declared.machine_parts.DiscreteInfo.{DiscreteInfo}
use Rattle.qss_machine.specs.declared.machine_parts.Action.{Action}
use Rattle.qss_machine.specs.declared.machine_parts.Action.TheVariants.{Set, Reinit}
use Rattle.qss_machine.specs.declared.machine_parts.BranchInfo.{BranchInfo}
use Rattle.qss_machine.specs.declared.machine_parts.ClauseInfo.{ClauseInfo}
use Rattle.qss_machine.specs.declared.compiled_machine.Machine.{Machine}
use Rattle.qss_machine.specs.Machines.{row_at}
use Rattle.qss_machine.specs.Slopes.{coefficient_of}
use Rattle.mu_affine.specs.AffineForm.{AffineForm}
use Rattle.mu_affine.specs.FormOf.{Context, form_of}
use Rattle.mu_affine.specs.FormPlaces.{states_of, discretes_of, rel_of}
use Rattle.mu_affine.specs.FormSequence.{condition_form, right_side}
use Rattle.mu_affine.specs.KeptForms.{AreForms}
use Rattle.mu_affine.specs.RoundedMachines.{IsMachineOf}
use Rattle.mu_affine.specs.Solution.{sizes_of, equation_context, clause_context}
use Rattle.mu_affine.specs.declared.exact_form.Forms.{Forms}
use Rattle.mu_meaning.specs.Meaning.{HasProperNumbers}

-- z units of 2 ^ -bits are the number, rounded to the nearest: twice the difference is at most one
-- unit
abbrev pub IsRounded : (bits : ℕ) → Fraction → ℤ → Type 0
IsRounded bits a z = IsNearest (a.num *ℤ pos (2 ^ bits)) (pos a.den) z

-- rounded down, and rounded up: the difference is less than one unit
abbrev pub IsRoundedDown : (bits : ℕ) → Fraction → ℤ → Type 0
IsRoundedDown bits a z = IsFloor (a.num *ℤ pos (2 ^ bits)) (pos a.den) z

abbrev pub IsRoundedUp : (bits : ℕ) → Fraction → ℤ → Type 0
IsRoundedUp bits a z = IsCeiling (a.num *ℤ pos (2 ^ bits)) (pos a.den) z

-- z units of 2 ^ -bits are the number
abbrev pub IsExactly : (bits : ℕ) → Fraction → ℤ → Type 0
IsExactly bits a z = a.num *ℤ pos (2 ^ bits) ≡ pos a.den *ℤ z

-- the coefficient of a state times a discrete variable: the sum over the products of these two, and
-- 0 if there is none
abbrev pub product_coefficient : List Product → (state discrete : ℕ) → ℤ
product_coefficient products s d = sum_over (λ product. if product.state == s && product.discrete ==
    d then product.coef else pos 0) products

-- In the following definitions `Near` relates the numbers of the model and of the machine. Where
-- the
-- model or the machine has no coefficient, its coefficient is 0.

-- the right-hand side of a state's equation
pub record IsRowOf (Near : ℕ → Fraction → ℤ → Type 0) (p f : ℕ) (exact : AffineForm)
    (row : SlopeRow) : Type 0 where
  pub coefficients : (v : ℕ) → Near p (exact.coefficient v) (coefficient_of row.entries v)
  pub products : (s d : ℕ) → Near p (exact.paired s d) (product_coefficient row.products s d)
  pub constant : Near (f + p) exact.constant row.beta
  pub no_time : exact.time.num ≡ pos 0

-- the form of a condition or of a statement
pub record IsFormOf (Near : ℕ → Fraction → ℤ → Type 0) (p f : ℕ) (exact : AffineForm) (form : Form)
    : Type 0 where
  pub coefficients : (v : ℕ) → Near p (exact.coefficient v) (coefficient_of form.entries v)
  pub time : Near p exact.time form.time
  pub constant : Near (f + p) exact.constant form.gamma
  pub no_products : (s d : ℕ) → (exact.paired s d).num ≡ pos 0

-- a state: its start value, and its quantum, which is always rounded down
pub record IsStateOf (Near : ℕ → Fraction → ℤ → Type 0) (p k f : ℕ) (v : FlatVariable)
    (state : StateInfo) : Type 0 where
  pub name : state.name ≡ v.name
  pub start : Near (f + p + k) v.start state.x0
  pub quantum : IsRoundedDown f v.quantum state.quantum

-- a discrete variable: its start value
pub record IsDiscreteOf (Near : ℕ → Fraction → ℤ → Type 0) (f : ℕ) (v : FlatVariable)
    (discrete : DiscreteInfo) : Type 0 where
  pub name : discrete.name ≡ v.name
  pub start : Near f v.start discrete.d0

-- a machine's form has the numbers of the affine form of an expression
abbrev pub HasFormOf : (Near : ℕ → Fraction → ℤ → Type 0) → Context → (p f : ℕ) → FlatExpression →
    Form → Type 0
HasFormOf Near c p f e form = (exact : AffineForm) × (form_of c e ≡ Ok exact) × IsFormOf Near p f
    exact form

-- a statement: the same variable, and the form of the assigned expression
abbrev pub IsActionOf : (Near : ℕ → Fraction → ℤ → Type 0) → Context → (p f : ℕ) → FlatAction →
    Action → Type 0
IsActionOf Near c p f (Assign v e) (Set var form) = (var ≡ v) × HasFormOf Near c p f e form
IsActionOf Near c p f (Assign v e) (Reinit var form) = ⊥
IsActionOf Near c p f (Restart v e) (Set var form) = ⊥
IsActionOf Near c p f (Restart v e) (Reinit var form) = (var ≡ v) × HasFormOf Near c p f e form

-- a branch: the form of the left side minus the right side of its condition, its relation, and its
-- statements in order
pub record IsBranchOf (Near : ℕ → Fraction → ℤ → Type 0) (c : Context) (p f : ℕ)
    (b : FlatBranchTree) (branch : BranchInfo) : Type 0 where
  pub exact : AffineForm
  pub is : condition_form c b ≡ Ok exact
  pub form : IsFormOf Near p f exact branch.condition.form
  pub relation : branch.condition.rel ≡ rel_of b.rel
  pub actions : AllZip (IsActionOf Near c p f) b.body branch.actions

-- a clause: its branches in order
abbrev pub IsClauseOf : (Near : ℕ → Fraction → ℤ → Type 0) → Context → (p f : ℕ) → List
    FlatBranchTree → ClauseInfo → Type 0
IsClauseOf Near c p f bs clause = AllZip (IsBranchOf Near c p f) bs clause.branches

-- the affine form of the right-hand side of a state's equation is that of this row
abbrev pub HasRowOf : (Near : ℕ → Fraction → ℤ → Type 0) → FlatModelTree → (solved : ℕ → AffineForm)
    → Machine → ℕ → Type 0
HasRowOf Near m solved machine i =
    (exact : AffineForm) × (form_of (equation_context (sizes_of m) solved)
    (right_side m.equations i) ≡ Ok exact)
    × IsRowOf Near machine.p machine.f exact (row_at machine i)

-- a machine with the numbers of a flat model whose algebraic variables have these forms
pub record HasNumbersOf (Near : ℕ → Fraction → ℤ → Type 0) (m : FlatModelTree)
    (solved : ℕ → AffineForm) (s : Settings) (machine : Machine) : Type 0 where
  pub rows : (i : ℕ) → i < (sizes_of m).states → HasRowOf Near m solved machine i
  pub clauses : AllZip (IsClauseOf Near (clause_context (sizes_of m) solved) machine.p machine.f)
      m.clauses machine.clauses
  pub states : AllZip (IsStateOf Near machine.p machine.k machine.f) (states_of m.vars)
      machine.states
  pub discretes : AllZip (IsDiscreteOf Near machine.f) (discretes_of m.vars) machine.discretes
  pub last : IsRoundedUp machine.k s.stop (pos machine.last)

-- each number of the machine is the model's, rounded once
abbrev pub IsRoundedMachine : FlatModelTree → (solved : ℕ → AffineForm) → Settings → Machine → Type
    0
IsRoundedMachine = HasNumbersOf IsRounded

-- rounding changes no coefficient, no constant and no start value; it can change quanta and the
-- last
-- tick, which no equation contains
abbrev pub IsExactMachine : FlatModelTree → (solved : ℕ → AffineForm) → Settings → Machine → Type 0
IsExactMachine = HasNumbersOf IsExactly

-- a machine has the numbers of its flat model, each rounded once
abbrev pub MachinesAreRounded : Type 0
MachinesAreRounded =
    (m : FlatModelTree) (order : List ℕ) (forms : Forms) (s : Settings) (machine : Machine) →
    IsFlatModel m
    → HasProperNumbers m
    → 0 < s.stop.den
    → (are : AreForms m order forms)
    → IsMachineOf forms.forms m s machine
    → IsRoundedMachine m are.taken.solved s machine
