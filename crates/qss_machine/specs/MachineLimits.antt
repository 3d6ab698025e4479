-- The limits of all numbers and lists of a machine.
use Rattle.std.specs.Prelude.{◌≡◌, ◌≢◌, ℕ, ◌+◌, ◌*◌, ◌^◌, ◌<◌, ◌≤◌, Bool, ◌&&◌, nat_lt, nat_le, List, map, length, ℤ, pos, ◌≤ℤ◌, unsigned_abs, sum_by, All, IsTrue}
use Rattle.std.specs.List.Sorted.{IsStrictlyIncreasing}
use Rattle.qss_machine.specs.declared.machine_parts.Entry.{Entry}
use Rattle.qss_machine.specs.declared.machine_parts.Product.{Product}
use Rattle.qss_machine.specs.declared.machine_parts.SlopeRow.{SlopeRow}
use Rattle.qss_machine.specs.declared.machine_parts.Form.{Form}
use Rattle.qss_machine.specs.declared.machine_parts.StateInfo.{StateInfo}
use Rattle.qss_machine.specs.declared.machine_parts.DiscreteInfo.{DiscreteInfo}
use Rattle.qss_machine.specs.declared.machine_parts.Action.{Action}
use Rattle.qss_machine.specs.declared.machine_parts.Action.TheVariants.{Set, Reinit}
use Rattle.qss_machine.specs.declared.machine_parts.BranchInfo.{BranchInfo}
use Rattle.qss_machine.specs.declared.machine_parts.ClauseInfo.{ClauseInfo}
use Rattle.mu_num.specs.Sizes.{IsWithin}
use Rattle.qss_machine.specs.Slopes.{mode_fits, weight_of}
use Rattle.mu_num.specs.Levels.{level_below}
use Rattle.mu_num.specs.Limits.{variable_limit, condition_limit, tick_limit, quantum_limit, relative_limit, IsLevel, IsState, IsWeight}

-- the units of coefficients, ticks and levels, the last tick, and the relative quantum in 4096ths
pub record HasUnits (p k f last relative : ℕ) : Type 0 where
  pub coefficient_bits : p ≤ 32
  pub tick_bits : k ≤ 20
  pub unit_bits : p + k ≤ 44
  pub level_bits : f ≤ 24
  pub state_bits : f + p + k ≤ 62
  pub last_tick : last < tick_limit
  pub share : relative ≤ relative_limit

-- entries sorted by variable, all variables below `count`, all coefficients nonzero
pub record AreEntries (count : ℕ) (entries : List Entry) : Type 0 where
  pub rising : IsStrictlyIncreasing (map (λ entry. entry.var) entries)
  pub known : All (λ entry. entry.var < count) entries
  pub nonzero : All (λ entry. entry.coef ≢ pos 0) entries

-- products sorted by state and then by discrete variable, all coefficients nonzero
pub record AreProducts (states discretes : ℕ) (products : List Product) : Type 0 where
  pub rising : IsStrictlyIncreasing (map (λ product. product.state * (states + discretes) + product.discrete) products)
  pub of_states : All (λ product. product.state < states) products
  pub of_discretes : All (λ product. (states ≤ product.discrete) × (product.discrete < states + discretes)) products
  pub nonzero : All (λ product. product.coef ≢ pos 0) products

-- a right-hand side within the limits
pub record IsRow (states discretes : ℕ) (row : SlopeRow) : Type 0 where
  pub entries : AreEntries (states + discretes) row.entries
  pub products : AreProducts states discretes row.products
  pub coefficients : All (λ entry. IsWithin 44 entry.coef) row.entries
  pub factors : All (λ product. IsWithin 44 product.coef) row.products
  pub constant : IsWithin 78 row.beta

-- a form whose coefficients and constant are within the limits
pub record IsBounded (form : Form) : Type 0 where
  pub coefficients : sum_by (λ entry. unsigned_abs entry.coef) form.entries + unsigned_abs form.time ≤ 2 ^ 38
  pub constant : IsWithin 78 form.gamma

-- a form within the limits
pub record IsForm (states discretes : ℕ) (form : Form) : Type 0 where
  pub entries : AreEntries (states + discretes + discretes) form.entries
  pub bounded : IsBounded form

-- the form of a statement's right side
abbrev pub form_of : Action → Form
form_of (Set var form) = form
form_of (Reinit var form) = form

-- Set assigns to a discrete variable, Reinit to a state
abbrev pub has_target : ℕ → ℕ → Action → Bool
has_target states discretes (Set var form) = nat_le states var && nat_lt var (states + discretes)
has_target states discretes (Reinit var form) = nat_lt var states

-- a statement within the limits
pub record IsAction (states discretes : ℕ) (action : Action) : Type 0 where
  pub form : IsForm states discretes (form_of action)
  pub target : IsTrue (has_target states discretes action)

-- a branch within the limits
pub record IsBranch (states discretes : ℕ) (branch : BranchInfo) : Type 0 where
  pub condition : IsForm states discretes branch.condition.form
  pub actions : All (IsAction states discretes) branch.actions

-- a clause within the limits
pub record IsClause (states discretes : ℕ) (clause : ClauseInfo) : Type 0 where
  pub some_branch : 1 ≤ length clause.branches
  pub branches : All (IsBranch states discretes) clause.branches

-- the total number of conditions and statements
abbrev pub item_count : List ClauseInfo → ℕ
item_count clauses = sum_by (λ clause. sum_by (λ branch. 1 + length branch.actions) clause.branches) clauses

-- clauses within the limits
pub record AreClauses (states discretes : ℕ) (clauses : List ClauseInfo) : Type 0 where
  pub each : All (IsClause states discretes) clauses
  pub few : item_count clauses ≤ condition_limit

-- a state whose initial value and quantum are within the limits
pub record IsStateInfo (unit : ℤ) (state : StateInfo) : Type 0 where
  pub start : IsState state.x0
  pub level : IsLevel (level_below unit state.x0)
  pub quantum_low : pos 1 ≤ℤ state.quantum
  pub quantum_high : state.quantum ≤ℤ pos quantum_limit

-- states and discrete variables within the limits
pub record AreVariables (unit : ℤ) (states : List StateInfo) (discretes : List DiscreteInfo) : Type 0 where
  pub few : length states + length discretes ≤ variable_limit
  pub each_state : All (IsStateInfo unit) states
  pub each_discrete : All (λ discrete. IsLevel discrete.d0) discretes

-- one row for each state, within the limits, and absolute row sums within the limit at the start
pub record AreRows (level_bits : ℕ) (unit : ℤ) (states : List StateInfo) (discretes : List DiscreteInfo) (rows : List SlopeRow) : Type 0 where
  pub one_each : length rows ≡ length states
  pub each : All (IsRow (length states) (length discretes)) rows
  pub modes : All (λ row. IsTrue (mode_fits level_bits (length states) row (map (λ d. d.d0) discretes))) rows
  pub weights : All (λ row. IsWeight (weight_of level_bits row (map (λ s. level_below unit s.x0) states) (map (λ d. d.d0) discretes))) rows
