-- The variables of each kind, and the index of each form of a clause in the list of all forms.
use Rattle.std.specs.Prelude.{ℕ, ◌+◌, Bool, true, false, List, [], ◌∷◌, length, take, drop}
use Rattle.std.specs.Prelude.{count_by, sum_by, slice_index_or, pos}
use Rattle.mu_num.specs.Fraction.{whole}
use Rattle.mu_affine.specs.declared.exact_form.ExactForm.{ExactForm}
use Rattle.mu_tree.specs.declared.tree.Rel as read
use Rattle.mu_tree.specs.declared.tree.Rel.TheVariants as reads
use Rattle.mu_tree.specs.declared.flat.FlatRole.{FlatRole}
use Rattle.mu_tree.specs.declared.flat.FlatRole.TheVariants.{State, Discrete, Algebraic}
use Rattle.mu_tree.specs.FlatExpression.{FlatVariable, FlatAction, Assign, Restart, FlatBranchTree}
use Rattle.qss_machine.specs.declared.machine_parts.Rel.{Rel}
use Rattle.qss_machine.specs.declared.machine_parts.Rel.TheVariants.{Less, LessEq, Greater}
use Rattle.qss_machine.specs.declared.machine_parts.Rel.TheVariants.{GreaterEq}
use Rattle.qss_machine.specs.declared.machine_parts.Action.{Action}
use Rattle.qss_machine.specs.declared.machine_parts.Action.TheVariants.{Set, Reinit}
use Rattle.qss_machine.specs.declared.machine_parts.BranchInfo.{BranchInfo}
use Rattle.qss_machine.specs.declared.machine_parts.ClauseInfo.{ClauseInfo}
use Rattle.mu_affine.specs.Rounded.{rounded_form}

-- whether a variable is a state, and whether it is discrete
abbrev pub is_state : FlatRole → Bool
is_state State = true
is_state Discrete = false
is_state Algebraic = false

abbrev pub is_discrete : FlatRole → Bool
is_discrete State = false
is_discrete Discrete = true
is_discrete Algebraic = false

-- the number of states and the number of discrete variables
abbrev pub state_count : List FlatVariable → ℕ
state_count vars = count_by (λ v. is_state v.role) vars

abbrev pub discrete_count : List FlatVariable → ℕ
discrete_count vars = count_by (λ v. is_discrete v.role) vars

-- the states, which come first, and the discrete variables, which come next
abbrev pub states_of : List FlatVariable → List FlatVariable
states_of vars = take (state_count vars) vars

abbrev pub discretes_of : List FlatVariable → List FlatVariable
discretes_of vars = take (discrete_count vars) (drop (state_count vars) vars)

-- the number of forms of a branch: its condition's and its statements'
abbrev pub branch_forms : FlatBranchTree → ℕ
branch_forms b = 1 + length b.body

-- the number of forms of a clause
abbrev pub clause_forms : List FlatBranchTree → ℕ
clause_forms bs = sum_by branch_forms bs

-- the form at an index
abbrev pub form_at : List ExactForm → ℕ → ExactForm
form_at forms place = slice_index_or forms place (record { entries = []; products = []; time = whole (pos 0); constant = whole (pos 0) })

-- converts each element of a list at its index; an element takes as many indices as it has forms
abbrev pub placed : {X Y : Type 0} → (X → ℕ) → (ℕ → X → Y) → ℕ → List X → List Y
placed forms make place [] = []
placed forms make place (x ∷ xs) = make place x ∷ placed forms make (place + forms x) xs

-- the relation of a condition
abbrev pub rel_of : read.Rel → Rel
rel_of reads.Less = Less
rel_of reads.LessEq = LessEq
rel_of reads.Greater = Greater
rel_of reads.GreaterEq = GreaterEq

-- the statement whose form is at this index
abbrev pub action_of : (p f : ℕ) → List ExactForm → ℕ → FlatAction → Action
action_of p f forms place (Assign v e) = Set v (rounded_form p f (form_at forms place))
action_of p f forms place (Restart v e) = Reinit v (rounded_form p f (form_at forms place))

-- the statements whose forms begin at this index
abbrev pub actions_of : (p f : ℕ) → List ExactForm → ℕ → List FlatAction → List Action
actions_of p f forms = placed (λ action. 1) (action_of p f forms)

-- the branch whose forms begin at this index
abbrev pub branch_of : (p f : ℕ) → List ExactForm → ℕ → FlatBranchTree → BranchInfo
branch_of p f forms place b = record {
  condition = record { form = rounded_form p f (form_at forms place); rel = rel_of b.rel };
  actions = actions_of p f forms (place + 1) b.body;
}

-- the clause whose forms begin at this index
abbrev pub clause_of : (p f : ℕ) → List ExactForm → ℕ → List FlatBranchTree → ClauseInfo
clause_of p f forms place bs = record { branches = placed branch_forms (branch_of p f forms) place bs }

-- the clauses whose forms begin at this index
abbrev pub clauses_of : (p f : ℕ) → List ExactForm → ℕ → List (List FlatBranchTree) → List ClauseInfo
clauses_of p f forms = placed clause_forms (clause_of p f forms)
