-- The machine of a flat model with its forms and its settings.
use Rattle.std.specs.Prelude.{ℕ, ◌≡◌, ◌+◌, ◌*◌, ◌<◌, ◌≤◌, List, map, length, take, drop, pos, All}
use Rattle.std.specs.Prelude.{sum_by, None}
use Rattle.std.specs.List.Sorted.{IsStrictlyIncreasing}
use Rattle.mu_affine.specs.declared.exact_form.ExactEntry.{ExactEntry}
use Rattle.mu_affine.specs.declared.exact_form.ExactProduct.{ExactProduct}
use Rattle.mu_affine.specs.declared.exact_form.ExactForm.{ExactForm}
use Rattle.mu_tree.specs.declared.flat.Settings.{Settings}
use Rattle.mu_tree.specs.FlatExpression.{FlatModelTree}
use Rattle.qss_machine.specs.declared.compiled_machine.Machine.{Machine}
use Rattle.mu_affine.specs.Rounded.{rounded_row, rounded_state, rounded_discrete}
use Rattle.mu_affine.specs.FormPlaces.{state_count, discrete_count, states_of, discretes_of}
use Rattle.mu_affine.specs.FormPlaces.{clause_forms, clauses_of}
use Rattle.mu_affine.specs.MachineChecks.{bits_of, last_of, machine_fault}

-- coefficients of variables below `count`, sorted by variable
pub record AreNamed (count : ℕ) (entries : List ExactEntry) : Type 0 where
  pub rising : IsStrictlyIncreasing (map (λ e. e.var) entries)
  pub known : All (λ e. e.var < count) entries

-- coefficients of products, sorted by state and then by discrete variable
pub record ArePaired (states discretes : ℕ) (products : List ExactProduct) : Type 0 where
  pub rising : IsStrictlyIncreasing (map (λ e. e.state * (states + discretes) + e.discrete) products)
  pub of_states : All (λ e. e.state < states) products
  pub of_discretes : All (λ e. (states ≤ e.discrete) × (e.discrete < states + discretes)) products

-- the form of a right-hand side: states, discrete variables and their products
pub record IsRightSide (states discretes : ℕ) (form : ExactForm) : Type 0 where
  pub entries : AreNamed (states + discretes) form.entries
  pub products : ArePaired states discretes form.products

-- one form for each state, then one for each condition and statement
pub record AreFormsFor (forms : List ExactForm) (m : FlatModelTree) : Type 0 where
  pub one_each : length forms ≡ state_count m.vars + sum_by clause_forms m.clauses
  pub of_states : All (IsRightSide (state_count m.vars) (discrete_count m.vars)) (take (state_count m.vars) forms)
  pub of_clauses : All (λ form. AreNamed (state_count m.vars + discrete_count m.vars + discrete_count m.vars) form.entries) (drop (state_count m.vars) forms)

-- All checks hold, and each number of the machine is the exact number, rounded once.
pub record IsMachineOf (forms : List ExactForm) (m : FlatModelTree) (s : Settings) (machine : Machine) : Type 0 where
  pub no_fault : machine_fault forms m s ≡ None
  pub coefficient_bits : machine.p ≡ bits_of s.coef_bits
  pub tick_bits : machine.k ≡ bits_of s.tick_bits
  pub level_bits : machine.f ≡ bits_of s.level_bits
  pub last_tick : pos machine.last ≡ last_of s
  pub states : machine.states ≡ map (rounded_state machine.p machine.k machine.f) (states_of m.vars)
  pub discretes : machine.discretes ≡ map (rounded_discrete machine.f) (discretes_of m.vars)
  pub rows : machine.rows ≡ map (rounded_row machine.p machine.f) (take (state_count m.vars) forms)
  pub clauses : machine.clauses ≡ clauses_of machine.p machine.f forms (state_count m.vars) m.clauses
  pub no_share : machine.relative ≡ 0
