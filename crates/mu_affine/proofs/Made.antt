-- If no phase fails, the numbers of a flat model and of its forms are the numbers of a machine.
use Rattle.mu_affine.proofs.Common
use Common.{ℕ, ◌+◌, ◌^◌, ◌∙◌, ◌≡◌, ◌≤◌, All, AreClauses, AreFormsFor, AreRows, AreVariables, arith}
use Common.{clauses_of, Coefficient, discrete_count, discretes_of, drop, ExactForm, FlatModelTree}
use Common.{FlatVariable, form_fits, is_quantum, is_start, is_value, IsFlatModel, IsRightSide}
use Common.{length, length-drop, length-map, length-take-le, List, map, pos, Quantum, refl, rounded}
use Common.{rounded_discrete, rounded_form, rounded_row, rounded_state, row_fits, row_fits_at_start}
use Common.{Settings, Start, start_level, state_count, states_of, subst, sym, take, true}
use Rattle.mu_affine.proofs.Failing.{checks_hold}
use Rattle.mu_affine.proofs.ChecksInOrder.{counts_fit}
use Rattle.mu_affine.proofs.Assembly.{variables_are, rows_are, clauses_are}
use Rattle.mu_affine.proofs.WholeMachines.{PhasesPass}

pub state_total : (vars : List FlatVariable) → length (states_of vars) ≡ state_count vars
state_total vars = length-take-le (state_count vars) vars (omega (arith, counts_fit vars))

pub discrete_total : (vars : List FlatVariable) → length (discretes_of vars) ≡ discrete_count vars
discrete_total vars = length-take-le (discrete_count vars) (drop (state_count vars) vars) (omega (arith, counts_fit vars, length-drop (state_count vars) vars))

module _ (forms : List ExactForm) (m : FlatModelTree) (s : Settings) (p k f : ℕ) (flat : IsFlatModel m) (are : AreFormsFor forms m) (pass : PhasesPass forms m s p k f) where
  abbrev n : ℕ
  n = state_count m.vars

  abbrev g : ℕ
  g = discrete_count m.vars

  abbrev states : List FlatVariable
  states = states_of m.vars

  abbrev discretes : List FlatVariable
  discretes = discretes_of m.vars

  starts : All (λ (v : FlatVariable). is_start p k f v.start ≡ true) states
  starts = checks_hold (λ (v : FlatVariable). is_start p k f v.start) Start 0 states pass.starts_pass

  values : All (λ (v : FlatVariable). is_value f v.start ≡ true) discretes
  values = checks_hold (λ (v : FlatVariable). is_value f v.start) Start n discretes pass.values_pass

  quanta : All (λ (v : FlatVariable). is_quantum f v.quantum ≡ true) states
  quanta = checks_hold (λ (v : FlatVariable). is_quantum f v.quantum) Quantum 0 states pass.quanta_pass

  few : length states + length discretes ≤ 4096
  few = omega (arith, state_total m.vars, discrete_total m.vars, counts_fit m.vars, flat.variables)

  pub made_variables : AreVariables (pos (2 ^ (p + k))) (map (rounded_state p k f) states) (map (rounded_discrete f) discretes)
  made_variables = variables_are p k f states discretes few starts quanta values

  as_many : length (take n forms) ≡ length states
  as_many = length-take-le n forms (omega (arith, are.one_each)) ∙ sym (state_total m.vars)

  right : All (IsRightSide (length states) (length discretes)) (take n forms)
  right = rw (state_total m.vars, discrete_total m.vars) are.of_states

  pub made_rows : AreRows f (pos (2 ^ (p + k))) (map (rounded_state p k f) states) (map (rounded_discrete f) discretes) (map (rounded_row p f) (take n forms))
  made_rows =
      let light = checks_hold (λ form. row_fits_at_start f (map (λ (v : FlatVariable). start_level p k f v.start) states) (map (λ (v : FlatVariable). rounded f v.start) discretes) (rounded_row p f form)) Start 0 (take n forms) pass.weights_pass in
      let fits = checks_hold (λ form. row_fits (rounded_row p f form)) Coefficient 1 (take n forms) pass.rows_pass in
      rows_are p k f states discretes (take n forms) as_many right light fits

  -- the clauses of a machine with a states and b discrete variables
  counted : (a b : ℕ) → a ≡ n → b ≡ g → AreClauses n g (clauses_of p f forms n m.clauses) → AreClauses a b (clauses_of p f forms n m.clauses)
  counted a b same_a same_b h =
      subst (λ c. AreClauses c b (clauses_of p f forms n m.clauses)) (sym same_a) (subst (λ c. AreClauses n c (clauses_of p f forms n m.clauses)) (sym same_b) h)

  pub made_clauses : AreClauses (length (map (rounded_state p k f) states)) (length (map (rounded_discrete f) discretes)) (clauses_of p f forms n m.clauses)
  made_clauses =
      let fits = checks_hold (λ form. form_fits (rounded_form p f form)) Coefficient (n + 1) (drop n forms) pass.items_pass in
      counted (length (map (rounded_state p k f) states)) (length (map (rounded_discrete f) discretes))
      (length-map states (rounded_state p k f) ∙ state_total m.vars) (length-map discretes (rounded_discrete f) ∙ discrete_total m.vars)
      (clauses_are p f n g m.vars forms refl refl flat.in_order are.of_clauses fits m.clauses (omega (arith, are.one_each)) (omega (arith, flat.items)) flat.clauses)
