-- The checks of the code's lists are those of a flat model.
use Rattle.mu_affine.proofs.Common
use Common.{ℕ, ℤ, ◌+◌, ◌∙◌, ◌≡◌, ◌≤◌, ap, arith, checks, Coefficient, discrete_count, DiscreteInfo}
use Common.{discretes_of, drop, ExactForm, flat_variable, FlatModelTree, FlatVar, FlatVariable}
use Common.{is_quantum, is_start, is_value, length, length-map, List, map, Quantum, rounded}
use Common.{rounded_discrete, rounded_row, rounded_state, row_fits, row_fits_at_start, Settings}
use Common.{Start, start_level, state_count, StateInfo, states_of, sym, take, take-map}
use Rattle.std.proofs.lemmas.List.{drop-map}
use Rattle.mu_affine.proofs.Failing.{checks-map}
use Rattle.mu_affine.proofs.ChecksInOrder.{counts_fit}
use Rattle.mu_affine.proofs.Turns.{map_twice}
use Rattle.mu_affine.proofs.WholeMachines.{starts, values, weights, quanta, rows}

-- ---- the two kinds of variables

pub counts_within : (vars : List FlatVar) → state_count (map flat_variable vars) + discrete_count (map flat_variable vars) ≤ length vars
counts_within vars = omega (arith, counts_fit (map flat_variable vars), length-map vars flat_variable)

pub states_seen : (vars : List FlatVar) (first : ℕ) → first ≡ state_count (map flat_variable vars) → map flat_variable (take first vars) ≡ states_of (map flat_variable vars)
states_seen vars first e = sym (take-map flat_variable first vars) ∙ ap (λ n. take n (map flat_variable vars)) e

pub discretes_seen : (vars : List FlatVar) (first count : ℕ) → first ≡ state_count (map flat_variable vars) → count ≡ discrete_count (map flat_variable vars) →
    map flat_variable (take count (drop first vars)) ≡ discretes_of (map flat_variable vars)
discretes_seen vars first count e h =
    sym (take-map flat_variable count (drop first vars)) ∙ ap (take count) (sym (drop-map flat_variable first vars))
    ∙ ap (λ n. take count (drop n (map flat_variable vars))) e ∙ ap (λ n. take n (drop (state_count (map flat_variable vars)) (map flat_variable vars))) h

-- ---- the checks

module _ (forms : List ExactForm) (m : FlatModelTree) (s : Settings) (p k f : ℕ) (states discretes : List FlatVar)
    (of_states : map flat_variable states ≡ states_of m.vars) (of_discretes : map flat_variable discretes ≡ discretes_of m.vars) where
  pub starts_seen : checks (λ (v : FlatVar). is_start p k f v.start) Start 0 states ≡ starts forms m s p k f
  starts_seen =
      sym (checks-map flat_variable (λ (v : FlatVariable). is_start p k f v.start) Start 0 states) ∙ ap (checks (λ (v : FlatVariable). is_start p k f v.start) Start 0) of_states

  pub values_seen : (first : ℕ) → first ≡ state_count m.vars → checks (λ (v : FlatVar). is_value f v.start) Start first discretes ≡ values forms m s p k f
  values_seen first e =
      sym (checks-map flat_variable (λ (v : FlatVariable). is_value f v.start) Start first discretes) ∙ ap (checks (λ (v : FlatVariable). is_value f v.start) Start first) of_discretes
      ∙ ap (λ i. checks (λ (v : FlatVariable). is_value f v.start) Start i (discretes_of m.vars)) e

  levels_seen : map (λ (v : FlatVar). start_level p k f v.start) states ≡ map (λ (v : FlatVariable). start_level p k f v.start) (states_of m.vars)
  levels_seen = sym (map_twice flat_variable (λ (v : FlatVariable). start_level p k f v.start) states) ∙ ap (map (λ (v : FlatVariable). start_level p k f v.start)) of_states

  numbers_seen : map (λ (v : FlatVar). rounded f v.start) discretes ≡ map (λ (v : FlatVariable). rounded f v.start) (discretes_of m.vars)
  numbers_seen = sym (map_twice flat_variable (λ (v : FlatVariable). rounded f v.start) discretes) ∙ ap (map (λ (v : FlatVariable). rounded f v.start)) of_discretes

  pub weights_seen : (levels numbers : List ℤ) (rights : List ExactForm) → levels ≡ map (λ (v : FlatVar). start_level p k f v.start) states → numbers ≡ map (λ (v : FlatVar). rounded f v.start) discretes →
      rights ≡ take (state_count m.vars) forms → checks (λ form. row_fits_at_start f levels numbers (rounded_row p f form)) Start 0 rights ≡ weights forms m s p k f
  weights_seen levels numbers rights same_levels same_numbers same_rights =
      ap (λ ls. checks (λ form. row_fits_at_start f ls numbers (rounded_row p f form)) Start 0 rights) (same_levels ∙ levels_seen)
      ∙ ap (λ ns. checks (λ form. row_fits_at_start f (map (λ (v : FlatVariable). start_level p k f v.start) (states_of m.vars)) ns (rounded_row p f form)) Start 0 rights) (same_numbers ∙ numbers_seen)
      ∙ ap (checks (λ form. row_fits_at_start f (map (λ (v : FlatVariable). start_level p k f v.start) (states_of m.vars)) (map (λ (v : FlatVariable). rounded f v.start) (discretes_of m.vars)) (rounded_row p f form)) Start 0) same_rights

  pub quanta_seen : checks (λ (v : FlatVar). is_quantum f v.quantum) Quantum 0 states ≡ quanta forms m s p k f
  quanta_seen =
      sym (checks-map flat_variable (λ (v : FlatVariable). is_quantum f v.quantum) Quantum 0 states) ∙ ap (checks (λ (v : FlatVariable). is_quantum f v.quantum) Quantum 0) of_states

  pub rows_seen : (rights : List ExactForm) → rights ≡ take (state_count m.vars) forms → checks (λ form. row_fits (rounded_row p f form)) Coefficient 1 rights ≡ rows forms m s p k f
  rows_seen rights e = ap (checks (λ form. row_fits (rounded_row p f form)) Coefficient 1) e

  -- and what is made of them
  pub states_made : (all : List StateInfo) → all ≡ map (λ (v : FlatVar). rounded_state p k f (flat_variable v)) states → all ≡ map (rounded_state p k f) (states_of m.vars)
  states_made all e = e ∙ sym (map_twice flat_variable (rounded_state p k f) states) ∙ ap (map (rounded_state p k f)) of_states

  pub discretes_made : (all : List DiscreteInfo) → all ≡ map (λ (v : FlatVar). rounded_discrete f (flat_variable v)) discretes → all ≡ map (rounded_discrete f) (discretes_of m.vars)
  discretes_made all e = e ∙ sym (map_twice flat_variable (rounded_discrete f) discretes) ∙ ap (map (rounded_discrete f)) of_discretes
