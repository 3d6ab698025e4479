-- The computed lists are the lists of the machine of a flat model.
use Rattle.mu_affine.proofs.Common
use Common.{ℕ, ℤ, ◌∙◌, ◌≡◌, All, ap, AreClauses, AreRows, AreVariables, bits_of, ClauseInfo}
use Common.{clauses_of, DiscreteInfo, discretes_of, ExactForm, FlatModelTree, IsMachineOf}
use Common.{IsRightSide, last_of, length, List, Machine, machine_fault, map, None, pos}
use Common.{rounded_discrete, rounded_row, rounded_state, Settings, SlopeRow, state_count}
use Common.{StateInfo, states_of, subst, sym, take}

-- right sides with a states and b discrete variables
pub right_sides_for : (n g a b : ℕ) (xs ys : List ExactForm) → a ≡ n → b ≡ g → xs ≡ ys → All (IsRightSide n g) ys → All (IsRightSide a b) xs
right_sides_for n g a b xs ys same_a same_b same h =
    subst (λ c. All (IsRightSide c b) xs) (sym same_a) (subst (λ c. All (IsRightSide n c) xs) (sym same_b) (subst (All (IsRightSide n g)) (sym same) h))

module _ (f : ℕ) (unit : ℤ) (xs states : List StateInfo) (ys discretes : List DiscreteInfo) (same_states : xs ≡ states) (same_discretes : ys ≡ discretes) where
  pub variables_for : AreVariables unit states discretes → AreVariables unit xs ys
  variables_for h = subst (λ s. AreVariables unit s ys) (sym same_states) (subst (AreVariables unit states) (sym same_discretes) h)

  pub rows_for : (rs rows : List SlopeRow) → rs ≡ rows → AreRows f unit states discretes rows → AreRows f unit xs ys rs
  rows_for rs rows same h =
      subst (λ s. AreRows f unit s ys rs) (sym same_states) (subst (λ d. AreRows f unit states d rs) (sym same_discretes) (subst (AreRows f unit states discretes) (sym same) h))

  pub clauses_for : (cs clauses : List ClauseInfo) → cs ≡ clauses → AreClauses (length states) (length discretes) clauses → AreClauses (length xs) (length ys) cs
  clauses_for cs clauses same h =
      subst (λ s. AreClauses (length s) (length ys) cs) (sym same_states)
      (subst (λ d. AreClauses (length states) (length d) cs) (sym same_discretes) (subst (AreClauses (length states) (length discretes)) (sym same) h))

-- a machine with the units and the lists of a flat model
pub record HasParts (forms : List ExactForm) (m : FlatModelTree) (p k f last : ℕ) (machine : Machine) : Type 0 where
  pub same_p : machine.p ≡ p
  pub same_k : machine.k ≡ k
  pub same_f : machine.f ≡ f
  pub same_last : machine.last ≡ last
  pub same_states : machine.states ≡ map (rounded_state p k f) (states_of m.vars)
  pub same_discretes : machine.discretes ≡ map (rounded_discrete f) (discretes_of m.vars)
  pub same_rows : machine.rows ≡ map (rounded_row p f) (take (state_count m.vars) forms)
  pub same_clauses : machine.clauses ≡ clauses_of p f forms (state_count m.vars) m.clauses
  pub no_share : machine.relative ≡ 0

pub machine_is : (forms : List ExactForm) (m : FlatModelTree) (s : Settings) (p k f last : ℕ) (machine : Machine) → HasParts forms m p k f last machine → machine_fault forms m s ≡ None →
    p ≡ bits_of s.coef_bits → k ≡ bits_of s.tick_bits → f ≡ bits_of s.level_bits → pos last ≡ last_of s → IsMachineOf forms m s machine
machine_is forms m s p k f last machine has none coef tick level ends = record {
  no_fault = none;
  coefficient_bits = has.same_p ∙ coef;
  tick_bits = has.same_k ∙ tick;
  level_bits = has.same_f ∙ level;
  last_tick = ap pos has.same_last ∙ ends;
  states =
      has.same_states ∙ ap (λ (i : ℕ). map (rounded_state i k f) (states_of m.vars)) (sym has.same_p) ∙ ap (λ (i : ℕ). map (rounded_state machine.p i f) (states_of m.vars)) (sym has.same_k)
      ∙ ap (λ (i : ℕ). map (rounded_state machine.p machine.k i) (states_of m.vars)) (sym has.same_f);
  discretes = has.same_discretes ∙ ap (λ (i : ℕ). map (rounded_discrete i) (discretes_of m.vars)) (sym has.same_f);
  rows =
      has.same_rows ∙ ap (λ (i : ℕ). map (rounded_row i f) (take (state_count m.vars) forms)) (sym has.same_p)
      ∙ ap (λ (i : ℕ). map (rounded_row machine.p i) (take (state_count m.vars) forms)) (sym has.same_f);
  clauses =
      has.same_clauses ∙ ap (λ (i : ℕ). clauses_of i f forms (state_count m.vars) m.clauses) (sym has.same_p)
      ∙ ap (λ (i : ℕ). clauses_of machine.p i forms (state_count m.vars) m.clauses) (sym has.same_f);
  no_share = has.no_share;
}
