-- Where no check fails, the numbers are those of a machine.
use Rattle.mu_affine.proofs.Common
use Common.{[], ℕ, ℤ, ◌&&◌, ◌+◌, ◌-◌, ◌<◌, ◌^◌, ◌∙◌, ◌≡◌, ◌≤ℤ◌, ◌≤◌, action_of, All, All-map}
use Common.{and_from, and_parts, ap, AreClauses, AreNamed, AreRows, AreVariables, arith, Assign}
use Common.{Bool, branch_forms, branch_of, BranchInfo, clause_forms, clause_of, ClauseInfo}
use Common.{clauses_of, discrete_count, DiscreteInfo, drop, ExactForm, exceeds, false, FlatAction}
use Common.{FlatBranchTree, FlatVariable, form_at, form_fits, get_or, inl, inr, int_le, ints}
use Common.{is_quantum, is_start, is_value, IsFlatAction, IsFlatBranch, IsFlatClause, IsForm}
use Common.{IsNonDecreasing, IsRightSide, IsRow, IsTrue, IsWithin, length, length-drop, length-map}
use Common.{List, map, nat_le, nat_lt, not, pos, rank, Restart, rounded, rounded_discrete}
use Common.{rounded_down, rounded_form, rounded_row, rounded_state, row_fits, row_fits_at_start}
use Common.{SlopeRow, start_level, state_count, StateInfo, subst, sum_by, sym, true, whole}
use Rattle.std.proofs.lemmas.Bool.{or_cases, le-leb, lt-ltb}
use Rattle.std.proofs.lemmas.List.{get_or-drop}
use Rattle.qss_machine.specs.MachineLimits.{IsAction, IsBranch, IsClause, IsStateInfo}
use Rattle.mu_num.specs.Levels.{level_below}
use Rattle.qss_machine.specs.Slopes.{mode_fits, weight_of}
use Rattle.mu_affine.proofs.Turns.{map_twice}
use Rattle.mu_affine.proofs.RowLaws.{row_is, form_is, within}
use Rattle.mu_affine.proofs.Placing.{ones, placed_all, placed_length, placed_sum}
use Rattle.mu_affine.proofs.ChecksInOrder.{state_place, discrete_place}

-- ---- variables

state_is : (p k f : ℕ) (v : FlatVariable) → is_start p k f v.start ≡ true → is_quantum f v.quantum ≡ true → IsStateInfo (pos (2 ^ (p + k))) (rounded_state p k f v)
state_is p k f v starts quantum =
    let start = and_parts (not (exceeds 88 (rounded (f + p + k) v.start))) (not (exceeds 43 (start_level p k f v.start))) starts in
    let own = and_parts (int_le (pos 1) (rounded_down f v.quantum)) (int_le (rounded_down f v.quantum) (pos (2 ^ 32))) quantum in
    record {
      start = within 88 (rounded (f + p + k) v.start) start.0;
      level = within 43 (start_level p k f v.start) start.1;
      quantum_low = at_most (pos 1) (rounded_down f v.quantum) own.0;
      quantum_high = at_most (rounded_down f v.quantum) (pos (2 ^ 32)) own.1;
    }
  where
    at_most : (a b : ℤ) → int_le a b ≡ true → a ≤ℤ b
    at_most a b e = grind (arith, ints)

pub variables_are : (p k f : ℕ) (states discretes : List FlatVariable) → length states + length discretes ≤ 4096 →
    All (λ v. is_start p k f v.start ≡ true) states → All (λ v. is_quantum f v.quantum ≡ true) states → All (λ v. is_value f v.start ≡ true) discretes →
    AreVariables (pos (2 ^ (p + k))) (map (rounded_state p k f) states) (map (rounded_discrete f) discretes)
variables_are p k f states discretes few starts quanta values = record {
  few = omega (arith, few, length-map states (rounded_state p k f), length-map discretes (rounded_discrete f));
  each_state = All-map (IsStateInfo (pos (2 ^ (p + k)))) (rounded_state p k f) states (λ i d h. state_is p k f (get_or states i d) (starts i d h) (quanta i d h));
  each_discrete = All-map (λ (d : DiscreteInfo). IsWithin 43 d.d0) (rounded_discrete f) discretes (λ i d h. within 43 (rounded f (get_or discretes i d).start) (values i d h));
}

-- ---- right sides

row_light : (f : ℕ) (levels values : List ℤ) (row : SlopeRow) → row_fits_at_start f levels values row ≡ true → row_fits row ≡ true →
    IsTrue (mode_fits f (length levels) row values) × IsWithin 88 (weight_of f row levels values)
row_light f levels values row starts fits =
    elim (or_cases (not (row_fits row)) (mode_fits f (length levels) row values && not (exceeds 88 (weight_of f row levels values))) starts) [
      | inl unfit ↦ absurd (contrary (row_fits row) fits unfit)
      | inr light ↦ let both = and_parts (mode_fits f (length levels) row values) (not (exceeds 88 (weight_of f row levels values))) light in
          (is_true (mode_fits f (length levels) row values) both.0, within 88 (weight_of f row levels values) both.1)
    ]
  where
    contrary : (b : Bool) → b ≡ true → not b ≡ true → ⊥
    contrary true e h = cc
    contrary false e h = cc

    is_true : (b : Bool) → b ≡ true → IsTrue b
    is_true b e = e

pub rows_are : (p k f : ℕ) (states discretes : List FlatVariable) (forms : List ExactForm) → length forms ≡ length states →
    All (IsRightSide (length states) (length discretes)) forms →
    All (λ form. row_fits_at_start f (map (λ (v : FlatVariable). start_level p k f v.start) states) (map (λ (v : FlatVariable). rounded f v.start) discretes) (rounded_row p f form) ≡ true) forms →
    All (λ form. row_fits (rounded_row p f form) ≡ true) forms →
    AreRows f (pos (2 ^ (p + k))) (map (rounded_state p k f) states) (map (rounded_discrete f) discretes) (map (rounded_row p f) forms)
rows_are p k f states discretes forms one_each right starts fits =
    let unit = pos (2 ^ (p + k)) in
    let made = map (rounded_state p k f) states in
    let made_discretes = map (rounded_discrete f) discretes in
    let levels = map (λ (v : FlatVariable). start_level p k f v.start) states in
    let values = map (λ (v : FlatVariable). rounded f v.start) discretes in
    let same_levels : map (λ (s : StateInfo). level_below unit s.x0) made ≡ levels = map_twice (rounded_state p k f) (λ (s : StateInfo). level_below unit s.x0) states in
    let same_values : map (λ (d : DiscreteInfo). d.d0) made_discretes ≡ values = map_twice (rounded_discrete f) (λ (d : DiscreteInfo). d.d0) discretes in
    let count : length made ≡ length states = length-map states (rounded_state p k f) in
    let discrete_count : length made_discretes ≡ length discretes = length-map discretes (rounded_discrete f) in
    let long : length levels ≡ length states = length-map states (λ (v : FlatVariable). start_level p k f v.start) in
    record {
      one_each = length-map forms (rounded_row p f) ∙ one_each ∙ sym count;
      each = rw (count, discrete_count) (All-map (IsRow (length states) (length discretes)) (rounded_row p f) forms
          (λ i d h. row_is (length states) (length discretes) p f (get_or forms i d) (right i d h) (fits i d h)));
      modes = rw (count, same_values, ← long) (All-map (λ (row : SlopeRow). IsTrue (mode_fits f (length levels) row values)) (rounded_row p f) forms
          (λ i d h. (row_light f levels values (rounded_row p f (get_or forms i d)) (starts i d h) (fits i d h)).0));
      weights = rw (same_levels, same_values) (All-map (λ (row : SlopeRow). IsWithin 88 (weight_of f row levels values)) (rounded_row p f) forms
          (λ i d h. (row_light f levels values (rounded_row p f (get_or forms i d)) (starts i d h) (fits i d h)).1));
    }

-- ---- clauses

-- the forms of conditions and statements from the place n on, each within the limits
module _ (p f n g : ℕ) (vars : List FlatVariable) (forms : List ExactForm)
    (states : n ≡ state_count vars) (discretes : g ≡ discrete_count vars)
    (ordered : IsNonDecreasing (map (λ (v : FlatVariable). rank v.role) vars))
    (named : All (λ form. AreNamed (n + g + g) form.entries) (drop n forms))
    (fits : All (λ form. form_fits (rounded_form p f form) ≡ true) (drop n forms)) where
  form_here : (k : ℕ) → n ≤ k → k < length forms → IsForm n g (rounded_form p f (form_at forms k))
  form_here k low high =
      let d : ExactForm = record { entries = []; products = []; time = whole (pos 0); constant = whole (pos 0) } in
      let place : n + (k - n) ≡ k = omega arith in
      let inside : k - n < length (drop n forms) = omega (arith, length-drop n forms) in
      let same : get_or (drop n forms) (k - n) d ≡ form_at forms k = get_or-drop n forms (k - n) d ∙ ap (λ i. get_or forms i d) place in
      let P : ExactForm → Type 0 = λ form. IsForm n g (rounded_form p f form) in
      subst P same (form_is n g p f (get_or (drop n forms) (k - n) d) (named (k - n) d inside) (fits (k - n) d inside))

  action_is : (k : ℕ) (a : FlatAction) → n ≤ k → k + 1 ≤ length forms → IsFlatAction vars a → IsAction n g (action_of p f forms k a)
  action_is k (Assign v e) low high h =
      let place = discrete_place vars v h.0.variable ordered h.0.at h.0.is in
      record {
        form = form_here k low (omega arith);
        target = and_from (nat_le n v) (nat_lt v (n + g)) (le-leb n v (omega (arith, states, place.0))) (lt-ltb v (n + g) (omega (arith, states, discretes, place.1)));
      }
  action_is k (Restart v e) low high h =
      let place = state_place vars v h.0.variable ordered h.0.at h.0.is in
      record { form = form_here k low (omega arith); target = lt-ltb v n (omega (arith, states, place)) }

  branch_is : (k : ℕ) (b : FlatBranchTree) → n ≤ k → k + branch_forms b ≤ length forms → IsFlatBranch vars b → IsBranch n g (branch_of p f forms k b)
  branch_is k b low high h = record {
    condition = form_here k low (omega arith);
    actions = placed_all (λ (a : FlatAction). 1) (action_of p f forms) (IsAction n g) (IsFlatAction vars) n (length forms) (k + 1) b.body action_is (omega arith) (omega (arith, ones b.body)) h.2;
  }

  clause_is : (k : ℕ) (bs : List FlatBranchTree) → n ≤ k → k + clause_forms bs ≤ length forms → IsFlatClause vars bs → IsClause n g (clause_of p f forms k bs)
  clause_is k bs low high h = record {
    some_branch = omega (arith, placed_length branch_forms (branch_of p f forms) k bs, h.0);
    branches = placed_all branch_forms (branch_of p f forms) (IsBranch n g) (IsFlatBranch vars) n (length forms) k bs branch_is low high h.1;
  }

  clause_items : (k : ℕ) (bs : List FlatBranchTree) → sum_by (λ (b : BranchInfo). 1 + length b.actions) (clause_of p f forms k bs).branches ≡ clause_forms bs
  clause_items k bs =
      placed_sum branch_forms (branch_of p f forms) (λ (b : BranchInfo). 1 + length b.actions) k bs
      (λ k b. ap (λ l. 1 + l) (placed_length (λ (a : FlatAction). 1) (action_of p f forms) (k + 1) b.body))

  pub clauses_are : (clauses : List (List FlatBranchTree)) → n + sum_by clause_forms clauses ≤ length forms → sum_by clause_forms clauses ≤ 16384 →
      All (IsFlatClause vars) clauses → AreClauses n g (clauses_of p f forms n clauses)
  clauses_are clauses high few each = record {
    each = placed_all clause_forms (clause_of p f forms) (IsClause n g) (IsFlatClause vars) n (length forms) n clauses clause_is (omega arith) high each;
    few = rw (placed_sum clause_forms (clause_of p f forms) (λ (c : ClauseInfo). sum_by (λ (b : BranchInfo). 1 + length b.actions) c.branches) n clauses clause_items) few;
  }
