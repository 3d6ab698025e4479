use Rattle.qss_machine.proofs.Common
use Common.{ℕ, ℤ, ◌+◌, ◌∙◌, ◌≡◌, ap, arith, discrete_count, List, map, reading_conditions}
use Common.{reading_rows, state_count, tabulate}
use Rattle.qss_machine.proofs.Marking.{items_of}
use Rattle.qss_machine.proofs.Places.{conditions_few}
use Rattle.qss_machine.proofs.variable_uses.Uses.new.Goals as goal

pub condition_uses_by_variable-requires-clause-count_limit : goal.condition_uses_by_variable-requires-clause-count_limit
condition_uses_by_variable-requires-clause-count_limit c =
    let m = c.args.m.now in
    rw (c.as_slice-4.ensures) (omega (arith, conditions_few m.clauses, m.has_clauses.few))

-- the three lists of lists
abbrev lists : List (List ℕ) → List (List ℕ) → List (List ℤ) → List (List ℕ) × List (List ℕ) × List (List ℤ)
lists rows conditions coefficients = (rows, conditions, coefficients)

same : (rows rows' conditions conditions' : List (List ℕ)) (coefficients coefficients' : List (List ℤ)) → rows ≡ rows' → conditions ≡ conditions' → coefficients ≡ coefficients' →
    lists rows conditions coefficients ≡ lists rows' conditions' coefficients'
same rows rows' conditions conditions' coefficients coefficients' of_rows of_conditions of_coefficients =
    ap (λ xs. lists xs conditions coefficients) of_rows ∙ ap (λ xs. lists rows' xs coefficients) of_conditions ∙ ap (λ xs. lists rows' conditions' xs) of_coefficients

pub returns : goal.returns
returns c =
    let m = c.args.m.now in
    let rows : map items_of c.in_ok-rows.rows.items ≡ tabulate (state_count m + discrete_count m) (reading_rows m) =
    rw (c.as_slice.ensures, c.as_slice-2.ensures, c.as_slice-3.ensures) at c.in_ok-rows.ensures in
    let conditions : map items_of c.in_ok-conditions.conditions.items ≡ tabulate (state_count m + discrete_count m + discrete_count m) (reading_conditions m) =
    rw (c.as_slice.ensures, c.as_slice-2.ensures, c.as_slice-4.ensures) at c.in_ok-conditions.ensures in
    same _ _ _ _ _ _ rows conditions c.in_ok-coefficients.ensures
