use Rattle.cert_check.proofs.Common
use Common.{ℕ, ℤ, ◌^◌, ◌∙◌, ◌≡◌, ◌≤ℤ◌, ap, FitsSigned, length, length-map-range_with_len}
use Common.{level_unit, List, pos, rules, start_coefficient, state_count, subst, sym, System, table}
use Common.{tabulate, to_z-of_z, unit_positive, vector, w128}
use Rattle.qss_machine.proofs.Near.{unit_high}
use Rattle.cert_check.proofs.machine_system.affine_system.Goals as goal

-- a system by its lists
abbrev system_by : ℕ → List (List ℤ) → List ℤ → List ℤ → ℤ → ℤ → System
system_by n coef constant quantum unit share = record { n = n; coef = table coef; constant = vector constant; quantum = vector quantum; unit = unit; share = share }

pub invariant_of-result-clause-positive : goal.invariant_of-result-clause-positive
invariant_of-result-clause-positive c =
    let fits : FitsSigned w128 c.level_unit.result = search rules in
    rw (to_z-of_z, c.level_unit.ensures) (unit_positive c.args.m.now)

pub invariant_of-result-clause-small : goal.invariant_of-result-clause-small
invariant_of-result-clause-small c =
    let fits : FitsSigned w128 c.level_unit.result = search rules in
    let P : ℤ → Type 0 = λ z. z ≤ℤ pos (2 ^ 44) in
    subst P (sym (to_z-of_z fits ∙ c.level_unit.ensures)) (unit_high c.args.m.now)

pub returns-clause-coef : goal.returns-clause-coef
returns-clause-coef c =
    ap length c.affine_coefficients.ensures
    ∙ length-map-range_with_len (λ j. tabulate (state_count c.args.m.now) (start_coefficient c.args.m.now j)) 0 (state_count c.args.m.now)

same-system : (n n' : ℕ) (coef coef' : List (List ℤ)) (constant constant' quantum quantum' : List ℤ) (unit unit' share share' : ℤ)
    → n ≡ n' → coef ≡ coef' → constant ≡ constant' → quantum ≡ quantum' → unit ≡ unit' → share ≡ share'
    → system_by n coef constant quantum unit share ≡ system_by n' coef' constant' quantum' unit' share'
same-system n n' coef coef' constant constant' quantum quantum' unit unit' share share' a b c d e f =
    λ i. system_by (a i) (b i) (c i) (d i) (e i) (f i)

pub returns-clause-system : goal.returns-clause-system
returns-clause-system c =
    let fits : FitsSigned w128 c.level_unit.result = search rules in
    let share_fits : FitsSigned w128 c.from.result = search rules in
    same-system _ _ _ _ _ _ _ _ _ _ _ _ (ap length c.as_slice.ensures) c.affine_coefficients.ensures c.affine_constants.ensures c.affine_quanta.ensures
    (to_z-of_z fits ∙ c.level_unit.ensures) (to_z-of_z share_fits ∙ c.from.ensures)
