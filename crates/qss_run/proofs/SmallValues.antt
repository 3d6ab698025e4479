-- Values of forms of small states and discrete values are small.
use Rattle.qss_run.proofs.Common
use Common.{[], ℕ, ℤ, ◌*ℤ◌, ◌*◌, ◌+◌, ◌<◌, ◌^◌, ◌∷◌, ◌≡◌, ◌≤◌, All, All-append, AreBranches, arith}
use Common.{BranchPlace, cases_lt, Condition, condition_at, Entry, Form, get_or, get_or_past, inl}
use Common.{inputs, inr, int_at, ints, IsBounded, IsSmall, IsWithin, length, Less, level_unit, List}
use Common.{Machine, map, pos, product_bound, subst, sum_by, sum_by-cons, sum_over, sym}
use Common.{unsigned_abs, value_of, weighted_sum-entries}
use Rattle.std.proofs.lemmas.Int.{unsigned_abs-mul}
use Rattle.std.proofs.lemmas.List.Elements.{All-map}
use Rattle.std.proofs.Math.Pow.{pow_mono}
use Rattle.qss_run.proofs.Branches.{place_at}

int_at_within : (xs : List ℤ) → All (IsWithin 88) xs → (i : ℕ) → IsWithin 88 (int_at xs i)
int_at_within xs small i =
    elim (cases_lt i (length xs)) [
      | inl below ↦ small i (pos 0) below
      | inr past ↦ (let none : int_at xs i ≡ pos 0 = get_or_past xs i (pos 0) past in subst (IsWithin 88) (sym none) (omega arith))
    ]

scaled_within : (m : Machine) (d : List ℤ) → All (IsWithin 43) d → All (IsWithin 88) (map (λ z. z *ℤ level_unit m) d)
scaled_within m d small =
    All-map (IsWithin 88) (λ z. z *ℤ level_unit m) d
    (λ k z h.
    let unit : unsigned_abs (level_unit m) ≤ 2 ^ 44 = pow_mono m.has_units.unit_bits in
    omega (arith, product_bound (get_or d k z) (level_unit m) (2 ^ 43) (2 ^ 44) (small k z h) unit))

sum_within : (entries : List Entry) (xs : List ℤ) → All (IsWithin 88) xs →
    unsigned_abs (sum_over (λ entry. entry.coef *ℤ int_at xs entry.var) entries) ≤ sum_by (λ (entry : Entry). unsigned_abs entry.coef) entries * 2 ^ 88
sum_within [] xs small = omega arith
sum_within (entry ∷ entries) xs small =
    let term = product_bound entry.coef (int_at xs entry.var) (unsigned_abs entry.coef) (2 ^ 88) (omega arith) (int_at_within xs small entry.var) in
    omega (arith, ints, term, sum_within entries xs small, sum_by-cons (λ (other : Entry). unsigned_abs other.coef) entry entries)

-- a bounded form of small values has a small value
pub value_small : (m : Machine) (form : Form) (x d : List ℤ) (tick : ℕ) → IsBounded form → All (IsWithin 88) x → All (IsWithin 43) d → tick < 2 ^ 32 → IsSmall (value_of m form x d d tick)
value_small m form x d tick bounded small_x small_d in_time =
    let scaled = scaled_within m d small_d in
    let all : All (IsWithin 88) (inputs m x d d) = All-append (IsWithin 88) x _ small_x (All-append (IsWithin 88) (map (λ z. z *ℤ level_unit m) d) (map (λ z. z *ℤ level_unit m) d) scaled scaled) in
    let own = sum_within form.entries (inputs m x d d) all in
    let bits : m.f + m.p ≤ 56 = omega (arith, m.has_units.level_bits, m.has_units.coefficient_bits) in
    let power : 2 ^ (m.f + m.p) ≤ 2 ^ 56 = pow_mono bits in
    let moment : unsigned_abs (pos tick *ℤ pos (2 ^ (m.f + m.p))) ≤ 2 ^ 32 * 2 ^ 56 = product_bound (pos tick) (pos (2 ^ (m.f + m.p))) (2 ^ 32) (2 ^ 56) (omega (arith, in_time)) power in
    let same : unsigned_abs (pos tick *ℤ pos (2 ^ (m.f + m.p))) ≡ tick * 2 ^ (m.f + m.p) = unsigned_abs-mul (pos tick) (pos (2 ^ (m.f + m.p))) in
    let timed = product_bound form.time (pos (tick * 2 ^ (m.f + m.p))) (unsigned_abs form.time) (2 ^ 88) (omega arith) (omega (arith, moment, same)) in
    let unit : unsigned_abs (level_unit m) ≤ 2 ^ 44 = pow_mono m.has_units.unit_bits in
    let constant = product_bound form.gamma (level_unit m) (2 ^ 78) (2 ^ 44) bounded.constant unit in
    let sum = weighted_sum-entries form.entries (inputs m x d d) in
    omega (arith, ints, own, timed, constant, sum, bounded.coefficients)

-- the conditions of a machine are bounded
pub condition_bounded : (m : Machine) (branches : List BranchPlace) → AreBranches m branches → (place : ℕ) → place < length branches → IsBounded (condition_at m place).form
condition_bounded m branches are place h =
    let branch : BranchPlace = place_at branches place in
    let own = are.each place h in
    let of_clause = m.has_clauses.each branch.clause (record { branches = [] }) own.clause_known in
    let of_branch = of_clause.branches branch.branch (record { condition = record { form = record { entries = []; time = pos 0; gamma = pos 0 }; rel = Less }; actions = [] }) own.branch_known in
    subst (λ (c : Condition). IsBounded c.form) own.own of_branch.condition.bounded
