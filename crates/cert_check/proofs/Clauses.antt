-- A machine has at most as many clauses as conditions and statements.
use Rattle.cert_check.proofs.Common.{[], ℕ, ◌+◌, ◌∷◌, ◌≤◌, All, arith, length, List, Machine, suc}
use Rattle.std.proofs.lemmas.List.Sums.{sum_by-cons}
use Rattle.std.specs.Prelude.{sum_by}
use Rattle.qss_machine.specs.declared.machine_parts.BranchInfo.{BranchInfo}
use Rattle.qss_machine.specs.declared.machine_parts.ClauseInfo.{ClauseInfo}
use Rattle.qss_machine.specs.MachineLimits.{IsClause, item_count}

branches-few : (branches : List BranchInfo) → length branches ≤ sum_by (λ (branch : BranchInfo). 1 + length branch.actions) branches
branches-few [] = omega arith
branches-few (branch ∷ rest) = omega (arith, branches-few rest, sum_by-cons (λ (branch : BranchInfo). 1 + length branch.actions) branch rest)

count-≤ : (s d : ℕ) (clauses : List ClauseInfo) → All (IsClause s d) clauses → length clauses ≤ item_count clauses
count-≤ s d [] h = omega arith
count-≤ s d (clause ∷ rest) h =
    let first = h 0 clause (omega arith) in
    omega (
      arith,
      first.some_branch,
      branches-few clause.branches,
      count-≤ s d rest (λ k e l. h (suc k) e (omega arith)),
      sum_by-cons (λ (clause : ClauseInfo). sum_by (λ (branch : BranchInfo). 1 + length branch.actions) clause.branches) clause rest,
    )

pub clauses-few : (m : Machine) → length m.clauses ≤ 16384
clauses-few m = omega (arith, count-≤ (length m.states) (length m.discretes) m.clauses m.has_clauses.each, m.has_clauses.few)
