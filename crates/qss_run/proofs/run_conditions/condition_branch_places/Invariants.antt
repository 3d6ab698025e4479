use Rattle.qss_run.proofs.Common.{ℕ, ◌<◌, ◌≡◌, ClauseInfo, IsBranchOf, length, take}
use Rattle.std.specs.Prelude.{sum_by}
use Rattle.qss_run.proofs.Branches.{place_at}
use Rattle.qss_run.proofs.run_conditions.condition_branch_places.Given as goal

-- the branches of the clauses so far
abbrev pub invariant-loop-clause : goal.invariant-loop-clause
invariant-loop-clause l = record {
  as_many : length l.found.items ≡ sum_by (λ (c : ClauseInfo). length c.branches) (take l.clause l.m.clauses);
  each : (place : ℕ) → place < length l.found.items → IsBranchOf l.m (place_at l.found.items place) place;
}
