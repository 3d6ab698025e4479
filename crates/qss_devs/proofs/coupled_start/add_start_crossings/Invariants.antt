use Rattle.qss_devs.proofs.Common
use Common.{◌+◌, ◌≡◌, ◌≤◌, clause_at, EachAt, first_place, IsFirstCrossing, length}
use Rattle.qss_devs.proofs.coupled_start.add_start_crossings.Given as goal

-- the crossings so far
abbrev pub invariant-loop-branch : goal.invariant-loop-branch
invariant-loop-branch l = record {
  each : EachAt (IsFirstCrossing l.shared.value) l.crossings.items;
  as_many : length l.crossings.items ≡ first_place l.shared.value.clauses l.clause + l.branch;
  within : l.branch ≤ length (clause_at l.shared.value l.clause).branches;
}
