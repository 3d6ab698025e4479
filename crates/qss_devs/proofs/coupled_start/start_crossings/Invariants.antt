use Rattle.qss_devs.proofs.Common.{◌≡◌, EachAt, first_place, IsFirstCrossing, length}
use Rattle.qss_devs.proofs.coupled_start.start_crossings.Given as goal

-- the crossings of the clauses so far
abbrev pub invariant-loop-clause : goal.invariant-loop-clause
invariant-loop-clause l = record {
  each : EachAt (IsFirstCrossing l.shared.value) l.crossings.items;
  as_many : length l.crossings.items ≡ first_place l.shared.value.clauses l.clause;
}
