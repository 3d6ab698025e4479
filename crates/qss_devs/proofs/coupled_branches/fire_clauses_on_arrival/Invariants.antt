use Rattle.qss_devs.proofs.Common
use Common.{◌+◌, ◌≡◌, ◌≤◌, AreValuesOf, drop, due_flags, first_place, handling_of, length, row_room}
use Common.{run_clauses}
use Rattle.qss_devs.proofs.coupled_branches.fire_clauses_on_arrival.Given as goal

-- the clauses so far ran, and none overflowed
abbrev pub invariant-loop-clause : goal.invariant-loop-clause
invariant-loop-clause l = record {
  so_far : run_clauses l.m l.fn.work.tick l.fn.work.pre 0 (handling_of l.fn.work) l.m.clauses (due_flags l.truths)
      ≡ run_clauses l.m l.fn.work.tick l.fn.work.pre l.clause (handling_of l.work) (drop l.clause l.m.clauses) (drop l.first (due_flags l.truths));
  same_tick : l.work.tick ≡ l.fn.work.tick;
  same_before : l.work.pre ≡ l.fn.work.pre;
  same_room : l.work.room ≡ l.fn.work.room;
  room : length l.work.log + row_room (drop l.clause l.m.clauses) ≤ l.work.room;
  branches : l.first ≡ first_place l.m.clauses l.clause;
  fits : AreValuesOf l.m l.work;
}
