use Rattle.qss_run.proofs.Common
use Common.{ℕ, ◌+◌, ◌<◌, ◌≡◌, ◌≤◌, AreValuesOf, drop, first_place, flags_of, get_or, handling_of}
use Common.{length, row_room, run_clauses}
use Rattle.qss_run.proofs.Firings.{clauses_from}
use Rattle.qss_run.proofs.condition_handlers.run_fired_handlers.Given as goal

-- the clauses before the next one have had their turns, and the places so far are theirs
abbrev pub invariant-loop-place : goal.invariant-loop-place
invariant-loop-place l = record {
  so_far : run_clauses l.m l.fn.w.tick l.fn.w.pre 0 (handling_of l.fn.w) l.m.clauses (flags_of (length l.branches) l.fired)
      ≡ clauses_from l.m l.fn.w.tick l.fn.w.pre (flags_of (length l.branches) l.fired) l.next (handling_of l.w);
  passed : (k : ℕ) → k < l.place-index → get_or l.fired k 0 < first_place l.m.clauses l.next;
  known : l.next ≤ length l.m.clauses;
  same_tick : l.w.tick ≡ l.fn.w.tick;
  same_before : l.w.pre ≡ l.fn.w.pre;
  same_room : l.w.room ≡ l.fn.w.room;
  room : length l.w.log + row_room (drop l.next l.m.clauses) ≤ l.w.room;
  fits : AreValuesOf l.m l.w;
}
