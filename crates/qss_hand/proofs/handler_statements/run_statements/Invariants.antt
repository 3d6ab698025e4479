use Rattle.qss_hand.proofs.Common
use Common.{◌+◌, ◌≡◌, ◌≤◌, AreValuesOf, fold, handling_of, length, run_action, take}
use Rattle.qss_hand.proofs.handler_statements.run_statements.Given as goal

-- the statements so far have run, and none overflowed
abbrev pub invariant-loop-action : goal.invariant-loop-action
invariant-loop-action l = record {
  so_far : handling_of l.w ≡ fold (run_action l.m l.fn.w.tick l.fn.w.pre) (handling_of l.fn.w) (take l.action-index l.actions);
  same_tick : l.w.tick ≡ l.fn.w.tick;
  same_before : l.w.pre ≡ l.fn.w.pre;
  same_room : l.w.room ≡ l.fn.w.room;
  few : length l.w.log ≤ length l.fn.w.log + l.action-index;
  fits : AreValuesOf l.m l.w;
}
