use Rattle.qss_hand.proofs.Common.{◌≡◌, AreSameBut, drop, length}
use Rattle.qss_hand.proofs.work.copy_work_discretes.Given as goal

-- the values at the places so far have followed
abbrev pub invariant-loop-assigned : goal.invariant-loop-assigned
invariant-loop-assigned l = record {
  as_many : length l.before ≡ length l.values;
  rest : AreSameBut (drop l.assigned-index l.places) l.values l.before;
}
