use Rattle.qss_sched.proofs.Common.{◌≡◌, AreDisjointTicks, joined}
use Rattle.qss_sched.proofs.agenda.bring_agenda_near.Given as goal

-- far places are moved into the wheel
abbrev pub invariant-loop : goal.invariant-loop
invariant-loop l = record {
  apart : AreDisjointTicks l.near l.far;
  same : joined l.near l.far ≡ joined l.fn.near l.fn.far;
}
