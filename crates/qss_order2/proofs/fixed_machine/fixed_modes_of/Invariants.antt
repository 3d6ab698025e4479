use Rattle.qss_order2.proofs.Common.{◌-◌, ◌≤◌, AreModesBelow, state_count}
use Rattle.qss_order2.proofs.fixed_machine.fixed_modes_of.Given as goal

abbrev pub invariant-loop-state : goal.invariant-loop-state
invariant-loop-state l = record {
  within : l.state ≤ state_count l.m;
  modes : AreModesBelow l.m l.row l.state l.entries.items;
}

abbrev pub decreases-loop-state : goal.decreases-loop-state
decreases-loop-state l = state_count l.m - l.state
