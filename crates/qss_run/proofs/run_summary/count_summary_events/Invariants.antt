use Rattle.qss_run.proofs.Common.{◌-◌, ◌≡◌, Floor, Some}
use Rattle.qss_run.proofs.Counting.{IsCounting}
use Rattle.qss_run.proofs.run_summary.count_summary_events.Given as goal

-- the number of level changes so far
abbrev pub invariant-events : goal.invariant-events
invariant-events g l = record {
  named : l.sim.quantizer.name ≡ Some Floor;
  counting : IsCounting l.fn.sim.run l.sim.run l.levels;
}

abbrev pub decreases-events : goal.decreases-events
decreases-events g l = l.sim.run.machine.last - l.sim.run.tick
