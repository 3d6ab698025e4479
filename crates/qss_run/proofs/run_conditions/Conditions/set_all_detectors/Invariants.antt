use Rattle.qss_run.proofs.Common.{◌≡◌, AreSettled, detector_states_of}
use Rattle.qss_run.specs.DetectorUpdates.{AreAlikeButSettled}
use Rattle.qss_run.proofs.Rewatching.{all_below}
use Rattle.qss_run.proofs.run_conditions.Conditions.set_all_detectors.Given as goal

-- the conditions so far are settled
abbrev pub invariant-loop-place : goal.invariant-loop-place
invariant-loop-place l = record {
  after_handlers : AreSettled l.m l.at.tick l.at.states.now l.at.discretes.now l.at.slopes.now (all_below l.place) (detector_states_of l.fn.self l.fn.agenda) (detector_states_of l.self l.agenda);
  count : l.self.flipped.count ≡ l.fn.self.flipped.count;
  rest : AreAlikeButSettled l.fn.self l.self;
}
