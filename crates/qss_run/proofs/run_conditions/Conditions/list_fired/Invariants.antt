use Rattle.qss_run.proofs.Common
use Common.{◌&&◌, ◌≡◌, ◌≤◌, detector_at, filter, flag_at, holds_at, not, take, vec_capacity}
use Common.{vec_len}
use Rattle.qss_run.proofs.run_conditions.Conditions.list_fired.Given as goal

-- those so far
abbrev pub invariant-loop-condition : goal.invariant-loop-condition
invariant-loop-condition l = record {
  fired : l.fired.items ≡ filter (λ place. holds_at (detector_at l.detectors place) l.tick && not (flag_at l.at_arrival place && flag_at l.after_handlers place)) (take l.condition-index l.changed);
  few : vec_len l.fired ≤ l.condition-index;
  room : vec_capacity l.fired ≡ vec_capacity l.fn.fired;
}
