use Rattle.qss_run.proofs.Common.{◌≡◌, false, flag_at, IsWritten, take}
use Rattle.qss_run.proofs.run_conditions.Conditions.copy_all_settled.Given as goal

-- the flags so far
abbrev pub invariant-loop-condition : goal.invariant-loop-condition
invariant-loop-condition l = IsWritten false (λ place flag. flag ≡ flag_at l.after_handlers place) (take l.condition-index l.flipped) l.initial.at_arrival l.at_arrival
