use Rattle.qss_sched.proofs.Common.{◌≡◌, false, IsWritten}
use Rattle.std.proofs.Common.{take}
use Rattle.qss_sched.proofs.place_set.unmark.Given as goal

-- the marks so far
abbrev pub invariant-loop-place : goal.invariant-loop-place
invariant-loop-place l = IsWritten false (λ place flag. flag ≡ false) (take l.place-index l.places) l.fn.among l.among
