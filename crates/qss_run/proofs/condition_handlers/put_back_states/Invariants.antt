use Rattle.qss_run.proofs.Common.{◌≡◌, IsWritten, None, Some, take}
use Rattle.qss_run.proofs.condition_handlers.put_back_states.Given as goal

-- the states put back so far
abbrev pub invariant-loop-place : goal.invariant-loop-place
invariant-loop-place l = IsWritten None (λ place due. due ≡ Some l.tick) (take l.place-index l.moved) l.fn.agenda l.agenda
