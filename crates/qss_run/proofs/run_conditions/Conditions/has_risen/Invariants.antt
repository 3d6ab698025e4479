use Rattle.qss_run.proofs.Common.{ℕ, ◌<◌, ◌≡◌, became_true, false, get_or}
use Rattle.qss_run.proofs.run_conditions.Conditions.has_risen.Given as goal

-- none of the conditions so far became true
abbrev pub invariant-loop-condition : goal.invariant-loop-condition
invariant-loop-condition l = (k : ℕ) → k < l.condition-index → became_true l.self.at_arrival.items l.self.after_handlers.items (get_or l.flipped k 0) ≡ false
