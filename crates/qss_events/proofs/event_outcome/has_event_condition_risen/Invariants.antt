use Rattle.qss_events.proofs.Common.{ℕ, ◌<◌, ◌≡◌, became_true, false, true}
use Rattle.qss_events.proofs.event_outcome.has_event_condition_risen.Given as goal

-- whether one of the conditions so far became true
abbrev pub invariant-loop-place : goal.invariant-loop-place
invariant-loop-place l = record {
  none : l.risen ≡ false → (place : ℕ) → place < l.place → became_true l.at_arrival l.after_handlers place ≡ false;
  some : l.risen ≡ true → (place : ℕ) × (became_true l.at_arrival l.after_handlers place ≡ true);
}
