-- Handlers change a state only where they have a row of it.
use Rattle.qss_run.proofs.Common
use Common.{ℕ, ◌≡◌, false, firing_flags, first_exceeding, handlers_at, int_at, is_reinitialized}
use Common.{Machine, moved_states, Snapshot, truths}
use Rattle.qss_run.proofs.Reported.{logged}

-- a state that the handlers do not reinitialize is as on arrival
pub kept_state : (m : Machine) (tick : ℕ) (w : Snapshot) (j : ℕ) → is_reinitialized (handlers_at m tick w).rows j ≡ false → int_at (handlers_at m tick w).states j ≡ int_at (moved_states m w) j
kept_state m tick w j none =
    (logged m tick (moved_states m w) w.discretes (first_exceeding 88 (moved_states m w)) (firing_flags (truths m (moved_states m w) w.discretes tick) w.at_arrival w.after_handlers)).states j none
