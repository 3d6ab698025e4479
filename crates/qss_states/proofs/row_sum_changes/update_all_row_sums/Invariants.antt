use Rattle.qss_states.proofs.Common
use Common.{ℕ, ℤ, ◌*◌, ◌+◌, ◌<◌, ◌^◌, ◌≡◌, ◌≤◌, AreSumsBefore, int_at, length, List, state_count}
use Common.{sum_at, take}
use Rattle.std.specs.Prelude.{unsigned_abs}
use Rattle.qss_states.proofs.Shifting.{levels_along}
use Rattle.qss_states.proofs.row_sum_changes.update_all_row_sums.Given as goal

-- the sums where the moved states so far have their levels
abbrev pub invariant-loop-state : goal.invariant-loop-state
invariant-loop-state l = record {
  own : (old : List ℤ) → AreSumsBefore l.kind l.at.machine.now l.at.moved.now l.at.levels.now l.d l.fn.sums l.lines old → (j : ℕ) → j < state_count l.at.machine.now →
      int_at l.sums j ≡ sum_at l.kind l.at.machine.now j (levels_along (take l.state-index l.at.moved.now) l.at.levels.now old) l.d;
  as_many : length l.sums ≡ state_count l.at.machine.now;
  near : (j : ℕ) → j < state_count l.at.machine.now → unsigned_abs (int_at l.sums j) ≤ (l.state-index + 1) * 2 ^ 88;
}
