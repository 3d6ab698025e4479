use Rattle.qss_states.proofs.Common
use Common.{ℤ, ◌+◌, ◌≡◌, ◌≤◌, AreRequantized, List, overflow_of, take, vec_capacity, vec_len}
use Rattle.qss_states.proofs.requantization.set_new_levels.Given as goal

-- the levels and the rows so far
abbrev pub invariant-loop-state : goal.invariant-loop-state
invariant-loop-state g l = record {
  taken : (new : List ℤ) × AreRequantized l.at.machine.now l.q.name l.at.tick l.at.states.now (take l.state-index l.at.moved.now) l.fn.levels l.levels new l.fn.rows.items l.rows.items (overflow_of l.first);
  few : vec_len l.rows ≤ vec_len l.fn.rows + l.state-index;
  room : vec_capacity l.rows ≡ vec_capacity l.fn.rows;
}
