use Rattle.qss_states.proofs.Common
use Common.{◌≡◌, exceeds, IsWritten, line_at, overflow_of, pos, state_at, take}
use Rattle.qss_states.proofs.Found.{IsFoundIn}
use Rattle.qss_states.proofs.requantization.move_along_lines.Given as goal

-- the states so far, and the first of them past the limit
abbrev pub invariant-loop-state : goal.invariant-loop-state
invariant-loop-state l = record {
  written : IsWritten (pos 0) (λ j z. z ≡ state_at (line_at l.lines j) l.tick) (take l.state-index l.due) l.fn.x l.x;
  found : IsFoundIn (λ j. exceeds 88 (state_at (line_at l.lines j) l.tick)) l.due l.state-index (overflow_of l.first);
}
