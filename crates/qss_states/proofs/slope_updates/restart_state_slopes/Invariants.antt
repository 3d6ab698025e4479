use Rattle.qss_states.proofs.Common
use Common.{ℕ, ℤ, ◌≡◌, AreScheduled, goes_from, int_at, is_listed, length, line_at, List}
use Common.{state_count, take, true}
use Rattle.qss_states.specs.LineReplacements.{IsCountedFrom}
use Rattle.qss_states.proofs.slope_updates.restart_state_slopes.Given as goal

-- the moved states so far
abbrev pub invariant-loop-j : goal.invariant-loop-j
invariant-loop-j g l = record {
  on : AreScheduled l.at.event.machine.now l.at.event.tick l.at.event.levels.now l.at.slopes.now (take l.j-index l.at.event.moved.now) (int_at l.at.handled.states.now) (record { lines = l.fn.lines; dues = l.fn.agenda }) (record { lines = l.lines; dues = l.agenda });
  kept : (j : ℕ) → goes_from l.at.event.tick (int_at l.at.handled.states.now j) (int_at l.at.event.levels.now j) (int_at l.at.slopes.now j) (line_at l.fn.lines j) ≡ true → line_at l.lines j ≡ line_at l.fn.lines j;
  line_count : length l.lines ≡ state_count l.at.event.machine.now;
  counted : (states : List ℤ) → ((j : ℕ) → is_listed l.at.event.moved.now j ≡ true → int_at states j ≡ int_at l.at.handled.states.now j) →
      IsCountedFrom (state_count l.at.event.machine.now) l.at.event.tick states l.at.event.levels.now l.at.slopes.now l.fn.lines l.lines l.fn.steps l.steps;
}
