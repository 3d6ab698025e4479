-- The states by number are the list.
use Rattle.qss_run.proofs.Common.{arith, fill_by_all, length, line_at, pos, state_at}
use Rattle.qss_run.proofs.event_steps.move_states_along_lines.Goals as goal

pub returns : goal.returns
returns c =
    fill_by_all (λ j. state_at (line_at c.args.lines.now j) c.args.tick) c.loop-j.x (length c.args.lines.now) (pos 0) c.loop-j.invariant.as_many
    (λ k h. c.loop-j.invariant.each k (omega (arith, h, c.loop-j-test.false)))
