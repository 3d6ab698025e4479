-- The line of one state starts where the state is, and the event queue has its due tick.
use Rattle.qss_states.proofs.Common
use Common.{◌+◌, ◌∙◌, ◌≡◌, ◌≤◌, ap, arith, get_or, get_or-set_same, goes_from, int_at, Line}
use Common.{line_at, line_here, no_line, not, set, state_count, sym}
use Rattle.qss_states.proofs.Counting.{one_if}
use Rattle.qss_states.proofs.Courses.{one_set}
use Rattle.qss_states.proofs.GoingOn.{near_along, has_line, has_place, line_read, level_read}
use Rattle.qss_states.proofs.GoingOn.{slope_read, state_read}
use Rattle.qss_states.proofs.Renewed.{as_here, counted_so, from_here, goes_so, left_so, one_renewed}
use Rattle.qss_states.proofs.Seats.{due_alike}
use Rattle.qss_states.proofs.slope_updates.restart_state_slope.Goals as goal

pub event_tick_leaving_level-requires-clause-near : goal.event_tick_leaving_level-requires-clause-near
event_tick_leaving_level-requires-clause-near g c =
    near_along c.args.at.now.event.machine.now c.args.j _ (int_at c.args.at.now.handled.states.now c.args.j) _ (int_at c.args.at.now.event.levels.now c.args.j) (state_read c.requires.allowed c.args.at.now.handled.states.now c.requires.states)
    (level_read c.requires.allowed) c.requires.near

pub returns-clause-goes_on : goal.returns-clause-goes_on
returns-clause-goes_on g c =
    let m = c.args.at.now.event.machine.now in
    let j = c.args.j in
    let tick = c.args.at.now.event.tick in
    let lines = c.args.lines.now in
    let begun : (get_or lines j c.index-lines-j.result).tick ≤ tick = omega (arith, c.requires.later, ap (λ (l : Line). l.tick) (line_read c.requires.allowed c.index-lines-j.result)) in
    let along = as_here c.replace_line.ensures.moved c.replace_line.ensures.kept c.replace_line.ensures.left begun in
    one_set m tick c.args.at.now.event.levels.now c.args.at.now.slopes.now j (int_at c.args.at.now.handled.states.now j) lines c.replace_line.new.line c.args.agenda.now c.set.new.self c.event_tick_leaving_level.result
    (has_line c.requires.allowed) (has_place c.requires.allowed) c.set.ensures
    (record {
      not_later = along.not_later;
      here = along.here ∙ line_here tick _ _ (int_at c.args.at.now.event.levels.now j) ∙ state_read c.requires.allowed c.args.at.now.handled.states.now c.requires.states;
      own_slope = along.same_slope ∙ slope_read c.requires.allowed;
      own_level = along.same_level ∙ level_read c.requires.allowed;
      is_due = due_alike m tick j _ c.replace_line.new.line c.event_tick_leaving_level.result (omega arith) along.not_later along.here along.same_slope along.same_level c.event_tick_leaving_level.ensures;
    })

pub returns-clause-kept : goal.returns-clause-kept
returns-clause-kept g c so =
    let can = c.requires.allowed in
    get_or-set_same c.args.lines.now c.args.j c.replace_line.new.line no_line (has_line can)
    ∙ left_so c.replace_line.ensures.moved c.replace_line.ensures.kept c.replace_line.ensures.left
    (rw (state_read can c.args.at.now.handled.states.now c.requires.states, level_read can, slope_read can, line_read can c.index-lines-j.result) so)
    ∙ line_read can c.index-lines-j.result

pub returns-clause-counted : goal.returns-clause-counted
returns-clause-counted g c states at =
    let j = c.args.j in
    let can = c.requires.allowed in
    let tick = c.args.at.now.event.tick in
    let level = int_at c.args.at.now.event.levels.now j in
    let slope = int_at c.args.at.now.slopes.now j in
    let lines = c.args.lines.now in
    let on = returns-clause-goes_on g c in
    let few : c.replace_line.new.steps ≡ c.args.steps.now + one_if (not (goes_from tick (int_at states j) level slope (line_at lines j))) =
    rw at (rw (state_read can c.args.at.now.handled.states.now c.requires.states, level_read can, slope_read can, line_read can c.index-lines-j.result) at
    (counted_so c.replace_line.ensures.moved c.replace_line.ensures.kept c.replace_line.ensures.left)) in
    one_renewed (state_count c.args.at.now.event.machine.now) j (λ k. goes_from tick (int_at states k) (int_at c.args.at.now.event.levels.now k) (int_at c.args.at.now.slopes.now k)) lines
    (set lines j c.replace_line.new.line) c.args.steps.now c.replace_line.new.steps can.known
    (from_here tick (int_at states j) level slope (line_at (set lines j c.replace_line.new.line) j) (on.own.here ∙ sym at) ∙ goes_so level slope (line_at (set lines j c.replace_line.new.line) j) on.own.own_level on.own.own_slope)
    on.others.lines few
