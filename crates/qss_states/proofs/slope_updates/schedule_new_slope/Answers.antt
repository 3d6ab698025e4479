-- The line of one state goes on, and the event queue has its due tick.
use Rattle.qss_states.proofs.Common.{ℤ, ◌≡◌, get_or, int_at, Line, line_at, state_at}
use Rattle.qss_states.proofs.Courses.{one_set}
use Rattle.qss_states.proofs.GoingOn.{goes_on_from, has_line, has_place, level_read, line_read}
use Rattle.qss_states.proofs.GoingOn.{line_with, near_on, slope_read, small_level, small_slope}
use Rattle.qss_states.proofs.slope_updates.schedule_new_slope.Goals as goal

pub set_slope_and_level-requires-clause-slope : goal.set_slope_and_level-requires-clause-slope
set_slope_and_level-requires-clause-slope c = rw (slope_read c.requires.allowed) (small_slope c.requires.allowed)

pub set_slope_and_level-requires-clause-level : goal.set_slope_and_level-requires-clause-level
set_slope_and_level-requires-clause-level c = rw (level_read c.requires.allowed) (small_level c.requires.allowed)

pub event_tick_leaving_level-requires-clause-near : goal.event_tick_leaving_level-requires-clause-near
event_tick_leaving_level-requires-clause-near c =
    let j = c.args.j in
    let lines = c.args.lines.now in
    let slope : ℤ = int_at c.args.at.now.slopes.now j in
    let level : ℤ = int_at c.args.at.now.event.levels.now j in
    let old : Line = get_or lines j c.index-lines-j.result in
    let is : c.set_slope_and_level.new.line ≡ record (line_at lines j) { slope = slope; level = level } =
    line_with (line_at lines j) old c.set_slope_and_level.new.line slope level _ _ (line_read c.requires.allowed c.index-lines-j.result) (slope_read c.requires.allowed) (level_read c.requires.allowed) c.set_slope_and_level.ensures in
    near_on c.args.at.now.event.machine.now c.args.at.now.event.tick j slope level (line_at lines j) c.set_slope_and_level.new.line c.requires.ready.here is c.requires.ready.near

pub set-requires : goal.set-requires
set-requires c = has_place c.requires.allowed

pub returns : goal.returns
returns c =
    let m = c.args.at.now.event.machine.now in
    let j = c.args.j in
    let tick = c.args.at.now.event.tick in
    let lines = c.args.lines.now in
    let slope : ℤ = int_at c.args.at.now.slopes.now j in
    let level : ℤ = int_at c.args.at.now.event.levels.now j in
    let old : Line = get_or lines j c.index-lines-j.result in
    let is : c.set_slope_and_level.new.line ≡ record (line_at lines j) { slope = slope; level = level } =
    line_with (line_at lines j) old c.set_slope_and_level.new.line slope level _ _ (line_read c.requires.allowed c.index-lines-j.result) (slope_read c.requires.allowed) (level_read c.requires.allowed) c.set_slope_and_level.ensures in
    record {
      goes_on = one_set m tick c.args.at.now.event.levels.now c.args.at.now.slopes.now j (state_at (line_at lines j) tick) lines c.set_slope_and_level.new.line c.args.agenda.now c.set.new.self c.event_tick_leaving_level.result
          (has_line c.requires.allowed) (has_place c.requires.allowed) c.set.ensures (goes_on_from m tick j slope level (line_at lines j) c.set_slope_and_level.new.line c.requires.ready.here is c.event_tick_leaving_level.result c.event_tick_leaving_level.ensures);
    }
