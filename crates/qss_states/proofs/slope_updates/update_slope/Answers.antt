-- The line of one state goes on, from the tick to which it moves.
use Rattle.qss_states.proofs.Common
use Common.{◌∙◌, ◌≡◌, ap, arith, Bool, due_at, false, get_or-set_other, has_level_and_slope, int_at}
use Common.{IsLineWithinQuantum, IsRestartedFrom, level_unit, Line, line_at, line_here, no_line}
use Common.{not, of_z, quantum_of, refl, state_at, state_count, subst, sym, w128}
use Rattle.qss_states.specs.SlopeUpdates.{MaySchedule}
use Rattle.qss_states.proofs.Counting.{one_if}
use Rattle.qss_states.proofs.GoingOn.{line_read, moved_read}
use Rattle.qss_states.proofs.Renewed.{goes_otherwise, goes_so, one_renewed}
use Rattle.qss_states.proofs.slope_updates.update_slope.Goals as goal

pub schedule_new_slope-requires-clause-ready : goal.schedule_new_slope-requires-clause-ready
schedule_new_slope-requires-clause-ready g c =
    let m = c.args.at.now.event.machine.now in
    let tick = c.args.at.now.event.tick in
    let lines = c.args.lines.now in
    let level = int_at c.args.at.now.event.levels.now c.args.j in
    let old : Line = line_at lines c.args.j in
    let moved = moved_read c.requires.allowed tick c.index-lines-j.result c.move_to.new.self c.move_to.ensures.moved in
    subst (MaySchedule m tick c.args.j level) (sym moved)
    (record {
      here = refl;
      near = subst (λ x. IsLineWithinQuantum (level_unit m) x level (quantum_of m c.args.j level)) (sym (line_here tick (state_at old tick) old.slope old.level)) c.requires.ready.near;
    })

pub returns-clause-goes_on : goal.returns-clause-goes_on
returns-clause-goes_on g c =
    let m = c.args.at.now.event.machine.now in
    let j = c.args.j in
    let tick = c.args.at.now.event.tick in
    let lines = c.args.lines.now in
    let old : Line = line_at lines j in
    let on = c.schedule_new_slope.ensures.goes_on in
    let moved = moved_read c.requires.allowed tick c.index-lines-j.result c.move_to.new.self c.move_to.ensures.moved in
    record {
      own = subst (λ x. IsRestartedFrom m tick x (int_at c.args.at.now.event.levels.now j) (int_at c.args.at.now.slopes.now j) j (line_at c.schedule_new_slope.new.lines j) (due_at c.schedule_new_slope.new.agenda j))
          (ap (λ (l : Line). state_at l tick) moved ∙ line_here tick (state_at old tick) old.slope old.level) on.own;
      others = record { lines = λ k other. on.others.lines k other ∙ get_or-set_other lines j k c.move_to.new.self no_line other; dues = on.others.dues };
    }

pub returns-clause-counted : goal.returns-clause-counted
returns-clause-counted g c =
    let j = c.args.j in
    let lines = c.args.lines.now in
    let level = int_at c.args.at.now.event.levels.now j in
    let slope = int_at c.args.at.now.slopes.now j in
    let on = returns-clause-goes_on g c in
    let read = line_read c.requires.allowed c.index-lines-j.result in
    let other : has_level_and_slope level slope (line_at lines j) ≡ false = goes_otherwise level slope (line_at lines j) (λ own_level own_slope. c.if-line-at-2.false (ap (of_z w128) (ap (λ (l : Line). l.slope) (c.line.view_is ∙ read) ∙ own_slope))) in
    one_renewed (state_count c.args.at.now.event.machine.now) j (λ k. has_level_and_slope (int_at c.args.at.now.event.levels.now k) (int_at c.args.at.now.slopes.now k)) lines c.schedule_new_slope.new.lines
    c.args.steps.now c.move_to.new.steps c.requires.allowed.known (goes_so level slope (line_at c.schedule_new_slope.new.lines j) on.own.own_level on.own.own_slope) on.others.lines
    (omega (arith, c.move_to.ensures.counted, ap (λ (b : Bool). one_if (not b)) other))
