-- The states whose rows read one more variable go on.
use Rattle.qss_states.proofs.Common
use Common.{ℕ, ◌+◌, ◌<◌, ◌∙◌, All, arith, discrete_count, due_at, flat_map, get_or}
use Common.{HaveSlopesUpdated, int_at, line_at, List, lists_more, reading_rows, rows_below}
use Common.{rows_kept, rows_many, Schedules, state_count, subst, sym, take, take_all}
use Rattle.qss_states.proofs.Courses.{may_reslope_again, resloped_then}
use Rattle.qss_states.proofs.GoingOn.{still_on}
use Rattle.qss_states.proofs.slope_updates.update_reader_slopes.Goals as goal

pub rows_of-readers-requires : goal.rows_of-readers-requires
rows_of-readers-requires g c = omega (arith, c.requires.variables c.loop-var.var-index 0 c.loop-var-test.true, rows_many c.args.at.now.event.machine.now c.args.at.now.event.uses.now c.requires.allowed.on.new.uses)

pub update_slopes-requires-clause-states : goal.update_slopes-requires-clause-states
update_slopes-requires-clause-states g c =
    let m = c.args.at.now.event.machine.now in
    let var : ℕ = get_or c.args.variables.now c.loop-var.var-index 0 in
    let known : var < state_count m + discrete_count m = c.requires.variables c.loop-var.var-index 0 c.loop-var-test.true in
    subst (All (λ row. row < state_count m)) (sym c.rows_of-readers.ensures) (rows_below m c.args.at.now.event.uses.now c.requires.allowed.on.new.uses var known (state_count m) (omega arith))

pub update_slopes-requires-clause-allowed : goal.update_slopes-requires-clause-allowed
update_slopes-requires-clause-allowed g c = record {
  on = still_on c.args.at.now c.args.lines.now c.loop-var.lines c.args.agenda.now c.loop-var.agenda c.requires.allowed.on (omega (arith, c.loop-var.invariant.line_count, c.requires.allowed.on.one_each.lines))
      c.loop-var.invariant.resloped.as_many;
  each = λ k h.
      may_reslope_again c.args.at.now.event.machine.now c.args.at.now.event.tick (int_at c.args.at.now.event.levels.now k) (int_at c.args.at.now.slopes.now k) k (line_at c.args.lines.now k) (line_at c.loop-var.lines k)
      (due_at c.args.agenda.now k) (due_at c.loop-var.agenda k) (c.requires.allowed.each k h) (c.loop-var.invariant.resloped.each k h);
}

pub loop-var-preserved : goal.loop-var-preserved
loop-var-preserved g c =
    let m = c.args.at.now.event.machine.now in
    let i = c.loop-var.var-index in
    let inv = c.loop-var.invariant in
    let var : ℕ = get_or c.args.variables.now i 0 in
    let known : var < state_count m + discrete_count m = c.requires.variables i 0 c.loop-var-test.true in
    let first : Schedules = record { lines = c.args.lines.now; dues = c.args.agenda.now } in
    let before : Schedules = record { lines = c.loop-var.lines; dues = c.loop-var.agenda } in
    let after : Schedules = record { lines = c.update_slopes.new.lines; dues = c.update_slopes.new.agenda } in
    let more : HaveSlopesUpdated m c.args.at.now.event.tick c.args.at.now.event.levels.now c.args.at.now.slopes.now (reading_rows m var) before after =
    subst (λ (rows : List ℕ). HaveSlopesUpdated m c.args.at.now.event.tick c.args.at.now.event.levels.now c.args.at.now.slopes.now rows before after)
    (c.rows_of-readers.ensures ∙ rows_kept m c.args.at.now.event.uses.now c.requires.allowed.on.new.uses var known) c.update_slopes.ensures.resloped in
    record {
      resloped = subst (λ (states : List ℕ). HaveSlopesUpdated m c.args.at.now.event.tick c.args.at.now.event.levels.now c.args.at.now.slopes.now states first after)
          (sym (lists_more (reading_rows m) c.args.variables.now i c.loop-var-test.true))
          (resloped_then m c.args.at.now.event.tick c.args.at.now.event.levels.now c.args.at.now.slopes.now (flat_map (reading_rows m) (take i c.args.variables.now)) (reading_rows m var) first before after inv.resloped more);
      line_count = omega (arith, inv.line_count, c.update_slopes.auto.lines);
      counted = omega (arith, inv.counted, c.update_slopes.ensures.counted);
    }

pub returns-clause-resloped : goal.returns-clause-resloped
returns-clause-resloped g c =
    subst (λ (vars : List ℕ). HaveSlopesUpdated c.args.at.now.event.machine.now c.args.at.now.event.tick c.args.at.now.event.levels.now c.args.at.now.slopes.now (flat_map (reading_rows c.args.at.now.event.machine.now) vars)
    (record { lines = c.args.lines.now; dues = c.args.agenda.now }) (record { lines = c.loop-var.lines; dues = c.loop-var.agenda }))
    (take_all c.loop-var.var-index c.args.variables.now c.loop-var-test.false) c.loop-var.invariant.resloped
