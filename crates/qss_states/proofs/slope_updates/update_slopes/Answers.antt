-- One more state goes on.
use Rattle.qss_states.proofs.Common
use Common.{[], ℕ, ◌<◌, ◌∷◌, arith, due_at, get_or, HaveSlopesUpdated, int_at, line_at, List}
use Common.{Schedules, state_count, subst, sym, take, take_more}
use Rattle.qss_states.proofs.Courses.{may_reslope_again, one_resloped, resloped_then}
use Rattle.qss_states.proofs.GoingOn.{still_on}
use Rattle.qss_states.proofs.slope_updates.update_slopes.Goals as goal

pub update_slope-requires-clause-allowed : goal.update_slope-requires-clause-allowed
update_slope-requires-clause-allowed g c = record {
  known = c.requires.states c.loop-j.j-index 0 c.loop-j-test.true;
  all = still_on c.args.at.now c.args.lines.now c.loop-j.lines c.args.agenda.now c.loop-j.agenda c.requires.allowed.on (omega (arith, c.loop-j.invariant.line_count, c.requires.allowed.on.one_each.lines))
      c.loop-j.invariant.resloped.as_many;
}

pub update_slope-requires-clause-ready : goal.update_slope-requires-clause-ready
update_slope-requires-clause-ready g c =
    let k : ℕ = get_or c.args.states.now c.loop-j.j-index 0 in
    let known : k < state_count c.args.at.now.event.machine.now = c.requires.states c.loop-j.j-index 0 c.loop-j-test.true in
    may_reslope_again c.args.at.now.event.machine.now c.args.at.now.event.tick (int_at c.args.at.now.event.levels.now k) (int_at c.args.at.now.slopes.now k) k (line_at c.args.lines.now k) (line_at c.loop-j.lines k)
    (due_at c.args.agenda.now k) (due_at c.loop-j.agenda k) (c.requires.allowed.each k known) (c.loop-j.invariant.resloped.each k known)

pub loop-j-preserved : goal.loop-j-preserved
loop-j-preserved g c =
    let m = c.args.at.now.event.machine.now in
    let i = c.loop-j.j-index in
    let inv = c.loop-j.invariant in
    let state : ℕ = get_or c.args.states.now i 0 in
    let known : state < state_count m = c.requires.states i 0 c.loop-j-test.true in
    let first : Schedules = record { lines = c.args.lines.now; dues = c.args.agenda.now } in
    let before : Schedules = record { lines = c.loop-j.lines; dues = c.loop-j.agenda } in
    let after : Schedules = record { lines = c.update_slope.new.lines; dues = c.update_slope.new.agenda } in
    let one : HaveSlopesUpdated m c.args.at.now.event.tick c.args.at.now.event.levels.now c.args.at.now.slopes.now (state ∷ []) before after =
    one_resloped m c.args.at.now.event.tick c.args.at.now.event.levels.now c.args.at.now.slopes.now state before after known c.update_slope.ensures.goes_on c.update_slope.ensures.kept in
    record {
      resloped = subst (λ (states : List ℕ). HaveSlopesUpdated m c.args.at.now.event.tick c.args.at.now.event.levels.now c.args.at.now.slopes.now states first after) (sym (take_more c.args.states.now i 0 c.loop-j-test.true))
          (resloped_then m c.args.at.now.event.tick c.args.at.now.event.levels.now c.args.at.now.slopes.now (take i c.args.states.now) (state ∷ []) first before after inv.resloped one);
      line_count = omega (arith, inv.line_count, c.update_slope.auto.lines);
      counted = omega (arith, inv.counted, c.update_slope.ensures.counted);
    }
